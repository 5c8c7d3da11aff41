mod CursorLaws
mod SizeLaws
pub mod LocaleLaws
