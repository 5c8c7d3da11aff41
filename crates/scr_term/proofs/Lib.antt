pub mod Attributes
pub mod Parameters
pub mod Ecma48Laws
mod LookGridLaws
pub mod BundledTextLaws
pub mod NegativeLaws
pub mod CharacterLaws
pub mod ChoiceLaws
pub mod LeadsLaws
pub mod RenditionLaws
mod ShownPenLaws
mod ProfileLaws
pub mod OperationLaws
mod StepLaws
mod DefinedLaws
mod RunTextLaws
pub mod RenderingLaws
pub mod AdmissionLaws
mod LargerLaws
pub mod BundledSuitsLaws
pub mod BundledLaws
