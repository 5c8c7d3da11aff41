-- A screen that receives the text sent to a terminal in pieces, and the laws of texts.
pub mod Screens
pub mod Laws
