mod CharacterLaws
mod LentLaws
mod Shapes
mod TextLaws
mod WindowLaws
