-- What the code makes of an operation, and which piece it is.
use Rattle.std.specs.Prelude.{[], ◌∷◌}
use Rattle.scr_term.specs.declared.operations.capability.Capability.TheVariants.{Sgr}
use Rattle.scr_term.specs.declared.operations.pieces.SentPiece.{SentPiece}
use Rattle.scr_term.specs.declared.operations.pieces.SentPiece.TheVariants.{Byte, Encoded, Numbers, Renditions}
use Rattle.scr_term.specs.Operations.Pieces.{Piece, Character, Spelled, Text}
use Rattle.scr_term.specs.Operations.Texts.{nine, renditions_of}

abbrev pub piece_of : SentPiece → Piece
piece_of (Byte byte) = Character byte
piece_of (Encoded character) = Spelled character
piece_of (Numbers capability first second) = Text capability (nine (first ∷ second ∷ []))
piece_of (Renditions set) = Text Sgr (renditions_of set.0)
