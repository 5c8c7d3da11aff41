-- A terminal that may be larger than the screen: nothing is inserted, deleted or scrolled there, since that would bring in
-- lines and columns from beyond the screen, and the screen's last line is not the one at which the terminal scrolls.
-- terminfo(5), 'Insert/Delete Line', 'Insert/Delete Character'.
use Rattle.std.specs.Prelude.{◌≡◌, Bool, true, false, Option}
use Rattle.scr_cells.specs.declared.charsets.Charset.{Charset}
use Rattle.scr_cells.specs.declared.sizes.Size.{Size}
use Rattle.ti_caps.specs.Adapted.{without_moves}
use Rattle.ti_caps.specs.Description.{Description}
use Rattle.scr_term.specs.declared.operations.operation.Op.{Op}
use Rattle.scr_term.specs.declared.operations.operation.Op.TheVariants.{DeleteChars, DeleteLines, InsertChars, InsertLines, ScrollDown, ScrollUp}
use Rattle.scr_term.specs.Operations.Admission.{IsAdmittedAs, IsEquipped, IsSuitable, refusal}
use Rattle.scr_term.specs.Operations.Profiles.{ProfileView}
use Rattle.scr_term.specs.Operations.Texts.{has}

-- The operation inserts or deletes lines or characters, or scrolls.
abbrev pub is_moving : Op → Bool
is_moving (InsertLines n) = true
is_moving (DeleteLines n) = true
is_moving (InsertChars n) = true
is_moving (DeleteChars n) = true
is_moving (ScrollUp n) = true
is_moving (ScrollDown n) = true
is_moving op = false

-- The profile has no such operation.
abbrev pub MovesNothing : ProfileView → Type 0
MovesNothing profile = (op : Op) → is_moving op ≡ true → has profile op ≡ false

-- An entry without the texts for this is refused exactly as it is with them, and its profile moves nothing.
pub record MovesRefuseNothing : Type 0 where
  pub refused : (entry : Description) (size : Option Size) → refusal (without_moves entry) size ≡ refusal entry size
  pub suitable : (entry : Description) → IsSuitable (without_moves entry) → IsSuitable entry
  pub equipped : (entry : Description) (size : Option Size) → IsEquipped (without_moves entry) size → IsEquipped entry size
  pub nothing : (charset : Charset) (entry : Description) (size : Option Size) (profile : ProfileView) → IsAdmittedAs charset (without_moves entry) size profile → MovesNothing profile
