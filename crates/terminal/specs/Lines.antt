-- What a program knows of the line of its terminal, and what a read of it changes.
use Rattle.std.specs.Prelude.{ℕ, ◌≡◌, ◌<◌, ◌⊎◌, Bool, true, false, List, Option, Some, Result, Ok, Err}
use Rattle.std.specs.Io.{ReadsAtMost}
use Rattle.std.specs.Io.KnownBytes.{ReadConsumes}
use Rattle.std.specs.IoError.{error_kind}
use Rattle.std.specs.declared.io.Error.{Error}
use Rattle.scr_cells.specs.declared.sizes.Size.{Size}
use Rattle.terminal.specs.Inputs.{empty_input, failed_input, heard, sudden_after}
use Rattle.terminal.specs.Sizes.{Finds, SaySize}
use Rattle.terminal.specs.declared.input.Input.{Input}
use Rattle.terminal.specs.declared.input.Input.TheVariants.{Bytes, Failed}
use Rattle.terminal.specs.declared.sizes.SizeMessage.{SizeMessage}
use Rattle.terminal.specs.declared.sizes.SizeMessage.TheVariants as told

-- The terminal's size, if anything says what it is; whether the program is asked to end, and to stop; how many empty
-- reads in a row were sudden; and whether there is a folder that messages to the line come from.
pub record LineView : Type 0 where
  pub size : Option Size
  pub is_ending : Bool
  pub is_stopping : Bool
  pub sudden : ℕ
  pub has_folder : Bool

-- The line after this message: a size is the new one, and ends a stop; an end stays.
abbrev pub after_told : LineView → SizeMessage → LineView
after_told line (told.Size size) = record line { size = Some size; is_stopping = false }
after_told line told.End = record line { is_ending = true }
after_told line told.Stop = record line { is_stopping = true }
after_told line told.Nothing = line

-- A look at the folder found something; without a folder, nothing.
pub record IsLook (old new : LineView) : Type 0 where
  pub said : SizeMessage
  pub silent : old.has_folder ≡ false → said ≡ told.Nothing
  pub taken : new ≡ after_told old said

-- An empty read took so many nanoseconds, and means this.
pub record IsEmptyRead (old new : LineView) (input : Input) : Type 0 where
  pub nanoseconds : ℕ
  pub counted : new ≡ record old { sudden = sudden_after old.sudden nanoseconds }
  pub is : input ≡ empty_input new.sudden

-- The clock or the keyboard cannot be read.
abbrev pub IsFailedRead : LineView → LineView → Input → Type 0
IsFailedRead old new input = (new ≡ old) × (input ≡ Failed)

-- What the answer of one read means: the count of the bytes that were read, where there are any.
abbrev pub Means : Result ℕ Error → LineView → LineView → Input → Type 0
Means (Ok count) old new input =
    (count ≡ 0 → IsEmptyRead old new input ⊎ IsFailedRead old new input) × (0 < count → (new ≡ record old { sudden = 0 }) × (input ≡ Bytes count))
Means (Err error) old new input = (new ≡ old) × (input ≡ failed_input (error_kind error))

-- One read of a keyboard from which these bytes are still to come, and then those: what was read is the beginning of
-- the piece, and is all that is gone.
pub record IsKeyboardRead (before after : Option (List ℕ)) (piece : List ℕ) (old new : LineView) (input : Input) : Type 0 where
  pub answer : Result ℕ Error
  pub within : ReadsAtMost answer piece
  pub bytes : ReadConsumes before after answer piece
  pub means : Means answer old new input

-- No read: the clock cannot be read or there is no room. What is still to come stays.
pub record IsNoRead (before after : Option (List ℕ)) (old new : LineView) (input : Input) : Type 0 where
  pub failed : IsFailedRead old new input
  pub kept : after ≡ before

-- A read of the line: one of the keyboard, from which these bytes are still to come, and then those; or none where the
-- clock cannot be read or there is no room. Then a look at the folder. If that or an earlier one found an end, or it
-- found a stop, the program hears of it where nothing came.
pub record IsLineRead (before after : Option (List ℕ)) (piece : List ℕ) (old new : LineView) (input : Input) : Type 0 where
  pub between : LineView
  pub found : Input
  pub read : IsNoRead before after old between found ⊎ IsKeyboardRead before after piece old between found
  pub looked : IsLook between new
  pub is : input ≡ heard new.is_ending new.is_stopping found

-- A line that was just opened: the size that two variables say, if they say one, and what a first look at the folder
-- found.
pub record IsOpened (line : LineView) : Type 0 where
  pub rows : List ℕ
  pub columns : List ℕ
  pub said : Option Size
  pub size : Finds (SaySize rows columns) said
  pub looked : IsLook (record { size = said; is_ending = false; is_stopping = false; sudden = 0; has_folder = line.has_folder }) line
