-- Sizes of terminals, as text and as they are used.
use Rattle.std.specs.Prelude.{ℕ, ◌≡◌, ◌≢◌, ◌^◌, ◌<◌, List, [], ◌∷◌, ◌++◌, length, get_or, Option, Some, None, IfSome, IsSome, ◌↔◌, ◌≤◌, min}
use Rattle.std.specs.Str.Parse.{IsNumeral, digits_value, without_leading_plus}
use Rattle.scr_cells.specs.declared.sizes.Size.{Size}
use Rattle.terminal.specs.declared.sizes.SizeMessage.{SizeMessage}
use Rattle.terminal.specs.declared.sizes.SizeMessage.TheVariants as told

-- What is found is what is looked for; nothing is found where there is no such thing.
abbrev pub Finds : {A : Type 0} → (A → Type 0) → Option A → Type 0
Finds IsIt (Some x) = IsIt x
Finds {A} IsIt None = (x : A) → IsIt x → ⊥

-- A number below 2 ^ 32 in decimal digits, after a plus sign or none.
pub record IsNumber (text : List ℕ) (n : ℕ) : Type 0 where
  pub digits : IsNumeral 10 (without_leading_plus text)
  pub value : n ≡ digits_value 10 (without_leading_plus text)
  pub small : n < 2 ^ 32

-- The size of a terminal of so many rows and columns: none if either is 0, and 500 for more of either.
pub record IsCapped (rows columns : ℕ) (size : Option Size) : Type 0 where
  pub known : IsSome size ↔ ((1 ≤ rows) × (1 ≤ columns))
  pub in_rows : IfSome size (λ s. s.rows ≡ min rows 500)
  pub in_columns : IfSome size (λ s. s.columns ≡ min columns 500)

-- Two texts say a size: they are numbers of rows and of columns, at least 1, of which at most 500 are used.
pub record SaySize (rows columns : List ℕ) (size : Size) : Type 0 where
  pub row_count : ℕ
  pub column_count : ℕ
  pub in_rows : IsNumber rows row_count
  pub in_columns : IsNumber columns column_count
  pub capped : IsCapped row_count column_count (Some size)

-- A text is these two fields: the first has no blank, a blank is between them, and a line feed at the end.
pub record AreFields (text rows columns : List ℕ) : Type 0 where
  pub line : text ≡ rows ++ 32 ∷ columns ++ 10 ∷ []
  pub first : (i : ℕ) → i < length rows → get_or rows i 0 ≢ 32

-- A text tells a size: it is the line `ROWS COLUMNS`.
pub record TellsSize (text : List ℕ) (size : Size) : Type 0 where
  pub rows : List ℕ
  pub columns : List ℕ
  pub line : text ≡ rows ++ 32 ∷ columns ++ 10 ∷ []
  pub says : SaySize rows columns size

-- The line that asks the program to end: `end` and a line feed.
abbrev pub end_line : List ℕ
end_line = 101 ∷ 110 ∷ 100 ∷ 10 ∷ []

-- The line that asks the program to stop: `stop` and a line feed.
abbrev pub stop_line : List ℕ
stop_line = 115 ∷ 116 ∷ 111 ∷ 112 ∷ 10 ∷ []

-- What a text tells: the size that it tells, the end, a stop, or nothing where it tells none of these.
abbrev pub Tells : List ℕ → SizeMessage → Type 0
Tells text (told.Size size) = TellsSize text size
Tells text told.End = text ≡ end_line
Tells text told.Stop = text ≡ stop_line
Tells text told.Nothing = (text ≢ end_line) × (text ≢ stop_line) × ((size : Size) → TellsSize text size → ⊥)
