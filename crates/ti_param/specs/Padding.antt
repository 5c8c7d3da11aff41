-- Padding in a capability's text: terminfo(5), 'Delays and Padding'. A delay in milliseconds may be anywhere in a
-- text, as `$<5>`, `$<2.5*>` or `$<10*/>`.
use Rattle.std.specs.Prelude.{◌≡◌, ◌≢◌, ℕ, ◌⊎◌, true, List, [], ◌∷◌, ◌++◌, codes}
use Rattle.ti_param.specs.Digits.{is_digit, all_digits}

-- A point with one digit, or nothing.
abbrev pub IsTenth : List ℕ → Type 0
IsTenth text = (text ≡ []) ⊎ ((digit : ℕ) × (is_digit digit ≡ true) × (text ≡ codes "." ++ digit ∷ []))

-- What may follow the number: `*`, the delay is for each line affected; `/`, it is mandatory; or both, in either order.
pub data AreMarks : List ℕ → Type 0 where
  none : AreMarks []
  for_each_line : AreMarks (codes "*")
  mandatory : AreMarks (codes "/")
  line_first : AreMarks (codes "*/")
  line_last : AreMarks (codes "/*")

-- A padding: `$<`, at least one digit, a tenth or nothing, `*` or `/` or both or neither, and `>`.
pub record IsPadding (text : List ℕ) : Type 0 where
  pub digits : List ℕ
  pub tenth : List ℕ
  pub marks : List ℕ
  pub whole : text ≡ codes "$<" ++ (digits ++ (tenth ++ (marks ++ codes ">")))
  pub are_digits : all_digits digits ≡ true
  pub some : digits ≢ []
  pub is_tenth : IsTenth tenth
  pub are_marks : AreMarks marks

-- The text does not begin with a padding.
abbrev pub BeginsWithout : List ℕ → Type 0
BeginsWithout text = (padding rest : List ℕ) → text ≡ padding ++ rest → IsPadding padding → ⊥

-- `Stripped text result`: the result is the text without its padding, removed once from the left. Where a padding
-- begins, it is left out, and what follows is looked at next; every other byte stays. So bytes that only meet after a
-- removal are not padding.
pub data Stripped : List ℕ → List ℕ → Type 0 where
  ended : Stripped [] []
  left_out : {text padding rest result : List ℕ} → text ≡ padding ++ rest → IsPadding padding → Stripped rest result → Stripped text result
  kept : {byte : ℕ} {rest result : List ℕ} → BeginsWithout (byte ∷ rest) → Stripped rest result → Stripped (byte ∷ rest) (byte ∷ result)

-- Removing the padding of a text has one result.
abbrev pub IsStrippedOnce : Type 0
IsStrippedOnce = (text one other : List ℕ) → Stripped text one → Stripped text other → one ≡ other
