-- The form of a printed field, and what it means.
use Rattle.std.proofs.Common.{◌≡◌, ◌∙◌, ℕ, zero, suc, ◌+◌, ◌-◌, ◌≤◌, ◌<◌, Bool, true, false, not, ◌&&◌, eqb, leb, List, [], ◌∷◌, ◌++◌, take, drop, reverse, length, get_or, Some, refl, ap, sym, arith, inl, inr}
use Rattle.std.specs.Fmt.{decimal}
use Rattle.std.specs.List.{list_all, prefix_len}
use Rattle.std.specs.Str.{bytes_eq}
use Rattle.std.proofs.lemmas.Bool.Decides.{nat_tests}
use Rattle.std.proofs.lemmas.Bool.{cases_lt}
use Rattle.std.proofs.lemmas.List.{get_or-reverse, length-reverse}
use Rattle.std.proofs.lemmas.List.Sums.{prefix_len-le-length, prefix_len_passes}
use Rattle.ti_caps.specs.declared.table.Kind.{Kind}
use Rattle.ti_caps.specs.declared.table.Kind.TheVariants.{Flag, Number, Text}
use Rattle.ti_caps.specs.Table.{name_at, capability_of}
use Rattle.ti_source.specs.declared.reading.statement.FieldValue.{FieldValue}
use Rattle.ti_source.specs.declared.reading.statement.FieldValue.TheVariants as field_value
use Rattle.ti_source.specs.Reading.Escape.{printed_text, IsText}
use Rattle.ti_source.specs.Reading.Field.{form_of, form_of_trimmed, form_by, is_blank, ends_name, name_length, without_lead, without_trail}
use Rattle.ti_source.specs.Reading.Sources.{States, is_great, limited, meaning}
use Rattle.ti_source.proofs.EscapesBackLaws.{decoded-printed_text}
use Rattle.ti_source.proofs.NumbersBackLaws.{number-decimal}
use Rattle.ti_source.proofs.TableBytesLaws.{both, begins_letter, is_graphic, is_letter, is_written, name-is-written}
use Rattle.ti_source.proofs.FieldsBackLaws.{IsValue, IsValue-append, IsValue-first, letters-are-value, decimal-is-value, printed_text-is-value}

graphic-no_blank : (b : ℕ) → is_graphic b ≡ true → is_blank b ≡ false
graphic-no_blank b e = grind (arith, nat_tests)

all-at : (p : ℕ → Bool) (xs : List ℕ) (i : ℕ) → list_all p xs ≡ true → i < length xs → p (get_or xs i 0) ≡ true
all-at p [] i e lt = absurd (omega arith)
all-at p (x ∷ xs) zero e lt = (both (p x) (list_all p xs) e).0
all-at p (x ∷ xs) (suc i) e lt = all-at p xs i (both (p x) (list_all p xs) e).1 (omega arith)

no-last-blanks : (w : List ℕ) → list_all is_graphic w ≡ true → prefix_len is_blank (reverse w) ≡ 0
no-last-blanks w e =
    elim (cases_lt 0 (prefix_len is_blank (reverse w))) [
      | inl some ↦
          let long : 0 < length w = omega (arith, prefix_len-le-length is_blank (reverse w), length-reverse w) in
          let blank : is_blank (get_or (reverse w) 0 0) ≡ true = prefix_len_passes is_blank (reverse w) 0 0 some in
          let at : get_or (reverse w) 0 0 ≡ get_or w (length w - 1 - 0) 0 = get_or-reverse w 0 0 long in
          let none : is_blank (get_or w (length w - 1 - 0) 0) ≡ false = graphic-no_blank (get_or w (length w - 1 - 0) 0) (all-at is_graphic w (length w - 1 - 0) e (omega arith)) in
          let bad : true ≡ false = sym blank ∙ ap is_blank at ∙ none in
          cc
      | inr none ↦ omega arith
    ]

no-blanks : (xs : List ℕ) → list_all is_graphic xs ≡ true → prefix_len is_blank xs ≡ 0
no-blanks [] e = refl
no-blanks (b ∷ bs) e = rw (graphic-no_blank b (both (is_graphic b) (list_all is_graphic bs) e).0) refl

take-whole : (xs : List ℕ) → take (length xs) xs ≡ xs
take-whole [] = refl
take-whole (x ∷ xs) = ap (λ ys. x ∷ ys) (take-whole xs)

none-less : (n : ℕ) → n - 0 ≡ n
none-less n = omega arith

lead-value : (w : List ℕ) → list_all is_graphic w ≡ true → without_lead (9 ∷ w) ≡ w
lead-value w e = rw (no-blanks w e) refl

trail-value : (w : List ℕ) → list_all is_graphic w ≡ true → without_trail w ≡ w
trail-value w e =
    let none : prefix_len is_blank (reverse w) ≡ 0 = no-last-blanks w e in
    ap (λ k. take (length w - k) w) none ∙ ap (λ k. take k w) (none-less (length w)) ∙ take-whole w

-- what follows a name: nothing, or a byte that ends it
abbrev pub ends_here : List ℕ → Bool
ends_here [] = true
ends_here (b ∷ bs) = ends_name b

letter-goes_on : (b : ℕ) → is_letter b ≡ true → ends_name b ≡ false
letter-goes_on b e = grind (arith, nat_tests)

pub one-first : (n : ℕ) → 1 + n ≡ suc n
one-first n = omega arith

length-name : (name value : List ℕ) → list_all is_letter name ≡ true → ends_here value ≡ true → name_length (name ++ value) ≡ length name
length-name [] [] e f = refl
length-name [] (b ∷ bs) e f = rw f refl
length-name (b ∷ bs) value e f =
    let parts = both (is_letter b) (list_all is_letter bs) e in
    rw (letter-goes_on b parts.0) (ap (λ k. 1 + k) (length-name bs value parts.1 f) ∙ one-first (length bs))

pub take-front : (xs ys : List ℕ) → take (length xs) (xs ++ ys) ≡ xs
take-front [] ys = refl
take-front (x ∷ xs) ys = ap (λ zs. x ∷ zs) (take-front xs ys)

drop-front : (xs ys : List ℕ) → drop (length xs) (xs ++ ys) ≡ ys
drop-front [] ys = refl
drop-front (x ∷ xs) ys = drop-front xs ys

pub drop-one-more : (xs ys : List ℕ) → drop (suc (length xs)) (xs ++ ys) ≡ drop 1 ys
drop-one-more [] ys = refl
drop-one-more (x ∷ xs) ys = drop-one-more xs ys

pub one-more : (n : ℕ) → n + 1 ≡ suc n
one-more n = omega arith

-- the form of a name and what follows it
trimmed-form : (name value : List ℕ) → is_written name ≡ true → ends_here value ≡ true → form_of_trimmed (name ++ value) (name ++ value) ≡ form_by name value (drop 1 value)
trimmed-form [] value w e = cc
trimmed-form (b ∷ bs) value w e =
    let parts = both (not (eqb b 46)) (list_all is_letter (b ∷ bs) && not (bytes_eq (b ∷ bs) (117 ∷ 115 ∷ 101 ∷ []))) w in
    let letters = both (list_all is_letter (b ∷ bs)) (not (bytes_eq (b ∷ bs) (117 ∷ 115 ∷ 101 ∷ []))) parts.1 in
    let dot : eqb b 46 ≡ false = not-true (eqb b 46) parts.0 in
    let whole = (b ∷ bs) ++ value in
    let n = length-name (b ∷ bs) value letters.0 e in
    let plain : form_of_trimmed whole whole ≡ form_by (take (name_length whole) whole) (drop (name_length whole) whole) (drop (name_length whole + 1) whole) = rw dot refl in
    plain ∙ ap (λ k. form_by (take k whole) (drop k whole) (drop (k + 1) whole)) n
    ∙ ap (λ x. form_by x (drop (length (b ∷ bs)) whole) (drop (length (b ∷ bs) + 1) whole)) (take-front (b ∷ bs) value)
    ∙ ap (λ x. form_by (b ∷ bs) x (drop (length (b ∷ bs) + 1) whole)) (drop-front (b ∷ bs) value)
    ∙ ap (λ k. form_by (b ∷ bs) value (drop k whole)) (one-more (length (b ∷ bs)))
    ∙ ap (form_by (b ∷ bs) value) (drop-one-more (b ∷ bs) value)
  where
    not-true : (t : Bool) → not t ≡ true → t ≡ false
    not-true true h = cc
    not-true false h = refl

form-of-value : (w : List ℕ) → list_all is_graphic w ≡ true → form_of (9 ∷ w) ≡ form_of_trimmed w w
form-of-value w e =
    ap (λ x. form_of_trimmed (without_trail x) x) (lead-value w e) ∙ ap (λ x. form_of_trimmed x w) (trail-value w e)

-- what is written after a name
abbrev pub value_of : FieldValue → List ℕ
value_of field_value.Present = []
value_of (field_value.Number n) = 35 ∷ decimal n
value_of (field_value.Text text) = 61 ∷ printed_text text
value_of field_value.Cancelled = 64 ∷ []

-- what a capability of a kind can have
abbrev pub Fits : Kind → FieldValue → Type 0
Fits Flag field_value.Present = Unit {0}
Fits Number (field_value.Number n) = n ≤ 32767
Fits Text (field_value.Text text) = IsText text
Fits _ _ = ⊥

-- the name and what is written after it
record IsField (name value : List ℕ) : Type 0 where
  whole : IsValue (name ++ value)
  form : form_of (9 ∷ (name ++ value)) ≡ form_by name value (drop 1 value)

field-of : (name value : List ℕ) → is_written name ≡ true → ends_here value ≡ true → IsValue value → IsField name value
field-of name value w e is =
    let parts = both (begins_letter name) (list_all is_letter name && not (bytes_eq name (117 ∷ 115 ∷ 101 ∷ []))) w in
    let letters = both (list_all is_letter name) (not (bytes_eq name (117 ∷ 115 ∷ 101 ∷ []))) parts.1 in
    let all = IsValue-append name value (letters-are-value name letters.0) is in
    record { whole = all; form = form-of-value (name ++ value) all.graphic ∙ trimmed-form name value w e }

pub value-is-value : (kind : Kind) (s : FieldValue) → Fits kind s → IsValue (value_of s)
value-is-value Flag field_value.Present h = letters-are-value [] refl
value-is-value Number (field_value.Number n) h = IsValue-first 35 (decimal n) refl refl refl (decimal-is-value n (omega arith))
value-is-value Text (field_value.Text text) h = IsValue-first 61 (printed_text text) refl refl refl (printed_text-is-value text h)
value-is-value Flag (field_value.Number n) h = absurd h
value-is-value Flag (field_value.Text t) h = absurd h
value-is-value Flag field_value.Cancelled h = absurd h
value-is-value Number field_value.Present h = absurd h
value-is-value Number (field_value.Text t) h = absurd h
value-is-value Number field_value.Cancelled h = absurd h
value-is-value Text field_value.Present h = absurd h
value-is-value Text (field_value.Number n) h = absurd h
value-is-value Text field_value.Cancelled h = absurd h

value-ends : (s : FieldValue) → ends_here (value_of s) ≡ true
value-ends field_value.Present = refl
value-ends (field_value.Number n) = refl
value-ends (field_value.Text text) = refl
value-ends field_value.Cancelled = refl

not-use : (name : List ℕ) → is_written name ≡ true → bytes_eq name (117 ∷ 115 ∷ 101 ∷ []) ≡ false
not-use name w =
    let parts = both (begins_letter name) (list_all is_letter name && not (bytes_eq name (117 ∷ 115 ∷ 101 ∷ []))) w in
    not-true (bytes_eq name (117 ∷ 115 ∷ 101 ∷ [])) (both (list_all is_letter name) (not (bytes_eq name (117 ∷ 115 ∷ 101 ∷ []))) parts.1).1
  where
    not-true : (t : Bool) → not t ≡ true → t ≡ false
    not-true true h = cc
    not-true false h = refl

-- what such a field means
means : (kind : Kind) (slot : ℕ) (s : FieldValue) (name : List ℕ) → Fits kind s → is_written name ≡ true → capability_of name ≡ Some (kind, slot) → meaning (form_by name (value_of s) (drop 1 (value_of s))) ≡ States name kind slot s
unfolding meaning
means Flag slot field_value.Present name h w found = rw found refl
means Number slot (field_value.Number v) name h w found = rw (found, number-decimal v (omega arith)) refl
means Text slot (field_value.Text text) name h w found = rw (not-use name w, found, decoded-printed_text text h) refl
means Flag slot (field_value.Number v) name h w found = absurd h
means Flag slot (field_value.Text t) name h w found = absurd h
means Flag slot field_value.Cancelled name h w found = absurd h
means Number slot field_value.Present name h w found = absurd h
means Number slot (field_value.Text t) name h w found = absurd h
means Number slot field_value.Cancelled name h w found = absurd h
means Text slot field_value.Present name h w found = absurd h
means Text slot (field_value.Number v) name h w found = absurd h
means Text slot field_value.Cancelled name h w found = absurd h

-- no number of these is too great
kept : (kind : Kind) (s : FieldValue) → Fits kind s → (limited s ≡ s) × (is_great s ≡ false)
kept kind field_value.Present h = (refl, refl)
kept Number (field_value.Number v) h = let small : leb v 32767 ≡ true = grind (arith, nat_tests) in rw small (refl, refl)
kept Flag (field_value.Number v) h = absurd h
kept Text (field_value.Number v) h = absurd h
kept kind (field_value.Text text) h = (refl, refl)
kept kind field_value.Cancelled h = (refl, refl)

-- a name of the capability table is found as its capability
abbrev pub AreFound : Type 0
AreFound = (kind : Kind) (position : ℕ) (name : List ℕ) → name_at kind position ≡ Some name → capability_of name ≡ Some (kind, position)

-- the field of a capability with a name
pub record IsPrinted (kind : Kind) (slot : ℕ) (s : FieldValue) (name : List ℕ) : Type 0 where
  pub value : IsValue (name ++ value_of s)
  pub means : meaning (form_of (9 ∷ (name ++ value_of s))) ≡ States name kind slot s
  pub kept : limited s ≡ s
  pub small : is_great s ≡ false

pub is-printed : AreFound → (kind : Kind) (slot : ℕ) (s : FieldValue) (name : List ℕ) → name_at kind slot ≡ Some name → Fits kind s → IsPrinted kind slot s name
is-printed table kind slot s name at h =
    let w = name-is-written kind slot name at in
    let field = field-of name (value_of s) w (value-ends s) (value-is-value kind s h) in
    let good = kept kind s h in
    record {
      value = field.whole;
      means = ap meaning field.form ∙ means kind slot s name h w (table kind slot name at);
      kept = good.0;
      small = good.1;
    }
