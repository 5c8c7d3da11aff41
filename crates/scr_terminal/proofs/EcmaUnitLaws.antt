-- At most one unit stands at the beginning of a text, and a part of a unit is no unit.
use Rattle.std.proofs.Common.{◌≡◌, ℕ, ◌<◌, ◌≤◌, List, [], ◌∷◌, ◌++◌, inl, inr, refl, sym, ap, ◌∙◌, append_assoc, arith, encode_utf8}
use Rattle.std.specs.Prelude.{IsTrue}
use Rattle.std.specs.List.{AllByRecursion}
use Rattle.std.proofs.lemmas.List.{append-nil}
use Rattle.std.proofs.lemmas.Str.{encode_same}
use Rattle.std.proofs.lemmas.Bool.Decides.{nat_tests}
use Rattle.scr_cells.specs.declared.charsets.Charset.{Charset}
use Rattle.scr_term.specs.Ecma.Units.{EcmaUnit, Graphic, Spelled, Control, Sequence, IsSpelled, spelling, is_parameter_byte, IsUnit, IsWaiting, BeginsNoUnit}
use Rattle.scr_terminal.proofs.EcmaSpelledLaws.{first_of_spelled, spelled_first}

abbrev pub AreParameterBytes : List ℕ → Type 0
AreParameterBytes bytes = AllByRecursion (λ byte. IsTrue (is_parameter_byte byte)) bytes

-- a parameter byte is below every final byte
pub parameter_byte_lt : (b : ℕ) → IsTrue (is_parameter_byte b) → b < 64
parameter_byte_lt b h = grind (arith, nat_tests)

-- parameters end at their final byte
pub one_end : (ps qs : List ℕ) (f g : ℕ) (x y : List ℕ) → AreParameterBytes ps → AreParameterBytes qs → 64 ≤ f → 64 ≤ g
    → ps ++ f ∷ x ≡ qs ++ g ∷ y → (ps ≡ qs) × (f ≡ g) × (x ≡ y)
one_end [] [] f g x y a b m n e = (refl, cc, cc)
one_end [] (q ∷ qs) f g x y a b m n e =
    let below = parameter_byte_lt q b.0 in
    let same : f ≡ q = cc in
    absurd (omega arith)
one_end (p ∷ ps) [] f g x y a b m n e =
    let below = parameter_byte_lt p a.0 in
    let same : p ≡ g = cc in
    absurd (omega arith)
one_end (p ∷ ps) (q ∷ qs) f g x y a b m n e =
    let tails : ps ++ f ∷ x ≡ qs ++ g ∷ y = cc in
    let heads : p ≡ q = cc in
    let rest = one_end ps qs f g x y a.1 b.1 m n tails in
    (cc, rest.1, rest.2)

pub sequence_append : (ps : List ℕ) (f : ℕ) (x : List ℕ) → spelling (Sequence ps f) ++ x ≡ 27 ∷ 91 ∷ (ps ++ f ∷ x)
sequence_append ps f x = ap (λ t. 27 ∷ 91 ∷ t) (append_assoc ps (f ∷ []) x)

-- a spelled character has a first byte above ASCII
spelled_high : (charset : Charset) (code : ℕ) (x y : List ℕ) (b : ℕ) → IsSpelled charset code → b < 128 → encode_utf8 code ++ x ≡ b ∷ y → ⊥
spelled_high charset code x y b h low e = omega (arith, (spelled_first charset code x y b h e).0)

-- a unit has a first byte
pub first_of_unit : (charset : Charset) (u : EcmaUnit) → IsUnit charset u → (b : ℕ) × (rest : List ℕ) × (spelling u ≡ b ∷ rest)
first_of_unit charset (Graphic b) h = (b, [], refl)
first_of_unit charset (Spelled code) h = let first = first_of_spelled charset code h in (first.0, first.1, first.3)
first_of_unit charset (Control b) h = (b, [], refl)
first_of_unit charset (Sequence ps f) h = (27, 91 ∷ ps ++ f ∷ [], refl)

-- at most one unit stands at the beginning of a text
pub one_unit : (charset : Charset) (u v : EcmaUnit) (x y : List ℕ) → IsUnit charset u → IsUnit charset v → spelling u ++ x ≡ spelling v ++ y → (u ≡ v) × (x ≡ y)
one_unit charset (Graphic b) (Graphic c) x y h k e = (cc, cc)
one_unit charset (Graphic b) (Control c) x y h k e =
    let same : b ≡ c = cc in
    absurd (elim k [ inl d ↦ omega arith | inr d ↦ omega arith ])
one_unit charset (Graphic b) (Spelled code) x y h k e = absurd (spelled_high charset code y x b k (omega (arith, h.1)) (sym e))
one_unit charset (Graphic b) (Sequence qs g) x y h k e = let same : b ≡ 27 = cc in absurd (omega (arith, h.0))
one_unit charset (Spelled code) (Graphic c) x y h k e = absurd (spelled_high charset code x y c h (omega (arith, k.1)) e)
one_unit charset (Spelled code) (Control c) x y h k e = absurd (spelled_high charset code x y c h (elim k [ inl d ↦ omega arith | inr d ↦ omega arith ]) e)
one_unit charset (Spelled code) (Spelled other) x y h k e =
    let same = encode_same code other x y e in
    (ap Spelled same.0, same.1)
one_unit charset (Spelled code) (Sequence qs g) x y h k e = absurd (spelled_high charset code x (91 ∷ (qs ++ g ∷ y)) 27 h (omega arith) (e ∙ sequence_append qs g y))
one_unit charset (Control b) (Graphic c) x y h k e =
    let same : b ≡ c = cc in
    absurd (elim h [ inl d ↦ omega arith | inr d ↦ omega arith ])
one_unit charset (Control b) (Control c) x y h k e = (cc, cc)
one_unit charset (Control b) (Spelled code) x y h k e = absurd (spelled_high charset code y x b k (elim h [ inl d ↦ omega arith | inr d ↦ omega arith ]) (sym e))
one_unit charset (Control b) (Sequence qs g) x y h k e =
    let same : b ≡ 27 = cc in
    absurd (elim h [ inl d ↦ omega arith | inr d ↦ omega arith ])
one_unit charset (Sequence ps f) (Graphic c) x y h k e = let same : c ≡ 27 = cc in absurd (omega (arith, k.0))
one_unit charset (Sequence ps f) (Control c) x y h k e =
    let same : c ≡ 27 = cc in
    absurd (elim k [ inl d ↦ omega arith | inr d ↦ omega arith ])
one_unit charset (Sequence ps f) (Spelled code) x y h k e = absurd (spelled_high charset code y (91 ∷ (ps ++ f ∷ x)) 27 k (omega arith) (sym e ∙ sequence_append ps f x))
one_unit charset (Sequence ps f) (Sequence qs g) x y h k e =
    let whole : 27 ∷ 91 ∷ (ps ++ f ∷ x) ≡ 27 ∷ 91 ∷ (qs ++ g ∷ y) = sym (sequence_append ps f x) ∙ e ∙ sequence_append qs g y in
    let tails : ps ++ f ∷ x ≡ qs ++ g ∷ y = cc in
    let same = one_end ps qs f g x y h.digits k.digits h.from_at_sign k.from_at_sign tails in
    (cc, same.2)

pub append_is_nil : (xs ys : List ℕ) → xs ++ ys ≡ [] → ys ≡ []
append_is_nil [] ys e = e
append_is_nil (x ∷ xs) ys e = cc

-- a part of a unit has no whole unit at its beginning
pub waiting_has_no_unit : (charset : Charset) (w more : List ℕ) (u : EcmaUnit) → IsWaiting charset w → IsUnit charset u → w ≡ spelling u ++ more → ⊥
waiting_has_no_unit charset w more u (some, (v, others, unit, left, whole)) h e =
    let text : spelling u ++ (more ++ others) ≡ spelling v ++ [] =
    sym (append_assoc (spelling u) more others) ∙ ap (λ t. t ++ others) (sym e) ∙ whole ∙ sym (append-nil (spelling v)) in
    let same = one_unit charset u v (more ++ others) [] h unit text in
    left (append_is_nil more others same.1)

-- a part of a unit begins one
pub waiting_begins_unit : (charset : Charset) (w : List ℕ) → IsWaiting charset w → BeginsNoUnit charset w → ⊥
waiting_begins_unit charset w (some, (v, others, unit, left, whole)) begins_none =
    begins_none.1 v others [] unit (whole ∙ sym (append-nil (spelling v)))
