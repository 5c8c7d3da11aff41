-- What sets of the seven attributes have in common, found by computing it for each set.
use Rattle.std.proofs.Common.{◌≡◌, ℕ, ◌<◌, ◌==◌, Bool, true, inl, inr, refl, sym, ◌∙◌, ap, eqb, bit_or, subst, ◌||◌}
use Rattle.std.specs.List.{list_any}
use Rattle.std.proofs.lemmas.Bool.{agree_below, agree_below_at, eqb-true, false≢true}
use Rattle.std.proofs.lemmas.Bool.Decides.{eqb_tells}
use Rattle.scr_cells.specs.Attributes.{negative_set, all_attributes}

-- two functions that a computation finds to agree below a bound
pub same_below : (f g : ℕ → ℕ) (n k : ℕ) → agree_below (λ x. eqb (f x) (g x)) (λ _. true) n ≡ true → k < n → f k ≡ g k
same_below f g n k h lt = eqb-true (f k) (g k) (agree_below_at (λ x. eqb (f x) (g x)) (λ _. true) n k h lt)

-- standout and reverse are both seen as reverse
pub negative-or_standout : (set : ℕ) → set < 128 → bit_or (negative_set set) 4 ≡ negative_set (bit_or set 1)
negative-or_standout set small = same_below (λ x. bit_or (negative_set x) 4) (λ x. negative_set (bit_or x 1)) 128 set refl small

pub negative-or_reverse : (set : ℕ) → set < 128 → bit_or (negative_set set) 4 ≡ negative_set (bit_or set 4)
negative-or_reverse set small = same_below (λ x. bit_or (negative_set x) 4) (λ x. negative_set (bit_or x 4)) 128 set refl small

pub negative-or_underline : (set : ℕ) → set < 128 → bit_or (negative_set set) 2 ≡ negative_set (bit_or set 2)
negative-or_underline set small = same_below (λ x. bit_or (negative_set x) 2) (λ x. negative_set (bit_or x 2)) 128 set refl small

pub negative-or_blink : (set : ℕ) → set < 128 → bit_or (negative_set set) 8 ≡ negative_set (bit_or set 8)
negative-or_blink set small = same_below (λ x. bit_or (negative_set x) 8) (λ x. negative_set (bit_or x 8)) 128 set refl small

pub negative-or_dim : (set : ℕ) → set < 128 → bit_or (negative_set set) 16 ≡ negative_set (bit_or set 16)
negative-or_dim set small = same_below (λ x. bit_or (negative_set x) 16) (λ x. negative_set (bit_or x 16)) 128 set refl small

pub negative-or_bold : (set : ℕ) → set < 128 → bit_or (negative_set set) 32 ≡ negative_set (bit_or set 32)
negative-or_bold set small = same_below (λ x. bit_or (negative_set x) 32) (λ x. negative_set (bit_or x 32)) 128 set refl small

pub negative-or_invis : (set : ℕ) → set < 128 → bit_or (negative_set set) 64 ≡ negative_set (bit_or set 64)
negative-or_invis set small = same_below (λ x. bit_or (negative_set x) 64) (λ x. negative_set (bit_or x 64)) 128 set refl small

one_or_rest : (P : ℕ → Type 0) (n a : ℕ) (rest : Bool) → P n → (rest ≡ true → P a) → (eqb n a || rest) ≡ true → P a
one_or_rest P n a rest here there h = elim (eqb_tells n a) [
  | inl same ↦ subst P same.1 here
  | inr other ↦ there (ap (λ b. b || rest) (sym other.0) ∙ h)
]

-- what holds of each attribute holds of a set that has one attribute
pub each_attribute : (P : ℕ → Type 0) → P 1 → P 2 → P 4 → P 8 → P 16 → P 32 → P 64
    → (a : ℕ) → list_any (λ x. x == a) all_attributes ≡ true → P a
each_attribute P p1 p2 p4 p8 p16 p32 p64 a =
    one_or_rest P 1 a _ p1 (one_or_rest P 2 a _ p2 (one_or_rest P 4 a _ p4 (one_or_rest P 8 a _ p8
    (one_or_rest P 16 a _ p16 (one_or_rest P 32 a _ p32 (one_or_rest P 64 a _ p64 (λ h. absurd (false≢true h))))))))
