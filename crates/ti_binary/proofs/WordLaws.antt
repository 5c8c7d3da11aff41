-- The numbers of a section, one after another.
use Rattle.std.proofs.Common.{◌≡◌, ℕ, ◌+◌, ◌≤◌, ◌||◌, Bool, true, false, cond, refl, sym, ◌∙◌, ap, arith, List, [], ◌∷◌, ◌++◌, length, length-append, map}
use Rattle.std.specs.List.{filter, list_any, range_with_len}
use Rattle.std.proofs.lemmas.List.Elements.{filter-append}
use Rattle.std.proofs.lemmas.List.FromFn.{map-range_with_len_more, length-map-range_with_len}
use Rattle.std.proofs.lemmas.List.{map-append, length-map}
use Rattle.std.proofs.lemmas.List.Folds.{list_any-append}
use Rattle.std.specs.Int.{from_bool}
use Rattle.ti_binary.specs.Files.{numbers_size}
use Rattle.ti_binary.specs.declared.widths.Width.{Width}
use Rattle.ti_binary.specs.declared.widths.Width.TheVariants.{Legacy, Wide}

or-false : (b : Bool) → (b || false) ≡ b
or-false true = refl
or-false false = refl

-- one more index, where `f` reads the number there
pub read_more : (f : ℕ → ℕ) (i : ℕ) → map f (range_with_len 0 (i + 1)) ≡ map f (range_with_len 0 i) ++ f i ∷ []
read_more f i = map-range_with_len_more f 0 i i (omega arith)

pub any_more : (p : ℕ → Bool) (f : ℕ → ℕ) (i : ℕ) → list_any p (map f (range_with_len 0 (i + 1))) ≡ (list_any p (map f (range_with_len 0 i)) || p (f i))
any_more p f i =
    ap (list_any p) (read_more f i) ∙ list_any-append p (map f (range_with_len 0 i)) (f i ∷ [])
    ∙ ap (λ b. list_any p (map f (range_with_len 0 i)) || b) (or-false (p (f i)))

pub said_more : {A : Type 0} (g : ℕ → A) (f : ℕ → ℕ) (i : ℕ) → map g (map f (range_with_len 0 i)) ++ g (f i) ∷ [] ≡ map g (map f (range_with_len 0 (i + 1)))
said_more g f i = sym (ap (map g) (read_more f i) ∙ map-append g (map f (range_with_len 0 i)) (f i ∷ []))

pub said_length : {A : Type 0} (g : ℕ → A) (f : ℕ → ℕ) (i : ℕ) → length (map g (map f (range_with_len 0 i))) ≡ i
said_length g f i = length-map (map f (range_with_len 0 i)) g ∙ length-map-range_with_len f 0 i

one_passed : (p : ℕ → Bool) (n : ℕ) (b : Bool) → p n ≡ b → length (filter p (n ∷ [])) ≡ cond b 1 0
one_passed p n true e = rw e refl
one_passed p n false e = rw e refl

pub count_more : (p : ℕ → Bool) (f : ℕ → ℕ) (i : ℕ)
    → length (filter p (map f (range_with_len 0 (i + 1)))) ≡ length (filter p (map f (range_with_len 0 i))) + cond (p (f i)) 1 0
count_more p f i =
    let old : List ℕ = map f (range_with_len 0 i) in
    ap (λ ns. length (filter p ns)) (read_more f i)
    ∙ ap length (filter-append p old (f i ∷ []))
    ∙ length-append (filter p old) (filter p (f i ∷ []))
    ∙ ap (λ n. length (filter p old) + n) (one_passed p (f i) (p (f i)) refl)

pub one_if : (b : Bool) → from_bool b ≡ cond b 1 0
one_if true = refl
one_if false = refl

pub at_most_one : (b : Bool) → cond b 1 0 ≤ 1
at_most_one true = omega arith
at_most_one false = omega arith

-- so many numbers fit where more do
pub size_grows : (width : Width) (i n : ℕ) → i ≤ n → numbers_size width i ≤ numbers_size width n
size_grows Legacy i n le = omega (arith, le)
size_grows Wide i n le = omega (arith, le)
