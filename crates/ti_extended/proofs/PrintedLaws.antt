-- Printing line by line.
use Rattle.std.proofs.Common.{◌≡◌, ℕ, suc, ◌+◌, ◌<◌, ◌∙◌, ◌&&◌, Bool, List, [], ◌∷◌, ◌++◌, slice_index_or, get_or, drop, length, ap, arith, cond, sym, append_assoc, add-one, Some}
use Rattle.std.specs.Prelude.{is_none}
use Rattle.std.proofs.lemmas.List.{drop_more}
use Rattle.ti_caps.specs.Standard.{standard_name_at}
use Rattle.ti_caps.specs.declared.table.Kind.{Kind}
use Rattle.ti_source.specs.Printing.Print.{field_line, lines_from}
use Rattle.ti_extended.specs.Printed.{nameless_from, number_lines, number_value, text_lines, text_value}

-- the line of one more position
lines_from-more : {A : Type 0} → (line : ℕ → A → List ℕ) (out : List ℕ) (xs : List A) (i : ℕ) (d : A) → i < length xs
    → out ++ lines_from line i (drop i xs) ≡ (out ++ line i (get_or xs i d)) ++ lines_from line (i + 1) (drop (i + 1) xs)
lines_from-more line out xs i d lt =
    rw (drop_more xs i d lt, add-one) (sym (append_assoc out (line i (get_or xs i d)) (lines_from line (suc i) (drop (suc i) xs))))

pub lines_from-step : {A : Type 0} → (line : ℕ → A → List ℕ) (out after all : List ℕ) (xs : List A) (i : ℕ) (d : A) → i < length xs
    → out ++ lines_from line i (drop i xs) ≡ all → after ≡ out ++ line i (slice_index_or xs i d) → after ++ lines_from line (i + 1) (drop (i + 1) xs) ≡ all
lines_from-step line out after all xs i d lt so-far one-more =
    ap (λ text. text ++ lines_from line (i + 1) (drop (i + 1) xs)) one-more ∙ sym (lines_from-more line out xs i d lt) ∙ so-far

-- the line of one more number, or text, with a name
pub number_step : (out after all name : List ℕ) (names : List (List ℕ)) (numbers : List ℕ) (i n : ℕ) → i < length names → i < length numbers
    → out ++ number_lines (drop i names) (drop i numbers) ≡ all → name ≡ get_or names i [] → n ≡ get_or numbers i 0 → after ≡ out ++ field_line (Some name) (number_value n)
    → after ++ number_lines (drop (i + 1) names) (drop (i + 1) numbers) ≡ all
number_step out after all name names numbers i n a b so_far e k more =
    let line : List ℕ = field_line (Some (get_or names i [])) (number_value (get_or numbers i 0)) in
    ap (λ text. text ++ number_lines (drop (i + 1) names) (drop (i + 1) numbers)) (more ∙ (λ j. out ++ field_line (Some (e j)) (number_value (k j))))
    ∙ append_assoc out line (number_lines (drop (i + 1) names) (drop (i + 1) numbers))
    ∙ (λ j. out ++ number_lines (sym (drop_more names i [] a) j) (sym (drop_more numbers i 0 b) j)) ∙ so_far

pub text_step : (out after all name text : List ℕ) (names texts : List (List ℕ)) (i : ℕ) → i < length names → i < length texts
    → out ++ text_lines (drop i names) (drop i texts) ≡ all → name ≡ get_or names i [] → text ≡ get_or texts i [] → after ≡ out ++ field_line (Some name) (text_value text)
    → after ++ text_lines (drop (i + 1) names) (drop (i + 1) texts) ≡ all
text_step out after all name text names texts i a b so_far e k more =
    let line : List ℕ = field_line (Some (get_or names i [])) (text_value (get_or texts i [])) in
    ap (λ x. x ++ text_lines (drop (i + 1) names) (drop (i + 1) texts)) (more ∙ (λ j. out ++ field_line (Some (e j)) (text_value (k j))))
    ∙ append_assoc out line (text_lines (drop (i + 1) names) (drop (i + 1) texts))
    ∙ (λ j. out ++ text_lines (sym (drop_more names i [] a) j) (sym (drop_more texts i [] b) j)) ∙ so_far

-- one more position that is counted if it has no name
pub nameless_step : {A : Type 0} → (is_there : A → Bool) (kind : Kind) (xs : List A) (i : ℕ) (d : A) (count all one : ℕ) → i < length xs
    → count + nameless_from is_there kind i (drop i xs) ≡ all → one ≡ cond (is_there (slice_index_or xs i d) && is_none (standard_name_at kind i)) 1 0
    → (count + one) + nameless_from is_there kind (i + 1) (drop (i + 1) xs) ≡ all
nameless_step is_there kind xs i d count all one lt so_far is =
    let split : count + nameless_from is_there kind i (get_or xs i d ∷ drop (i + 1) xs) ≡ all =
    ap (λ ys. count + nameless_from is_there kind i ys) (sym (drop_more xs i d lt)) ∙ so_far in
    let next : i + 1 ≡ suc i = omega arith in
    let same : nameless_from is_there kind (i + 1) (drop (i + 1) xs) ≡ nameless_from is_there kind (suc i) (drop (i + 1) xs) =
    ap (λ k. nameless_from is_there kind k (drop (i + 1) xs)) next in
    omega (arith, split, same, is)
