-- The codeset of a locale's name.
use Rattle.std.proofs.Common.{◌≡◌, ◌∙◌, ◌⊎◌, inl, inr, ℕ, suc, Bool, true, false, List, [], ◌∷◌, ◌++◌, length, length-append, drop, get_or, Option, Some, None, MatchBool, MatchOption, refl, sym, ap, subst, arith}
use Rattle.std.proofs.Math.Seq.{get_or-append_seam}
use Rattle.std.proofs.lemmas.List.{append-nil}
use Rattle.std.proofs.lemmas.Str.Pattern.{IsSplitOnceResult, split_parts}
use Rattle.terminal.proofs.SizeLaws.{cut_once}
use Rattle.terminal.specs.Locales.{HasCodeset, HasNo, IsUtf8Codeset, SaysUtf8}
use denote.Ref.{Bor}

-- ---- the codeset of a text

pub codeset_of : (text : List ℕ) (r : Option (Bor (List ℕ) × Bor (List ℕ))) → IsSplitOnceResult 64 text r → MatchOption r (HasCodeset text text) (λ both. HasCodeset text both.0.now)
codeset_of text None split = record { modifier = []; parts = sym (append-nil text); whole = split_parts 64 text None split (omega arith); begins = inl refl }
codeset_of text (Some both) split =
    let parts = split_parts 64 text (Some both) split (omega arith) in
    record { modifier = 64 ∷ both.1.now; parts = parts.0; whole = parts.1; begins = inr (both.1.now, refl) }

-- There is one.
same_front : (xs ms ys ns : List ℕ) → HasNo 64 xs → HasNo 64 ys → (ms ≡ []) ⊎ ((more : List ℕ) × (ms ≡ 64 ∷ more)) → (ns ≡ []) ⊎ ((more : List ℕ) × (ns ≡ 64 ∷ more)) → xs ++ ms ≡ ys ++ ns → xs ≡ ys
same_front [] ms [] ns k l m n e = refl
same_front (x ∷ xs) ms (y ∷ ys) ns k l m n e =
    let here : x ≡ y = ap (λ all. get_or all 0 0) e in
    let rest : xs ++ ms ≡ ys ++ ns = ap (λ all. drop 1 all) e in
    λ i. here i ∷ same_front xs ms ys ns (λ i j. k (suc i) (omega (arith, j))) (λ i j. l (suc i) (omega (arith, j))) m n rest i
same_front [] ms (y ∷ ys) ns k l (inl m) n e = absurd (omega (arith, ap length (sym m ∙ e)))
same_front [] ms (y ∷ ys) ns k l (inr m) n e = absurd (l 0 (omega arith) (sym (ap (λ all. get_or all 0 0) (sym m.1 ∙ e))))
same_front (x ∷ xs) ms [] ns k l m (inl n) e = absurd (omega (arith, ap length (e ∙ n)))
same_front (x ∷ xs) ms [] ns k l m (inr n) e = absurd (k 0 (omega arith) (ap (λ all. get_or all 0 0) (e ∙ n.1)))

codeset_same : (text one other : List ℕ) → HasCodeset text one → HasCodeset text other → one ≡ other
codeset_same text one other h k = same_front one h.modifier other k.modifier h.whole k.whole h.begins k.begins (sym h.parts ∙ k.parts)

-- ---- what a name says

no_dot : (locale : List ℕ) → IsSplitOnceResult 46 locale None → ¬ SaysUtf8 locale
no_dot locale split says =
    let none = split_parts 46 locale None split (omega arith) in
    none (length says.language) (omega (arith, ap length says.parts, length-append says.language (46 ∷ says.rest))) (ap (λ l. get_or l (length says.language) 0) says.parts ∙ get_or-append_seam says.language 46 says.rest 0)

with_dot : (locale codeset : List ℕ) (both : Bor (List ℕ) × Bor (List ℕ)) (t : Bool) → IsSplitOnceResult 46 locale (Some both) → HasCodeset both.1.now codeset → MatchBool t (IsUtf8Codeset codeset) (¬ IsUtf8Codeset codeset) → MatchBool t (SaysUtf8 locale) (¬ SaysUtf8 locale)
with_dot locale codeset both true split has is =
    let parts = split_parts 46 locale (Some both) split (omega arith) in
    record { language = both.0.now; codeset = codeset; rest = both.1.now; parts = parts.0; first_dot = parts.1; behind = has; utf8 = is }
with_dot locale codeset both false split has none = λ s.
    let parts = split_parts 46 locale (Some both) split (omega arith) in
    let cut = cut_once 46 both.0.now both.1.now s.language s.rest parts.1 s.first_dot (sym parts.0 ∙ s.parts) in
    let same : codeset ≡ s.codeset = codeset_same both.1.now codeset s.codeset has (subst (λ rest. HasCodeset rest s.codeset) (sym cut.1) s.behind) in
    none (subst IsUtf8Codeset (sym same) s.utf8)

pub says : (locale codeset : List ℕ) (r : Option (Bor (List ℕ) × Bor (List ℕ))) (t : Bool) → IsSplitOnceResult 46 locale r
    → MatchOption r (¬ SaysUtf8 locale) (λ both. HasCodeset both.1.now codeset → MatchBool t (IsUtf8Codeset codeset) (¬ IsUtf8Codeset codeset) → MatchBool t (SaysUtf8 locale) (¬ SaysUtf8 locale))
says locale codeset None t split = no_dot locale split
says locale codeset (Some both) t split = with_dot locale codeset both t split
