use Rattle.std.proofs.Common.{◌≡◌, ◌∙◌, ℕ, suc, ◌<◌, ◌≤◌, ◌+◌, ◌-◌, ◌⊎◌, inl, inr, Bor, MatchOption, take_all, length-drop, not, Bool, true, false, List, [], ◌∷◌, Option, Some, None, length, cond, ltb, take, drop, unwrap_or, refl, ap, sym, rules, arith, option_map}
use Rattle.std.specs.List.{position_or_len, onto_first, slice_range}
use Rattle.std.proofs.lemmas.List.Sums.{prefix_len-le-length}
use Rattle.std.proofs.lemmas.Iterator.Search.{position_from_yields_List}
use Rattle.std.proofs.lemmas.Iterator.{YieldsList-from_slice}
use Rattle.std.proofs.lemmas.List.Splits.{slice_split_first}
use Rattle.std.proofs.lemmas.Bool.Decides.{nat_tests}
use Rattle.ti_caps.specs.Cuts.{alternatives_after}
use Rattle.ti_caps.specs.Names.{alternatives, is_bar}
use Rattle.ti_caps.proofs.names.cut_name.Goals as goal

-- no index is past the end
position_or_len-le : (p : ℕ → Bool) (xs : List ℕ) → position_or_len p xs ≤ length xs
position_or_len-le p xs = prefix_len-le-length (λ x. not (p x)) xs

or_length : (n m : ℕ) → n ≤ m → unwrap_or (cond (ltb n m) (Some n) None) m ≡ n
or_length n m h = grind (arith, nat_tests)

onto-only : (b : ℕ) (t : Bool) (bs : List ℕ) (n : ℕ) → suc (length bs) ≤ cond (not t) (1 + n) 0 → (length bs ≤ n → alternatives bs ≡ bs ∷ []) → cond t ([] ∷ alternatives bs) (onto_first b (alternatives bs)) ≡ (b ∷ bs) ∷ []
onto-only b true bs n h rest = absurd (omega (arith, h))
onto-only b false bs n h rest = let short : length bs ≤ n = omega (arith, h) in ap (onto_first b) (rest short)

-- without a bar there is one alternative
only : (xs : List ℕ) → length xs ≤ position_or_len is_bar xs → alternatives xs ≡ xs ∷ []
only [] h = refl
only (b ∷ bs) h = onto-only b (is_bar b) bs (position_or_len is_bar bs) h (only bs)

rest-of : (xs : List ℕ) (a : ℕ) → slice_range xs a (length xs) ≡ drop a xs
rest-of xs a = take_all (length xs - a) (drop a xs) (omega (arith, length-drop a xs))

parted : (xs : List ℕ) (n : ℕ) (o : Option (Bor (List ℕ))) → n ≡ position_or_len is_bar xs
    → MatchOption o ((length xs < n + 1) ⊎ (length xs < length xs)) (λ x. (n + 1 ≤ length xs) × (length xs ≤ length xs) × (x.now ≡ slice_range xs (n + 1) (length xs)) × (length x.now + (n + 1) ≡ length xs))
    → alternatives xs ≡ take n xs ∷ alternatives_after (option_map (λ s. s.now) o)
parted xs n None at (inl h) =
    let long : length xs ≤ n = omega (arith, h) in
    let whole : take n xs ≡ xs = take_all n xs long in
    only xs (rw (← at) long) ∙ ap (λ x. x ∷ []) (sym whole)
parted xs n None at (inr h) = absurd (omega (arith, h))
parted xs n (Some x) at h =
    let inside : position_or_len is_bar xs < length xs = omega (arith, at, h.0) in
    slice_split_first is_bar xs 0 inside
    ∙ (λ i. take (sym at i) xs ∷ alternatives (drop (sym at i + 1) xs))
    ∙ ap (λ rest. take n xs ∷ alternatives rest) (sym (h.2 ∙ rest-of xs (n + 1)))

pub returns-clause-first : goal.returns-clause-first
returns-clause-first c =
    let found = position_from_yields_List is_bar _ _ _ c.position.ensures.ran (YieldsList-from_slice c.args.names.now cc) (λ x b q h. search rules) in
    rw (c.unwrap_or-end.ensures, found, or_length (position_or_len is_bar c.args.names.now) (length c.args.names.now) (position_or_len-le is_bar c.args.names.now)) refl

pub returns-clause-cut : goal.returns-clause-cut
returns-clause-cut c =
    let xs = c.args.names.now in
    let found = position_from_yields_List is_bar _ _ _ c.position.ensures.ran (YieldsList-from_slice xs cc) (λ x b q h. search rules) in
    let at : c.unwrap_or-end.result ≡ position_or_len is_bar xs =
    rw (c.unwrap_or-end.ensures, found) (or_length (position_or_len is_bar xs) (length xs) (position_or_len-le is_bar xs)) in
    parted xs c.unwrap_or-end.result c.get.result at c.get.ensures.lookup.0
