-- What an entry has after capabilities were set one after another.
use Rattle.std.proofs.Common.{◌≡◌, ◌∙◌, ℕ, zero, suc, ◌<◌, Bool, true, false, ◌||◌, ◌==◌, List, [], ◌∷◌, length, Option, Some, None, unwrap_or, option_map, map, replicate, get_or, set, cond, eqb, nat_lt, refl, sym, ap, inl, inr, arith}
use Rattle.std.specs.List.{list_all, list_any, AllPass}
use Rattle.std.proofs.lemmas.List.{length-replicate, length-set, get_or-set_same, get_or-set_other}
use Rattle.std.proofs.lemmas.List.Folds.{list_all-map}
use Rattle.std.proofs.lemmas.List.Sums.{AllPass-from_list_all}
use Rattle.std.proofs.lemmas.Bool.Decides.{eqb_tells, nat_tests}
use Rattle.ti_caps.specs.declared.table.Slot.{Slot}
use Rattle.ti_caps.specs.Table.{or_else}
use Rattle.ti_caps.specs.Settings.{all_set, flags_set, numbers_set, texts_set, fits_text}
use Rattle.ti_caps.specs.Description.{Description, bare}
use Rattle.ti_caps.specs.Bundled.{listed, bundled_names, bundled_numbers, bundled_texts, IsBundled}
use Rattle.ti_caps.specs.declared.bundle.TheConstants.{FLAGS, NUMBERS}
use Rattle.ti_caps.proofs.Once.{both}

set_at : {A : Type 0} → (xs : List A) (i slot : ℕ) (x d : A) → i < length xs → get_or (set xs i x) slot d ≡ unwrap_or (cond (eqb i slot) (Some x) None) (get_or xs slot d)
set_at xs i slot x d below =
    elim (eqb_tells i slot) [
      | inl h ↦ rw h.0 (rw (sym h.1) (get_or-set_same xs i x d below))
      | inr h ↦ rw h.0 (get_or-set_other xs i slot x d (λ e. h.1 (sym e)))
    ]

first_of : {A : Type 0} → (a b : Option A) (c : A) → unwrap_or a (unwrap_or b c) ≡ unwrap_or (or_else a b) c
first_of None b c = refl
first_of (Some x) b c = refl

-- what is at a position after these were set
pub all_set_at : {A : Type 0} → (n : ℕ) (xs : List A) (pairs : List (ℕ × A)) (slot : ℕ) (d : A) → length xs ≡ n → list_all (λ p. nat_lt p.0 n) pairs ≡ true
    → get_or (all_set xs pairs) slot d ≡ unwrap_or (listed pairs slot) (get_or xs slot d)
all_set_at n xs [] slot d len all = refl
all_set_at n xs (p ∷ pairs) slot d len all =
    let parts = both (nat_lt p.0 n) (list_all (λ q. nat_lt q.0 n) pairs) all in
    let below : p.0 < length xs = rw len (grind (arith, nat_tests)) in
    let same : length (set xs p.0 p.1) ≡ n = length-set xs p.0 p.1 ∙ len in
    let rest = all_set_at n (set xs p.0 p.1) pairs slot d same parts.1 in
    rest ∙ ap (λ x. unwrap_or (listed pairs slot) x) (set_at xs p.0 slot p.1 d below) ∙ first_of (listed pairs slot) (cond (eqb p.0 slot) (Some p.1) None) (get_or xs slot d)

some_more : {A : Type 0} → (a : Option A) (b : Option (Option A)) (t : Bool) (x : A) → b ≡ option_map Some a
    → or_else b (cond t (Some (Some x)) None) ≡ option_map Some (or_else a (cond t (Some x) None))
some_more None b true x e = rw e refl
some_more None b false x e = rw e refl
some_more (Some y) b t x e = rw e refl

listed_map : {A : Type 0} → (pairs : List (ℕ × A)) (slot : ℕ) → listed (map (λ p. (p.0, Some p.1)) pairs) slot ≡ option_map Some (listed pairs slot)
listed_map [] slot = refl
listed_map (p ∷ pairs) slot = some_more (listed pairs slot) (listed (map (λ q. (q.0, Some q.1)) pairs) slot) (eqb p.0 slot) p.1 (listed_map pairs slot)

taken_out : {A : Type 0} → (a : Option A) → unwrap_or (option_map Some a) None ≡ a
taken_out None = refl
taken_out (Some x) = refl

none_is : {A : Type 0} → (n slot : ℕ) → get_or {A = Option A} (replicate n None) slot None ≡ None
none_is zero slot = refl
none_is (suc n) zero = refl
none_is (suc n) (suc slot) = none_is n slot

-- options that were set where there was none
pub options_set_at : {A : Type 0} → (n : ℕ) (pairs : List (ℕ × A)) (slot : ℕ) → list_all (λ p. nat_lt p.0 n) pairs ≡ true
    → get_or (all_set (replicate n None) (map (λ p. (p.0, Some p.1)) pairs)) slot None ≡ listed pairs slot
options_set_at n pairs slot all =
    let given : list_all (λ p. nat_lt p.0 n) (map (λ p. (p.0, Some p.1)) pairs) ≡ true = list_all-map (λ p. nat_lt p.0 n) (λ p. (p.0, Some p.1)) pairs ∙ all in
    all_set_at n (replicate n None) (map (λ p. (p.0, Some p.1)) pairs) slot None (length-replicate n None) given
    ∙ ap (λ x. unwrap_or (listed (map (λ p. (p.0, Some p.1)) pairs) slot) x) (none_is n slot)
    ∙ ap (λ x. unwrap_or x None) (listed_map pairs slot)
    ∙ taken_out (listed pairs slot)

texts_fit : list_all fits_text bundled_texts ≡ true
unfolding bundled_texts
texts_fit = refl

-- each text of a list that is seen as these fits
pub texts_pass : {A : Type 0} → (f : A → ℕ × List ℕ) (texts : List A) → map f texts ≡ bundled_texts → AllPass (λ p. fits_text (f p)) texts
texts_pass f texts same =
    let seen : list_all fits_text (map f texts) ≡ true = rw same texts_fit in
    AllPass-from_list_all (λ p. fits_text (f p)) texts (sym (list_all-map fits_text f texts) ∙ seen)

pub texts_below : list_all (λ p. nat_lt p.0 512) bundled_texts ≡ true
unfolding bundled_texts
texts_below = refl

unset : (n slot : ℕ) → get_or (replicate n false) slot false ≡ false
unset zero slot = refl
unset (suc n) zero = refl
unset (suc n) (suc slot) = unset n slot

abbrev flag_of : Slot → ℕ × Bool
flag_of s = (s.0, true)

one_flag : (a : Option Bool) (b t : Bool) → a ≡ cond b (Some true) None → or_else a (cond t (Some true) None) ≡ cond (t || b) (Some true) None
one_flag a true true e = rw e refl
one_flag a true false e = rw e refl
one_flag a false true e = rw e refl
one_flag a false false e = rw e refl

flags_listed : (slots : List Slot) (slot : ℕ) → listed (map flag_of slots) slot ≡ cond (list_any (λ flag. flag == slot) (map (λ s. s.0) slots)) (Some true) None
flags_listed [] slot = refl
flags_listed (s ∷ slots) slot = one_flag (listed (map flag_of slots) slot) (list_any (λ flag. flag == slot) (map (λ x. x.0) slots)) (eqb s.0 slot) (flags_listed slots slot)

is_there : (b : Bool) → unwrap_or (cond b (Some true) None) false ≡ b
is_there true = refl
is_there false = refl

-- flags that were set where there was none
pub flags_set_at : (n : ℕ) (slots : List Slot) (slot : ℕ) → list_all (λ s. nat_lt s.0 n) slots ≡ true
    → get_or (flags_set (replicate n false) slots) slot false ≡ list_any (λ flag. flag == slot) (map (λ s. s.0) slots)
flags_set_at n slots slot all =
    let given : list_all (λ p. nat_lt p.0 n) (map flag_of slots) ≡ true = list_all-map (λ p. nat_lt p.0 n) flag_of slots ∙ all in
    all_set_at n (replicate n false) (map flag_of slots) slot false (length-replicate n false) given
    ∙ ap (λ x. unwrap_or (listed (map flag_of slots) slot) x) (unset n slot)
    ∙ ap (λ x. unwrap_or x false) (flags_listed slots slot)
    ∙ is_there (list_any (λ flag. flag == slot) (map (λ s. s.0) slots))

-- an entry in which these were set, one kind after another, and nothing else, is the bundled one
pub bundled_is : (texts : List (ℕ × List ℕ)) → texts ≡ bundled_texts → (made flagged numbered d : Description)
    → made ≡ bare bundled_names
    → flagged ≡ record made { flags = flags_set made.flags FLAGS }
    → numbered ≡ record flagged { numbers = numbers_set flagged.numbers NUMBERS }
    → d ≡ record numbered { texts = texts_set numbered.texts texts }
    → IsBundled d
bundled_is texts same made flagged numbered d e f n t =
    let g : flagged ≡ record (bare bundled_names) { flags = flags_set (replicate 64 false) FLAGS } = f ∙ ap {A = Description} (λ x. record x { flags = flags_set x.flags FLAGS }) e in
    let m : numbered ≡ record (bare bundled_names) { flags = flags_set (replicate 64 false) FLAGS; numbers = numbers_set (replicate 64 None) NUMBERS } = n ∙ ap {A = Description} (λ x. record x { numbers = numbers_set x.numbers NUMBERS }) g in
    let all = t ∙ ap {A = Description} (λ x. record x { texts = texts_set x.texts texts }) m in
    rw all (record {
      names = refl;
      flags = λ slot. flags_set_at 64 FLAGS slot refl;
      numbers = λ slot. options_set_at 64 bundled_numbers slot refl;
      texts = λ slot. rw same (options_set_at 512 bundled_texts slot texts_below);
    })
