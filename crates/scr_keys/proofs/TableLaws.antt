-- The keys of an entry, one after another.
use Rattle.std.proofs.Common.{◌≡◌, ◌∙◌, ℕ, ◌+◌, ◌-◌, ◌<◌, ◌≤◌, ◌⊎◌, inl, inr, max, Bool, true, false, ◌||◌, refl, ap, sym, arith, zero, suc, length, take, get_or, List, [], ◌∷◌, ◌++◌, Option, Some, None, is_some, nat_lt, if◌then◌else◌}
use Rattle.std.proofs.lemmas.Bool.{cases_lt}
use Rattle.std.proofs.lemmas.Bool.Decides.{nat_tests}
use Rattle.std.proofs.lemmas.List.{length-take-le, take-take, take_all}
use Rattle.std.proofs.lemmas.Slice.Eq.{bytes_eq-Decides}
use Rattle.ti_caps.specs.Description.{Description}
use Rattle.ti_caps.specs.Table.{or_else}
use Rattle.scr_keys.specs.declared.sets.KeySet.{KeySet}
use Rattle.scr_keys.specs.Code.Maps.{IsClosed, IsTable, MapsView, length_from, longest_from}
use Rattle.scr_keys.specs.Keys.{Keys, goes_on, is_beginning, key_of, longest_text}
use Rattle.scr_keys.specs.Tables.{keys_below, keys_of, text_of_key, too_long, too_long_below, with_key}
use Rattle.scr_keys.proofs.FirstLaws.{longest_from_more}
use Rattle.scr_keys.proofs.MapLaws.{beginning_is, whole_beginning}

-- ---- one key more

goes_on_more : (keys : Keys) (text : List ℕ) (slot : ℕ) (bytes : List ℕ) → goes_on (keys ++ (text, slot) ∷ []) bytes ≡ (goes_on keys bytes || is_beginning bytes text)
goes_on_more [] text slot bytes = by (is_beginning bytes text)
  where
    by : (b : Bool) → (b || false) ≡ (false || b)
    by true = refl
    by false = refl
goes_on_more (k ∷ keys) text slot bytes = by (is_beginning bytes k.0) (goes_on_more keys text slot bytes)
  where
    by : (b : Bool) → goes_on (keys ++ (text, slot) ∷ []) bytes ≡ (goes_on keys bytes || is_beginning bytes text)
        → (b || goes_on (keys ++ (text, slot) ∷ []) bytes) ≡ ((b || goes_on keys bytes) || is_beginning bytes text)
    by true h = refl
    by false h = h

longest_more : (keys : Keys) (text : List ℕ) (slot : ℕ) → longest_text (keys ++ (text, slot) ∷ []) ≡ max (longest_text keys) (length text)
longest_more [] text slot = omega arith
longest_more (k ∷ keys) text slot = omega (arith, longest_more keys text slot)

-- with the text at its end, and all of its beginnings
pub table_more : (old new : MapsView) (text : List ℕ) (slot : ℕ) → length text ≤ 64 → new.keys ≡ old.keys ++ (text, slot) ∷ []
    → ((bytes : List ℕ) → is_some (key_of new.beginnings bytes) ≡ (is_some (key_of old.beginnings bytes) || is_beginning bytes text)) → new.longest ≡ max old.longest (length text)
    → ((byte : ℕ) → byte < 256 → get_or new.firsts byte 0 ≡ max (get_or old.firsts byte 0) (length_from byte text)) → IsTable old → IsTable new
table_more old new text slot few now begins all raised is = record {
  by_beginning = λ bytes. begins bytes ∙ ap (λ b. b || is_beginning bytes text) (is.by_beginning bytes) ∙ sym (goes_on_more old.keys text slot bytes) ∙ ap (λ k. goes_on k bytes) (sym now);
  longest = all ∙ ap (λ n. max n (length text)) is.longest ∙ sym (longest_more old.keys text slot) ∙ ap longest_text (sym now);
  few = omega (arith, all, is.few, few);
  by_first = λ byte inside. raised byte inside ∙ ap (λ n. max n (length_from byte text)) (is.by_first byte inside) ∙ sym (longest_from_more byte old.keys text slot) ∙ ap (longest_from byte) (sym now);
}

-- ---- beginnings of what goes on go on

begins_shorter : (bytes text : List ℕ) (n : ℕ) → is_beginning bytes text ≡ true → is_beginning (take n bytes) text ≡ true
begins_shorter bytes text n is = by (cases_lt n (length bytes))
  where
    whole : (length bytes < length text) × (bytes ≡ take (length bytes) text)
    whole = beginning_is bytes text is

    by : (n < length bytes) ⊎ (length bytes ≤ n) → is_beginning (take n bytes) text ≡ true
    by (inl less) =
        let all : length (take n bytes) ≡ n = length-take-le n bytes (omega (arith, less)) in
        let same : take n bytes ≡ take (length (take n bytes)) text = ap (take n) (whole.1) ∙ take-take n (length bytes) text (omega (arith, less)) ∙ ap (λ k. take k text) (sym all) in
        whole_beginning (take n bytes) text (omega (arith, all, less, whole.0)) ∙ (bytes_eq-Decides (take n bytes) (take (length (take n bytes)) text)).1 same
    by (inr more) = ap (λ t. is_beginning t text) (take_all n bytes more) ∙ is

goes_shorter : (keys : Keys) (bytes : List ℕ) (n : ℕ) → goes_on keys bytes ≡ true → goes_on keys (take n bytes) ≡ true
goes_shorter [] bytes n on = on
goes_shorter (k ∷ keys) bytes n on = by (is_beginning bytes k.0) refl on (goes_shorter keys bytes n)
  where
    or_true : (b : Bool) → (b || true) ≡ true
    or_true true = refl
    or_true false = refl

    by : (b : Bool) → is_beginning bytes k.0 ≡ b → (b || goes_on keys bytes) ≡ true → (goes_on keys bytes ≡ true → goes_on keys (take n bytes) ≡ true) → (is_beginning (take n bytes) k.0 || goes_on keys (take n bytes)) ≡ true
    by true here all further = ap (λ b. b || goes_on keys (take n bytes)) (begins_shorter bytes k.0 n here)
    by false here rest further = ap (λ b. is_beginning (take n bytes) k.0 || b) (further rest) ∙ or_true (is_beginning (take n bytes) k.0)

pub closed : (maps : MapsView) → IsTable maps → IsClosed maps.beginnings
closed maps is = λ text n there. is.by_beginning (take n text) ∙ goes_shorter maps.keys text n (sym (is.by_beginning text) ∙ there)

-- ---- all positions

-- a text that is too long is found at the lowest position
pub first_long : (set : KeySet) (entry : Description) (n : ℕ) → too_long_below set entry n ≡ None → nat_lt 64 (length (text_of_key set entry n)) ≡ true → too_long_below set entry (n + 1) ≡ Some n
first_long set entry n none test =
    let e : n + 1 ≡ suc n = omega arith in
    ap (too_long_below set entry) e ∙ ap (λ o. or_else o (if nat_lt 64 (length (text_of_key set entry n)) then Some n else None)) none ∙ ap (λ b. if b then Some n else None) test

pub none_long : (set : KeySet) (entry : Description) (n : ℕ) → too_long_below set entry n ≡ None → nat_lt 64 (length (text_of_key set entry n)) ≡ false → too_long_below set entry (n + 1) ≡ None
none_long set entry n none test =
    let e : n + 1 ≡ suc n = omega arith in
    ap (too_long_below set entry) e ∙ ap (λ o. or_else o (if nat_lt 64 (length (text_of_key set entry n)) then Some n else None)) none ∙ ap (λ b. if b then Some n else None) test

-- and stays the lowest
pub long_stays : (set : KeySet) (entry : Description) (n k m : ℕ) → too_long_below set entry n ≡ Some m → too_long_below set entry (n + k) ≡ Some m
long_stays set entry n zero m long = let e : n + 0 ≡ n = omega arith in ap (too_long_below set entry) e ∙ long
long_stays set entry n (suc k) m long =
    let e : n + suc k ≡ suc (n + k) = omega arith in
    ap (too_long_below set entry) e ∙ ap (λ o. or_else o (if nat_lt 64 (length (text_of_key set entry (n + k))) then Some (n + k) else None)) (long_stays set entry n k m long)

pub long_in_all : (set : KeySet) (entry : Description) (n : ℕ) → n < 512 → too_long_below set entry n ≡ None → nat_lt 64 (length (text_of_key set entry n)) ≡ true → too_long set entry ≡ Some n
unfolding too_long
long_in_all set entry n inside none long =
    let e : 512 ≡ n + 1 + (511 - n) = omega (arith, inside) in
    ap (too_long_below set entry) e ∙ long_stays set entry (n + 1) (511 - n) n (first_long set entry n none long)

pub keys_in_all : (set : KeySet) (entry : Description) (keys : Keys) (n : ℕ) → keys ≡ keys_below set entry n → n ≡ 512 → keys ≡ keys_of set entry
unfolding keys_of
keys_in_all set entry keys n is all = is ∙ ap (keys_below set entry) all

pub none_in_all : (set : KeySet) (entry : Description) (n : ℕ) → too_long_below set entry n ≡ None → n ≡ 512 → too_long set entry ≡ None
unfolding too_long
none_in_all set entry n none all = sym (ap (too_long_below set entry) all) ∙ none

-- where no text is too long, none at a position is
pub short_at : (set : KeySet) (entry : Description) (n : ℕ) → n < 512 → too_long set entry ≡ None → nat_lt 64 (length (text_of_key set entry n)) ≡ false
unfolding too_long
short_at set entry n inside none = by (too_long_below set entry (n + 1)) refl
  where
    never : {m : ℕ} → Some m ≡ None → ⊥
    never e = (cc)

    from : (o : Option ℕ) (b : Bool) → or_else o (if b then Some n else None) ≡ None → b ≡ false
    from None true e = absurd (never e)
    from None false e = refl
    from (Some m) b e = absurd (never e)

    by : (o : Option ℕ) → too_long_below set entry (n + 1) ≡ o → nat_lt 64 (length (text_of_key set entry n)) ≡ false
    by None is = let e : suc n ≡ n + 1 = omega arith in from (too_long_below set entry n) (nat_lt 64 (length (text_of_key set entry n))) (ap (too_long_below set entry) e ∙ is)
    by (Some m) is =
        let e : n + 1 + (511 - n) ≡ 512 = omega (arith, inside) in
        absurd (never (sym (long_stays set entry (n + 1) (511 - n) m is) ∙ ap (too_long_below set entry) e ∙ none))

pub short_text : (set : KeySet) (entry : Description) (n : ℕ) (text : List ℕ) → n < 512 → too_long set entry ≡ None → text ≡ text_of_key set entry n → length text ≤ 64
short_text set entry n text inside none same =
    let few : nat_lt 64 (length text) ≡ false = ap (λ t. nat_lt 64 (length t)) same ∙ short_at set entry n inside none in
    grind (arith, nat_tests)

pub keys_more : (set : KeySet) (entry : Description) (keys new : Keys) (n : ℕ) (text : List ℕ) → keys ≡ keys_below set entry n → text ≡ text_of_key set entry n → new ≡ with_key keys text n → new ≡ keys_below set entry (n + 1)
keys_more set entry keys new n text is same all =
    let e : n + 1 ≡ suc n = omega arith in
    all ∙ ap (λ k. with_key k text n) is ∙ ap (λ t. with_key (keys_below set entry n) t n) same ∙ sym (ap (keys_below set entry) e)
