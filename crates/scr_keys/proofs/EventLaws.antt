-- Keys that are decided byte by byte are those of the whole.
use Rattle.std.proofs.Common.{◌≡◌, ◌∙◌, ℕ, ◌+◌, ◌-◌, ◌<◌, ◌≤◌, Bool, true, false, ◌&&◌, ◌||◌, refl, ap, sym, arith, zero, suc, length, take, List, [], ◌∷◌, ◌++◌, append_assoc, Option, Some, None, option_map, nat_lt, if◌then◌else◌}
use Rattle.std.specs.Str.{bytes_eq}
use Rattle.std.proofs.lemmas.Bool.Decides.{nat_tests}
use Rattle.std.proofs.lemmas.List.{append-nil, length-append, take-append-le, take_all}
use Rattle.std.proofs.lemmas.Slice.Eq.{bytes_eq-Decides}
use Rattle.ti_caps.specs.Table.{or_else}
use Rattle.scr_keys.specs.Keys.{Keys, decided, first_key, goes_on, is_beginning, key_of, key_or_byte, keys_read, keys_in, bytes_left, longest, undecided}
use Rattle.scr_keys.specs.Laws.{Came, Event, Idled, PiecesDoNotMatter, keys_added, keys_from}
use Rattle.scr_keys.proofs.KeyLaws.{longest_inside}

never : false ≡ true → ⊥
never e = (cc)

take_less : (n m : ℕ) (xs : List ℕ) → n ≤ m → take n (take m xs) ≡ take n xs
take_less zero m xs few = refl
take_less (suc n) zero xs few = absurd (omega (arith, few))
take_less (suc n) (suc m) [] few = refl
take_less (suc n) (suc m) (x ∷ xs) few = ap (λ t. x ∷ t) (take_less n m xs (omega (arith, few)))

-- ---- beginnings

begins : (bytes text : List ℕ) → length bytes < length text → bytes ≡ take (length bytes) text → is_beginning bytes text ≡ true
begins bytes text short same =
    let test : nat_lt (length bytes) (length text) ≡ true = grind (arith, nat_tests) in
    ap (λ b. b && bytes_eq bytes (take (length bytes) text)) test ∙ (bytes_eq-Decides bytes (take (length bytes) text)).1 same

-- a shorter beginning
shorter : (bytes : List ℕ) (c : ℕ) (text : List ℕ) → is_beginning (bytes ++ c ∷ []) text ≡ true → is_beginning bytes text ≡ true
shorter bytes c text is = by (nat_lt (length (bytes ++ c ∷ [])) (length text)) refl (bytes_eq (bytes ++ c ∷ []) (take (length (bytes ++ c ∷ [])) text)) refl is
  where
    by : (a : Bool) → nat_lt (length (bytes ++ c ∷ [])) (length text) ≡ a → (b : Bool) → bytes_eq (bytes ++ c ∷ []) (take (length (bytes ++ c ∷ [])) text) ≡ b → (a && b) ≡ true → is_beginning bytes text ≡ true
    by false test b same whole = absurd (never whole)
    by true test false same whole = absurd (never whole)
    by true test true same whole =
        let more : length (bytes ++ c ∷ []) ≡ length bytes + 1 = length-append bytes (c ∷ []) in
        let less : length (bytes ++ c ∷ []) < length text = grind (arith, nat_tests) in
        let all : bytes ++ c ∷ [] ≡ take (length (bytes ++ c ∷ [])) text = (bytes_eq-Decides (bytes ++ c ∷ []) (take (length (bytes ++ c ∷ [])) text)).0 same in
        begins bytes text (omega (arith, less, more))
        (sym (take_all (length bytes) bytes (omega arith)) ∙ sym (take-append-le (length bytes) bytes (c ∷ []) (omega arith)) ∙ ap (take (length bytes)) all ∙ take_less (length bytes) (length (bytes ++ c ∷ [])) text (omega (arith, more)))

goes_shorter : (keys : Keys) (bytes : List ℕ) (c : ℕ) → goes_on keys bytes ≡ false → goes_on keys (bytes ++ c ∷ []) ≡ false
goes_shorter [] bytes c not_on = refl
goes_shorter (k ∷ keys) bytes c not_on = by (is_beginning bytes k.0) refl not_on (is_beginning (bytes ++ c ∷ []) k.0) refl (λ rest. goes_shorter keys bytes c rest)
  where
    by : (a : Bool) → is_beginning bytes k.0 ≡ a → (a || goes_on keys bytes) ≡ false → (b : Bool) → is_beginning (bytes ++ c ∷ []) k.0 ≡ b → (goes_on keys bytes ≡ false → goes_on keys (bytes ++ c ∷ []) ≡ false) → (b || goes_on keys (bytes ++ c ∷ [])) ≡ false
    by true here whole b there rest = absurd (never (sym whole))
    by false here whole true there rest = absurd (never (sym here ∙ shorter bytes c k.0 there))
    by false here whole false there rest = rest whole

-- no key is one byte longer
no_longer : (keys : Keys) (bytes : List ℕ) (c : ℕ) → goes_on keys bytes ≡ false → key_of keys (bytes ++ c ∷ []) ≡ None
no_longer [] bytes c not_on = refl
no_longer (k ∷ keys) bytes c not_on = by (is_beginning bytes k.0) refl not_on (bytes_eq (bytes ++ c ∷ []) k.0) refl (λ rest. no_longer keys bytes c rest)
  where
    by : (a : Bool) → is_beginning bytes k.0 ≡ a → (a || goes_on keys bytes) ≡ false → (b : Bool) → bytes_eq (bytes ++ c ∷ []) k.0 ≡ b → (goes_on keys bytes ≡ false → key_of keys (bytes ++ c ∷ []) ≡ None) → (if b then Some k.1 else key_of keys (bytes ++ c ∷ [])) ≡ None
    by true here whole b there rest = absurd (never (sym whole))
    by false here whole true there rest =
        let same : bytes ++ c ∷ [] ≡ k.0 = (bytes_eq-Decides (bytes ++ c ∷ []) k.0).0 there in
        let more : length k.0 ≡ length bytes + 1 = ap length (sym same) ∙ length-append bytes (c ∷ []) in
        absurd (never (sym here ∙ begins bytes k.0 (omega (arith, more)) (sym (take_all (length bytes) bytes (omega arith)) ∙ sym (take-append-le (length bytes) bytes (c ∷ []) (omega arith)) ∙ ap (take (length bytes)) same)))
    by false here whole false there rest = rest whole

-- ---- the first key stays

longest_stays : (keys : Keys) (bytes : List ℕ) (c n : ℕ) → n ≤ length bytes → longest keys (bytes ++ c ∷ []) n ≡ longest keys bytes n
longest_stays keys bytes c zero few = refl
longest_stays keys bytes c (suc n) few =
    ap (λ t. or_else (option_map (λ slot. (slot, suc n)) (key_of keys t)) (longest keys (bytes ++ c ∷ []) n)) (take-append-le (suc n) bytes (c ∷ []) few)
    ∙ ap (λ o. or_else (option_map (λ slot. (slot, suc n)) (key_of keys (take (suc n) bytes))) o) (longest_stays keys bytes c n (omega (arith, few)))

longest_same : (keys : Keys) (bytes : List ℕ) (c : ℕ) → goes_on keys bytes ≡ false → longest keys (bytes ++ c ∷ []) (length (bytes ++ c ∷ [])) ≡ longest keys bytes (length bytes)
longest_same keys bytes c not_on =
    let more : length (bytes ++ c ∷ []) ≡ suc (length bytes) = length-append bytes (c ∷ []) ∙ omega arith in
    let all : take (suc (length bytes)) (bytes ++ c ∷ []) ≡ bytes ++ c ∷ [] = take_all (suc (length bytes)) (bytes ++ c ∷ []) (omega (arith, more)) in
    ap (longest keys (bytes ++ c ∷ [])) more
    ∙ ap (λ o. or_else (option_map (λ slot. (slot, suc (length bytes))) o) (longest keys (bytes ++ c ∷ []) (length bytes))) (ap (key_of keys) all ∙ no_longer keys bytes c not_on)
    ∙ longest_stays keys bytes c (length bytes) (omega arith)

first_same : (keys : Keys) (b : ℕ) (bytes : List ℕ) (c : ℕ) → goes_on keys (b ∷ bytes) ≡ false → first_key keys b (bytes ++ c ∷ []) ≡ first_key keys b bytes
first_same keys b bytes c not_on = ap (key_or_byte b) (longest_same keys (b ∷ bytes) c not_on)

first_few : (keys : Keys) (b : ℕ) (bytes : List ℕ) → (first_key keys b bytes).1 - 1 ≤ length bytes
first_few keys b bytes = by (longest keys (b ∷ bytes) (length (b ∷ bytes))) (λ key is. (longest_inside keys (b ∷ bytes) (length (b ∷ bytes)) key is).1)
  where
    by : (o : Option (ℕ × ℕ)) → ((key : ℕ × ℕ) → o ≡ Some key → key.1 ≤ length (b ∷ bytes)) → (key_or_byte b o).1 - 1 ≤ length bytes
    by None h = omega arith
    by (Some key) h = omega (arith, h key refl)

-- ---- one byte more

record OneMore (keys : Keys) (n : ℕ) (x : List ℕ) (c : ℕ) : Type 0 where
  keys_are : keys_read true keys n (x ++ c ∷ []) ≡ keys_read true keys n x ++ keys_read true keys 0 (bytes_left true keys n x ++ c ∷ [])
  left_is : bytes_left true keys n (x ++ c ∷ []) ≡ bytes_left true keys 0 (bytes_left true keys n x ++ c ∷ [])

one_more : (keys : Keys) (n : ℕ) (x : List ℕ) (c : ℕ) → n ≤ length x → OneMore keys n x c
one_more keys zero [] c few = record { keys_are = refl; left_is = refl }
one_more keys (suc n) [] c few = absurd (omega (arith, few))
one_more keys (suc n) (b ∷ x) c few = let h = one_more keys n x c (omega (arith, few)) in record { keys_are = h.keys_are; left_is = h.left_is }
one_more keys zero (b ∷ x) c few = by (goes_on keys (b ∷ x)) refl (one_more keys ((first_key keys b x).1 - 1) x c (first_few keys b x))
  where
    by : (w : Bool) → goes_on keys (b ∷ x) ≡ w → OneMore keys ((first_key keys b x).1 - 1) x c → OneMore keys zero (b ∷ x) c
    by true here rest = record {
      keys_are = sym (ap (λ w. (if w then [] else (first_key keys b x).0 ∷ keys_read true keys ((first_key keys b x).1 - 1) x) ++ keys_read true keys 0 ((if w then b ∷ x else bytes_left true keys ((first_key keys b x).1 - 1) x) ++ c ∷ [])) here);
      left_is = sym (ap (λ w. bytes_left true keys 0 ((if w then b ∷ x else bytes_left true keys ((first_key keys b x).1 - 1) x) ++ c ∷ [])) here);
    }
    by false here rest =
        let longer : goes_on keys (b ∷ (x ++ c ∷ [])) ≡ false = goes_shorter keys (b ∷ x) c here in
        let same : first_key keys b (x ++ c ∷ []) ≡ first_key keys b x = first_same keys b x c here in
        record {
          keys_are = ap (λ w. if w then [] else (first_key keys b (x ++ c ∷ [])).0 ∷ keys_read true keys ((first_key keys b (x ++ c ∷ [])).1 - 1) (x ++ c ∷ [])) longer
              ∙ ap (λ f. f.0 ∷ keys_read true keys (f.1 - 1) (x ++ c ∷ [])) same
              ∙ ap (λ k. (first_key keys b x).0 ∷ k) rest.keys_are
              ∙ sym (ap (λ w. (if w then [] else (first_key keys b x).0 ∷ keys_read true keys ((first_key keys b x).1 - 1) x) ++ keys_read true keys 0 ((if w then b ∷ x else bytes_left true keys ((first_key keys b x).1 - 1) x) ++ c ∷ [])) here);
          left_is = ap (λ w. if w then b ∷ (x ++ c ∷ []) else bytes_left true keys ((first_key keys b (x ++ c ∷ [])).1 - 1) (x ++ c ∷ [])) longer
              ∙ ap (λ f. bytes_left true keys (f.1 - 1) (x ++ c ∷ [])) same ∙ rest.left_is
              ∙ sym (ap (λ w. bytes_left true keys 0 ((if w then b ∷ x else bytes_left true keys ((first_key keys b x).1 - 1) x) ++ c ∷ [])) here);
        }

-- ---- no byte more

none_more : (keys : Keys) (n : ℕ) (x : List ℕ) → keys_read false keys n x ≡ keys_read true keys n x ++ keys_read false keys 0 (bytes_left true keys n x)
none_more keys n [] = refl
none_more keys (suc n) (b ∷ x) = none_more keys n x
none_more keys zero (b ∷ x) = by (goes_on keys (b ∷ x)) refl (none_more keys ((first_key keys b x).1 - 1) x)
  where
    by : (w : Bool) → goes_on keys (b ∷ x) ≡ w → keys_read false keys ((first_key keys b x).1 - 1) x ≡ keys_read true keys ((first_key keys b x).1 - 1) x ++ keys_read false keys 0 (bytes_left true keys ((first_key keys b x).1 - 1) x)
        → (first_key keys b x).0 ∷ keys_read false keys ((first_key keys b x).1 - 1) x
        ≡ (if w then [] else (first_key keys b x).0 ∷ keys_read true keys ((first_key keys b x).1 - 1) x) ++ keys_read false keys 0 (if w then b ∷ x else bytes_left true keys ((first_key keys b x).1 - 1) x)
    by true here rest = refl
    by false here rest = ap (λ k. (first_key keys b x).0 ∷ k) rest

-- ---- events

added_from : (keys : Keys) (x : List ℕ) (events : List Event) → keys_from keys x events ≡ decided keys x ++ keys_added keys (undecided keys x) events
added_from keys x [] = sym (append-nil (decided keys x))
added_from keys x (Came b ∷ events) =
    let more = one_more keys 0 x b (omega arith) in
    added_from keys (x ++ b ∷ []) events
    ∙ ap (λ k. k ++ keys_added keys (undecided keys (x ++ b ∷ [])) events) more.keys_are
    ∙ append_assoc (decided keys x) (decided keys (undecided keys x ++ b ∷ [])) (keys_added keys (undecided keys (x ++ b ∷ [])) events)
    ∙ ap (λ l. decided keys x ++ (decided keys (undecided keys x ++ b ∷ []) ++ keys_added keys l events)) more.left_is
added_from keys x (Idled ∷ events) =
    ap (λ k. keys_in keys x ++ k) (added_from keys [] events) ∙ ap (λ k. k ++ keys_added keys [] events) (none_more keys 0 x) ∙ append_assoc (decided keys x) (keys_in keys (undecided keys x)) (keys_added keys [] events)

pub pieces : PiecesDoNotMatter
pieces keys events = sym (added_from keys [] events)
