-- Facts on entries and their counts.
use Rattle.std.proofs.Common.{◌≡◌, ℕ, zero, suc, ◌<◌, true, false, List, [], ◌∷◌, Option, None, get_or, slice_index_or, Fits, w8, replicate, refl}
use Rattle.ti_caps.specs.Names.{are_names}
use Rattle.ti_caps.specs.Description.{AreBytes, IsDescription}

get_or-replicate_same : {A : Type 0} → (x : A) (n k : ℕ) → get_or (replicate n x) k x ≡ x
get_or-replicate_same x zero k = refl
get_or-replicate_same x (suc n) zero = refl
get_or-replicate_same x (suc n) (suc k) = get_or-replicate_same x n k

abbrev no_number : Option ℕ
no_number = None

abbrev no_text : Option (List ℕ)
no_text = None

-- nothing is wrong with an entry in which nothing is present
pub IsDescription-bare : (names given : List ℕ) (texts : List (Option (List ℕ))) → names ≡ given → are_names given ≡ true → texts ≡ replicate 512 None → IsDescription (record { names = names; flags = replicate 64 false; numbers = replicate 64 None; texts = texts })
IsDescription-bare names given texts same good none = record {
  named = rw same good;
  flags = refl;
  numbers = refl;
  texts = rw none refl;
  small = λ slot. let e : get_or (replicate 64 no_number) slot None ≡ None = get_or-replicate_same no_number 64 slot in rw e tt;
  whole = λ slot. let e : get_or texts slot None ≡ None = rw none (get_or-replicate_same no_text 512 slot) in rw e tt;
  bytes = λ slot. let e : get_or texts slot None ≡ None = rw none (get_or-replicate_same no_text 512 slot) in rw e tt;
}

-- what a slice of bytes holds
pub are_bytes : (xs : List ℕ) → ((i : ℕ) → Fits w8 (slice_index_or xs i 0)) → AreBytes xs
are_bytes [] fits = tt
are_bytes (x ∷ xs) fits =
    let first : x < 256 = (fits 0).fits in
    (first, are_bytes xs (λ i. fits (suc i)))
