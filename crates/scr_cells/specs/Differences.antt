-- Where two rows of the same length differ.
use Rattle.std.specs.Prelude.{ℕ, ◌≡◌, ◌≢◌, ◌<◌, List, Option, Some, None, length, slice_index_or}

-- Both rows have the same element in this place.
abbrev pub IsSameAt : {A : Type 0} → List A → List A → ℕ → Type 0
IsSameAt {A} xs ys place = (other : A) → slice_index_or xs place other ≡ slice_index_or ys place other

-- They do not.
abbrev pub DiffersAt : {A : Type 0} → List A → List A → ℕ → Type 0
DiffersAt {A} xs ys place = (other : A) → slice_index_or xs place other ≢ slice_index_or ys place other

-- They differ in this place and nowhere before it.
pub record DiffersFirst {A : Type 0} (xs ys : List A) (place : ℕ) : Type 0 where
  pub inside : place < length xs
  pub differs : DiffersAt xs ys place
  pub before : (i : ℕ) → i < place → IsSameAt xs ys i

-- They differ in this place and nowhere after it.
pub record DiffersLast {A : Type 0} (xs ys : List A) (place : ℕ) : Type 0 where
  pub inside : place < length xs
  pub differs : DiffersAt xs ys place
  pub after : (i : ℕ) → place < i → i < length xs → IsSameAt xs ys i

-- The first place in which they differ; none if they are the same.
abbrev pub IsFirstDifference : {A : Type 0} → List A → List A → Option ℕ → Type 0
IsFirstDifference xs ys None = (i : ℕ) → i < length xs → IsSameAt xs ys i
IsFirstDifference xs ys (Some place) = DiffersFirst xs ys place

-- The last place in which they differ; none if they are the same.
abbrev pub IsLastDifference : {A : Type 0} → List A → List A → Option ℕ → Type 0
IsLastDifference xs ys None = (i : ℕ) → i < length xs → IsSameAt xs ys i
IsLastDifference xs ys (Some place) = DiffersLast xs ys place
