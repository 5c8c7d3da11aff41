-- The places of a screen, of its rows and of parts of these, and which of them differ.
use Rattle.std.proofs.Common.{◌≡◌, ℕ, ◌+◌, ◌<◌, ◌≤◌, ◌==◌, ◌&&◌, not, Bool, true, false, refl, ap, arith, get_or, List, [], ◌∷◌, ◌++◌, length, filter, Option, Some, zero, suc, if◌then◌else◌}
use Rattle.std.specs.List.{AllByRecursion, flat_map, list_all, list_any, range_with_len}
use Rattle.std.proofs.lemmas.List.{append-nil, map-append}
use Rattle.std.proofs.lemmas.List.Concat.{flat_map-append}
use Rattle.std.proofs.lemmas.List.Elements.{filter-append}
use Rattle.std.proofs.lemmas.List.Folds.{list_any-append}
use Rattle.std.proofs.lemmas.List.FromFn.{map-range_with_len_more}
use Rattle.scr_cells.specs.LookViews.{LookView}
use Rattle.scr_cells.specs.PenViews.{PenView, pen_eq}
use Rattle.scr_cells.specs.PictureViews.{IsPlace}
use Rattle.scr_virtual.specs.Ranges.{in_range}
use Rattle.scr_virtual.specs.VirtualViews.{VirtualView}
use Rattle.scr_term.specs.declared.operations.operation.Op.{Op}
use Rattle.scr_term.specs.Operations.Profiles.{ProfileView}
use Rattle.scr_plan.specs.Code.Painters.{part_places}
use Rattle.scr_memory.specs.Memories.{MemoryView, is_known, is_known_row}
use Rattle.scr_plan.specs.Repaints.{IsSizeOf, ShowsOutside, differs, look_eq}
use Rattle.scr_plan.specs.Scratch.{look_at, places, row_places}

-- ---- each is inside

all_of_both : {A : Type 0} (P : A → Type 0) (xs ys : List A) → AllByRecursion P xs → AllByRecursion P ys → AllByRecursion P (xs ++ ys)
all_of_both P [] ys some more = more
all_of_both P (x ∷ xs) ys some more = (some.0, all_of_both P xs ys some.1 more)

pub row_inside : (rows columns r n a : ℕ) → r < rows → a + n ≤ columns → AllByRecursion (IsPlace rows columns) (part_places a n r)
row_inside rows columns r zero a high wide = tt
row_inside rows columns r (suc n) a high wide = ((high, omega arith), row_inside rows columns r n (a + 1) high (omega arith))

rows_inside : (rows columns n a : ℕ) → a + n ≤ rows → AllByRecursion (IsPlace rows columns) (flat_map (row_places columns) (range_with_len a n))
rows_inside rows columns zero a high = tt
rows_inside rows columns (suc n) a high = all_of_both (IsPlace rows columns) (row_places columns a) _ (row_inside rows columns a columns 0 (omega arith) (omega arith)) (rows_inside rows columns n (a + 1) (omega arith))

pub places_inside : (rows columns : ℕ) → AllByRecursion (IsPlace rows columns) (places rows columns)
places_inside rows columns = rows_inside rows columns rows 0 (omega arith)

-- ---- each is among them

-- whether a list has a place
abbrev pub is_here : ℕ → ℕ → ℕ × ℕ → Bool
is_here r c place = place.0 == r && place.1 == c

abbrev pub is_among : ℕ → ℕ → List (ℕ × ℕ) → Bool
is_among r c list = list_any (is_here r c) list

pub among_row : (r c n a : ℕ) → a ≤ c → c < a + n → is_among r c (part_places a n r) ≡ true
among_row r c zero a low high = absurd (omega arith)
among_row r c (suc n) a low high = grind (arith, among_row r c n (a + 1))

among_rows : (columns r c n a : ℕ) → c < columns → a ≤ r → r < a + n → is_among r c (flat_map (row_places columns) (range_with_len a n)) ≡ true
among_rows columns r c zero a wide low high = absurd (omega arith)
among_rows columns r c (suc n) a wide low high = rw (list_any-append (is_here r c) (row_places columns a) _) (grind (arith, among_row r c columns 0, among_rows columns r c n (a + 1)))

pub among_places : (rows columns r c : ℕ) → r < rows → c < columns → is_among r c (places rows columns) ≡ true
among_places rows columns r c high wide = among_rows columns r c rows 0 wide (omega arith) (omega arith)

-- ---- parts

range_joined : (a m n : ℕ) → range_with_len a (m + n) ≡ range_with_len a m ++ range_with_len (a + m) n
range_joined a zero n = grind arith
range_joined a (suc m) n = let e : suc m + n ≡ suc (m + n) = omega arith in rw (e, range_joined (a + 1) m n) (ap (λ k. a ∷ range_with_len (a + 1) m ++ range_with_len k n) (omega arith))

pub part_joined : (a m n r : ℕ) → part_places a (m + n) r ≡ part_places a m r ++ part_places (a + m) n r
part_joined a m n r = rw (range_joined, map-append)

-- one place more of a part, and of a row
pub part_more : (f : ℕ × ℕ → List Op) (d : ℕ × ℕ → Bool) (a n r : ℕ)
    → flat_map f (filter d (part_places a (n + 1) r)) ≡ flat_map f (filter d (part_places a n r)) ++ flat_map f (filter d ((r, a + n) ∷ []))
part_more f d a n r = rw (part_joined, filter-append, flat_map-append)

pub flat_map-row_more : {A : Type 0} (f : ℕ × ℕ → List A) (r n : ℕ) → flat_map f (row_places (n + 1) r) ≡ flat_map f (row_places n r) ++ f (r, n)
flat_map-row_more f r n = rw (map-range_with_len_more {X = ℕ × ℕ} (λ c. (r, c)) 0 n n (omega arith), flat_map-append, append-nil)

-- what a place adds that differs unless this holds
pub one_place : (f : ℕ × ℕ → List Op) (place : ℕ × ℕ) (same : Bool) → (if same then [] else f place) ≡ flat_map f (if not same then place ∷ [] else [])
one_place f place same = grind (arith, append-nil)

-- nothing is left where nothing passes
pub none_in_part : (d : ℕ × ℕ → Bool) (a n r : ℕ) → ((c : ℕ) → a ≤ c → c < a + n → d (r, c) ≡ false) → filter d (part_places a n r) ≡ []
none_in_part d a zero r none = refl
none_in_part d a (suc n) r none = grind (arith, none_in_part d (a + 1) n r)

-- what passes in a row passes in a part of it
pub row_in_part : (d : ℕ × ℕ → Bool) (a n rest r : ℕ) → ((c : ℕ) → c < a → d (r, c) ≡ false) → ((c : ℕ) → a + n ≤ c → c < a + n + rest → d (r, c) ≡ false)
    → filter d (part_places 0 (a + n + rest) r) ≡ filter d (part_places a n r)
row_in_part d a n rest r before behind =
    let first : filter d (part_places 0 a r) ≡ [] = none_in_part d 0 a r (λ c low high. before c (omega arith)) in
    let last : filter d (part_places (0 + (a + n)) rest r) ≡ [] = none_in_part d (0 + (a + n)) rest r (λ c low high. behind c (omega arith) (omega arith)) in
    let here : 0 + a ≡ a = omega arith in
    rw (part_joined 0 (a + n) rest r, filter-append, last, append-nil, part_joined 0 a n r, filter-append, first, here)

-- ---- rows

pub rows_joined : (d : ℕ × ℕ → Bool) (m n columns : ℕ) → filter d (places (m + n) columns) ≡ filter d (places m columns) ++ filter d (flat_map (row_places columns) (range_with_len m n))
rows_joined d m n columns = let here : 0 + m ≡ m = omega arith in rw (range_joined 0 m n, flat_map-append, filter-append, here)

none_in_rows : (d : ℕ × ℕ → Bool) (m n columns : ℕ) → ((r : ℕ) → m ≤ r → r < m + n → filter d (row_places columns r) ≡ []) → filter d (flat_map (row_places columns) (range_with_len m n)) ≡ []
none_in_rows d m zero columns none = refl
none_in_rows d m (suc n) columns none = rw (filter-append, none m (omega arith) (omega arith)) (none_in_rows d (m + 1) n columns (λ r low high. none r (omega arith) (omega arith)))

pub none_in_places : (d : ℕ × ℕ → Bool) (rows columns : ℕ) → ((r : ℕ) → r < rows → filter d (row_places columns r) ≡ []) → filter d (places rows columns) ≡ []
none_in_places d rows columns none = none_in_rows d 0 rows columns (λ r low below. none r (omega arith))

-- rows in which nothing differs add nothing
pub rows_same : (d : ℕ × ℕ → Bool) (m n columns : ℕ) → ((r : ℕ) → m ≤ r → r < m + n → filter d (row_places columns r) ≡ []) → filter d (places (m + n) columns) ≡ filter d (places m columns)
rows_same d m n columns none = rw (rows_joined, none_in_rows d m n columns none, append-nil)

-- one row more
pub row_more : (f : ℕ × ℕ → List Op) (d : ℕ × ℕ → Bool) (n columns : ℕ)
    → flat_map f (filter d (places (n + 1) columns)) ≡ flat_map f (filter d (places n columns)) ++ flat_map f (filter d (row_places columns n))
row_more f d n columns = rw (rows_joined, flat_map-append f (filter d (places n columns)) _) (ap (λ ps. flat_map f (filter d (places n columns)) ++ flat_map f (filter d ps)) (append-nil (row_places columns n)))

pub flat_map-places_more : {A : Type 0} (f : ℕ × ℕ → List A) (n columns : ℕ) → flat_map f (places (n + 1) columns) ≡ flat_map f (places n columns) ++ flat_map f (row_places columns n)
flat_map-places_more f n columns = let here : 0 + n ≡ n = omega arith in rw (range_joined 0 n 1, flat_map-append, flat_map-append, here, append-nil)

-- an element that is there is read whatever stands for one that is not
pub read_any : {A : Type 0} (xs : List A) (i : ℕ) (d e : A) → i < length xs → get_or xs i d ≡ get_or xs i e
read_any [] i d e inside = absurd (omega arith)
read_any (x ∷ xs) zero d e inside = refl
read_any (x ∷ xs) (suc i) d e inside = read_any xs i d e (omega arith)

-- ---- what is the same does not differ

pub pen_refl : (a : PenView) → pen_eq a a ≡ true
pen_refl a = grind arith

pub look_refl : (a : LookView) → look_eq a a ≡ true
look_refl a = grind arith

each_known : (rows : List Bool) (r : ℕ) → list_all (λ known. known) rows ≡ true → r < length rows → get_or rows r false ≡ true
each_known [] r e h = absurd (omega arith)
each_known (known ∷ rows) zero e h = grind arith
each_known (known ∷ rows) (suc r) e h = grind (arith, each_known rows r)

-- a row of a memory that knows all
pub row_known : (memory : MemoryView) → is_known memory ≡ true → (r : ℕ) → r < length memory.known_rows → is_known_row memory r ≡ true
row_known memory known r high = each_known memory.known_rows r (grind arith) high

-- a place that has not changed since all was shown
pub same_place : (ranges : VirtualView → ℕ → Option (ℕ × ℕ)) (profile : ProfileView) (memory : MemoryView) (virtual : VirtualView) → ShowsOutside ranges profile memory virtual → IsSizeOf virtual.picture memory → is_known memory ≡ true
    → (r c : ℕ) → r < virtual.picture.rows → c < virtual.picture.columns → in_range (ranges virtual r) c ≡ false → differs profile virtual.picture memory (r, c) ≡ false
same_place ranges profile memory virtual same size known r c high wide out =
    let row = row_known memory known r (omega (arith, high, size.known_rows)) in
    rw (row, same r c high wide row out) (ap not (look_refl (look_at profile virtual.picture (r, c))))

pub outside_below : (from last c : ℕ) → c < from → in_range (Some (from, last)) c ≡ false
outside_below from last c below = grind arith

pub outside_above : (from last c : ℕ) → last < c → in_range (Some (from, last)) c ≡ false
outside_above from last c above = grind arith
