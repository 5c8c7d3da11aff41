-- How long the joined repaint is.
use Rattle.std.proofs.Common.{◌≡◌, ℕ, ◌+◌, ◌-◌, ◌≤◌, ◌&&◌, leb, Bool, true, false, refl, sym, ◌∙◌, ap, subst, arith, List, [], ◌∷◌, ◌++◌, length, filter, Option, Some, None, zero, suc, if◌then◌else◌}
use Rattle.std.specs.List.{flat_map, range_with_len}
use Rattle.std.proofs.lemmas.List.{append-nil, length-append}
use Rattle.std.proofs.lemmas.List.Concat.{flat_map-append}
use Rattle.std.proofs.lemmas.List.Elements.{filter-append}
use Rattle.scr_cells.specs.CellViews.{blank_cell}
use Rattle.scr_cells.specs.Grids.{grid_at}
use Rattle.scr_cells.specs.PictureViews.{PictureView}
use Rattle.scr_term.specs.declared.operations.operation.Op.{Op}
use Rattle.scr_term.specs.declared.operations.operation.Op.TheVariants.{EraseLine, Put}
use Rattle.scr_term.specs.Operations.Laws.{RunLaws}
use Rattle.scr_term.specs.Operations.Profiles.{ProfileView}
use Rattle.scr_term.specs.Operations.States.{TerminalState, blank_state}
use Rattle.scr_term.specs.Operations.Texts.{all_bytes, bytes_of, put_of}
use Rattle.scr_plan.proofs.JoinedLaws.{IsErasable, erasable, row_erased, row_unerased}
use Rattle.scr_plan.proofs.PartLaws.{part_joined, row_more}
use Rattle.scr_plan.specs.Code.Joinings.{joined_at}
use Rattle.scr_plan.specs.Code.Painters.{part_places}
use Rattle.scr_memory.specs.Memories.{MemoryView, is_placed}
use Rattle.scr_plan.specs.Repaints.{paints, JoinedIsCheap, anew_of, begins_place, brief_place, cleared, differing, differing_from, differs, erased_column, is_none_left, joined_of, joined_places, plain_of, state_after, without_idle}
use Rattle.scr_plan.specs.Scratch.{goes, look_at, paints_place, places, places_cursor, renders, resets, row_places, scratch_of}

-- a number of operations that adds up, as that of their bytes
pub record IsMeasure (measure : List Op → ℕ) : Type 0 where
  pub none : measure [] ≡ 0
  pub joined : (xs ys : List Op) → measure (xs ++ ys) ≡ measure xs + measure ys

-- ---- fewer operations

-- without idle steps there are no more
idle_less : (measure : List Op → ℕ) → IsMeasure measure → (profile : ProfileView) (state : TerminalState) (ops : List Op) → measure (without_idle profile state ops) ≤ measure ops
idle_less measure m profile state [] = omega arith
idle_less measure m profile state (op ∷ ops) = grind (arith, idle_less measure m profile state ops, idle_less measure m profile (state_after profile state op) ops, m.joined (op ∷ []))

-- each place with no more
each_fewer : (measure : List Op → ℕ) → IsMeasure measure → (f g : ℕ × ℕ → List Op) → ((place : ℕ × ℕ) → measure (f place) ≤ measure (g place)) → (xs : List (ℕ × ℕ)) → measure (flat_map f xs) ≤ measure (flat_map g xs)
each_fewer measure m f g less [] = omega arith
each_fewer measure m f g less (x ∷ xs) = omega (arith, less x, each_fewer measure m f g less xs, m.joined)

-- fewer places
some_fewer : (measure : List Op → ℕ) → IsMeasure measure → (f : ℕ × ℕ → List Op) (p : ℕ × ℕ → Bool) (xs : List (ℕ × ℕ)) → measure (flat_map f (filter p xs)) ≤ measure (flat_map f xs)
some_fewer measure m f p [] = omega arith
some_fewer measure m f p (x ∷ xs) = grind (arith, some_fewer measure m f p xs)

begins_less : (measure : List Op → ℕ) → IsMeasure measure → (profile : ProfileView) (picture : PictureView) (memory : MemoryView) (r c : ℕ)
    → measure (begins_place profile picture memory r c) ≤ measure (goes profile (r, c) ++ renders (look_at profile picture (r, c)).pen)
begins_less measure m profile picture memory r c = grind arith

-- a place takes no more after its neighbour
brief_less : (measure : List Op → ℕ) → IsMeasure measure → (profile : ProfileView) (picture : PictureView) (memory : MemoryView) (place : ℕ × ℕ)
    → measure (brief_place profile picture memory place) ≤ measure (paints_place profile picture place)
brief_less measure m profile picture memory place = grind arith

-- ---- by how many they are

pub count_is : IsMeasure length
count_is = record { none = refl; joined = length-append }

-- an erasure is one operation, as a character is
place_count : (profile : ProfileView) (picture : PictureView) (memory : MemoryView) (place : ℕ × ℕ) → length (joined_at profile picture memory place) ≤ length (paints_place profile picture place)
place_count profile picture memory place = grind (arith, brief_less, count_is, begins_less, length-append)

-- ---- by how many bytes they have

abbrev pub price : ProfileView → List Op → ℕ
price profile ops = length (all_bytes profile ops)

pub price_is : RunLaws → (profile : ProfileView) → IsMeasure (price profile)
price_is laws profile = grind (arith, length-append)

pub put_byte_price : (profile : ProfileView) (byte : ℕ) → price profile (Put byte ∷ []) ≡ 1
unfolding bytes_of
put_byte_price profile byte = refl

pub put_price : (profile : ProfileView) (code : ℕ) → price profile (put_of code ∷ []) ≡ length (bytes_of profile (put_of code))
put_price profile code = ap length (append-nil (bytes_of profile (put_of code)))

-- what is seen in a place is one byte at least
look_price : RunLaws → (profile : ProfileView) (picture : PictureView) (place : ℕ × ℕ) → 1 ≤ price profile (put_of (look_at profile picture place).character ∷ [])
look_price laws profile picture place = omega (arith, put_price profile (look_at profile picture place).character, laws.some profile (grid_at blank_cell picture.lines place.0 place.1).character)

erase_price : (profile : ProfileView) → price profile (EraseLine ∷ []) ≡ length (bytes_of profile EraseLine)
erase_price profile = ap length (append-nil (bytes_of profile EraseLine))

-- each place has a byte at least
each_some : RunLaws → (profile : ProfileView) (picture : PictureView) (xs : List (ℕ × ℕ)) → length xs ≤ price profile (flat_map (paints_place profile picture) xs)
each_some laws profile picture [] = omega arith
each_some laws profile picture (x ∷ xs) = omega (arith, each_some laws profile picture xs, (price_is laws profile).joined, look_price laws profile picture x)

-- how many places of a part differ, and how many from a column on
count_part : (d : ℕ × ℕ → Bool) (r e a n : ℕ) → e ≤ a → length (filter (λ c. leb e c && d (r, c)) (range_with_len a n)) ≡ length (filter d (part_places a n r))
count_part d r e a zero low = refl
count_part d r e a (suc n) low = grind (arith, count_part d r e (a + 1) n)

count_before : (d : ℕ × ℕ → Bool) (r e a n m : ℕ) → a + n ≤ e → length (filter (λ c. leb e c && d (r, c)) (range_with_len a (n + m))) ≡ length (filter (λ c. leb e c && d (r, c)) (range_with_len (a + n) m))
count_before d r e a zero m low = grind arith
count_before d r e a (suc n) m low =
    let next : suc n + m ≡ suc (n + m) = omega arith in
    let more : a + 1 + n ≡ a + suc n = omega arith in
    let rest = count_before d r e (a + 1) n m (omega arith) in
    grind (arith, next, more, rest)

-- those that differ from a column on are those of that part
pub count_from : (profile : ProfileView) (picture : PictureView) (memory : MemoryView) (r e : ℕ) → e ≤ picture.columns
    → differing_from profile picture memory r e ≡ length (filter (differs profile picture memory) (part_places e (picture.columns - e) r))
count_from profile picture memory r e wide =
    let whole : picture.columns ≡ e + (picture.columns - e) = omega arith in
    let here : 0 + e ≡ e = omega arith in
    let d = differs profile picture memory in
    ap (λ n. length (filter (λ c. leb e c && d (r, c)) (range_with_len 0 n))) whole ∙ count_before d r e 0 e (picture.columns - e) (omega arith) ∙ rw here (count_part d r e e (picture.columns - e) (omega arith))

-- an erasure has no more bytes than places differ
worth_it : (profile : ProfileView) (picture : PictureView) (memory : MemoryView) (r e : ℕ) → erased_column profile picture memory r ≡ Some e → length (bytes_of profile EraseLine) ≤ differing_from profile picture memory r e
worth_it profile picture memory r e worth = grind arith

-- a row has no more bytes than its places that differ
row_less : RunLaws → (profile : ProfileView) (picture : PictureView) (memory : MemoryView) (r : ℕ)
    → price profile (flat_map (joined_at profile picture memory) (filter (differs profile picture memory) (row_places picture.columns r)))
    ≤ price profile (flat_map (paints_place profile picture) (filter (differs profile picture memory) (row_places picture.columns r)))
row_less laws profile picture memory r = by (erased_column profile picture memory r) refl
  where
    d : ℕ × ℕ → Bool
    d = differs profile picture memory

    m : IsMeasure (price profile)
    m = price_is laws profile

    f : ℕ × ℕ → List Op
    f = joined_at profile picture memory

    g : ℕ × ℕ → List Op
    g = paints_place profile picture

    fewer : (xs : List (ℕ × ℕ)) → price profile (flat_map (brief_place profile picture memory) xs) ≤ price profile (flat_map g xs)
    fewer xs = each_fewer (price profile) m (brief_place profile picture memory) g (brief_less (price profile) m profile picture memory) xs

    by : (e : Option ℕ) → erased_column profile picture memory r ≡ e → price profile (flat_map f (filter d (row_places picture.columns r))) ≤ price profile (flat_map g (filter d (row_places picture.columns r)))
    by None at = subst (λ ops. price profile ops ≤ price profile (flat_map g (filter d (row_places picture.columns r)))) (sym (row_unerased profile picture memory r at)) (fewer (filter d (part_places 0 picture.columns r)))
    by (Some e) at =
        let can : IsErasable profile picture memory r e = erasable profile picture memory r e at in
        let n = picture.columns - (e + 1) in
        let first = filter d (part_places 0 e r) in
        let behind = filter d (part_places (e + 1) n r) in
        let whole : picture.columns ≡ e + suc n = omega (arith, can.inside) in
        let from : picture.columns - e ≡ suc n = omega (arith, can.inside) in
        let here : 0 + e ≡ e = omega arith in
        let there : filter d (part_places e (suc n) r) ≡ (r, e) ∷ behind = ap (λ b. if b then (r, e) ∷ behind else behind) can.differs_there in
        let cut : flat_map g (filter d (row_places picture.columns r)) ≡ flat_map g first ++ (g (r, e) ++ flat_map g behind) =
        ap (λ k. flat_map g (filter d (part_places 0 k r))) whole ∙ rw (part_joined 0 e (suc n) r, filter-append, flat_map-append, here, there) in
        let few : length (bytes_of profile EraseLine) ≤ suc (length behind) =
        subst (λ n. length (bytes_of profile EraseLine) ≤ n) (count_from profile picture memory r e (omega (arith, can.inside)) ∙ ap (λ k. length (filter d (part_places e k r))) from ∙ ap length there) (worth_it profile picture memory r e at) in
        rw (row_erased profile picture memory r e at can.inside can.differs_there, cut)
        (omega (arith, few, erase_price profile, look_price laws profile picture (r, e), each_some laws profile picture behind, fewer first, begins_less (price profile) m profile picture memory r e, m.joined))

rows_less : RunLaws → (profile : ProfileView) (picture : PictureView) (memory : MemoryView) (n : ℕ)
    → price profile (flat_map (joined_at profile picture memory) (filter (differs profile picture memory) (places n picture.columns)))
    ≤ price profile (flat_map (paints_place profile picture) (filter (differs profile picture memory) (places n picture.columns)))
rows_less laws profile picture memory zero = omega arith
rows_less laws profile picture memory (suc n) =
    let f = joined_at profile picture memory in
    let g = paints_place profile picture in
    let d = differs profile picture memory in
    let next : suc n ≡ n + 1 = omega arith in
    subst (λ k. price profile (flat_map f (filter d (places k picture.columns))) ≤ price profile (flat_map g (filter d (places k picture.columns)))) (sym next)
    (rw (row_more f d n picture.columns, row_more g d n picture.columns) (omega (arith, rows_less laws profile picture memory n, row_less laws profile picture memory n, (price_is laws profile).joined)))

-- ---- all of it

-- a measure by which what is painted of places that differ is no more when joined
pub record IsFewer (measure : List Op → ℕ) (profile : ProfileView) (picture : PictureView) (memory : MemoryView) : Type 0 where
  pub adds : IsMeasure measure
  pub fewer : measure (joined_places profile picture memory) ≤ measure (flat_map (paints_place profile picture) (differing profile picture memory))

pub count_fewer : (profile : ProfileView) (picture : PictureView) (memory : MemoryView) → IsFewer length profile picture memory
count_fewer profile picture memory = record {
  adds = count_is;
  fewer = each_fewer length count_is (joined_at profile picture memory) (paints_place profile picture) (place_count profile picture memory) (differing profile picture memory);
}

pub price_fewer : RunLaws → (profile : ProfileView) (picture : PictureView) (memory : MemoryView) → IsFewer (price profile) profile picture memory
price_fewer laws profile picture memory = record { adds = price_is laws profile; fewer = rows_less laws profile picture memory picture.rows }

pub joined_less : (measure : List Op → ℕ) (profile : ProfileView) (memory : MemoryView) (picture : PictureView) → IsFewer measure profile picture memory → measure (joined_of profile memory picture) ≤ measure (plain_of profile memory picture)
joined_less measure profile memory picture few = by (is_none_left (differing profile picture memory) && is_placed memory picture.wish)
  where
    joined : List Op
    joined = resets profile ++ joined_places profile picture memory ++ resets profile ++ places_cursor picture.wish

    by : (b : Bool) → measure (if b then [] else without_idle profile memory.state joined) ≤ measure (if b then [] else paints profile picture (differing profile picture memory))
    by true = omega arith
    by false = omega (arith, idle_less measure few.adds profile memory.state joined, few.fewer, few.adds.joined)

pub plain_less : (measure : List Op → ℕ) → IsMeasure measure → (profile : ProfileView) (memory : MemoryView) (picture : PictureView) → measure (plain_of profile memory picture) ≤ measure (scratch_of profile picture)
plain_less measure m profile memory picture = by (is_none_left (differing profile picture memory) && is_placed memory picture.wish)
  where
    by : (b : Bool) → measure (if b then [] else paints profile picture (differing profile picture memory)) ≤ measure (scratch_of profile picture)
    by true = omega (arith, m.none)
    by false = omega (arith, some_fewer measure m (paints_place profile picture) (differs profile picture memory) (places picture.rows picture.columns), m.joined)

pub anew_less : (measure : List Op → ℕ) (profile : ProfileView) (picture : PictureView) → IsFewer measure profile picture (cleared picture) → measure (anew_of profile picture) ≤ measure (scratch_of profile picture)
anew_less measure profile picture few =
    let rest = joined_places profile picture (cleared picture) ++ resets profile ++ places_cursor picture.wish in
    omega (
      arith,
      few.fewer,
      idle_less measure few.adds profile (blank_state profile.rows profile.columns) rest,
      some_fewer measure few.adds (paints_place profile picture) (differs profile picture (cleared picture)) (places picture.rows picture.columns),
      few.adds.joined,
    )

pub joined_is_cheap : RunLaws → JoinedIsCheap
joined_is_cheap laws = record {
  joined = λ profile memory picture. joined_less (price profile) profile memory picture (price_fewer laws profile picture memory);
  plain = λ profile memory picture. plain_less (price profile) (price_is laws profile) profile memory picture;
  anew = λ profile picture. anew_less (price profile) profile picture (price_fewer laws profile picture (cleared picture));
  none = λ profile memory picture none placed.
      ap (λ b. if b && is_placed memory picture.wish then [] else without_idle profile memory.state (resets profile ++ joined_places profile picture memory ++ resets profile ++ places_cursor picture.wish)) none
      ∙ ap (λ b. if b then [] else without_idle profile memory.state (resets profile ++ joined_places profile picture memory ++ resets profile ++ places_cursor picture.wish)) placed;
}
