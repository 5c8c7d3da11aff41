-- Where the rest of a row is erased.
use Rattle.std.proofs.Common.{◌≡◌, ◌≢◌, ℕ, ◌+◌, ◌-◌, ◌<◌, ◌≤◌, ◌==◌, ◌&&◌, ◌||◌, ◌⊎◌, inl, inr, not, leb, ltb, nat_lt, nat_le, Bool, true, false, refl, sym, ◌∙◌, ap, subst, arith, get_or, List, ◌∷◌, length, filter, Option, Some, None, zero, suc, if◌then◌else◌}
use Rattle.std.specs.Prelude.{find}
use Rattle.std.specs.List.{list_all, range_with_len}
use Rattle.std.proofs.lemmas.Bool.Decides.{nat_tests}
use Rattle.scr_cells.specs.CellViews.{CellView, blank_cell}
use Rattle.scr_cells.specs.Grids.{grid_row}
use Rattle.scr_cells.specs.LookViews.{LookView, blank}
use Rattle.scr_cells.specs.PenViews.{PenView}
use Rattle.scr_cells.specs.PictureViews.{PictureView}
use Rattle.scr_cells.specs.Showing.{HasRendition, shown_in}
use Rattle.scr_term.specs.declared.operations.operation.Op.TheVariants.{EraseLine}
use Rattle.scr_term.specs.Operations.Profiles.{ProfileView}
use Rattle.scr_term.specs.Operations.Texts.{bytes_of, has}
use Rattle.scr_plan.proofs.JoinLaws.{differs_by, differs_same}
use Rattle.scr_plan.proofs.JoinedLaws.{blank_from, none_is_not, some_is}
use Rattle.scr_plan.proofs.JoinedPriceLaws.{count_from}
use Rattle.scr_plan.proofs.PartLaws.{look_refl}
use Rattle.scr_plan.proofs.PlainLaws.{both, look_same}
use Rattle.scr_plan.specs.Code.Joinings.{ShowsRow}
use Rattle.scr_plan.specs.Code.Looking.{IsRest, differs_in}
use Rattle.scr_plan.specs.Code.Painters.{painter_look, painter_of, painter_sees, part_places, row_differs}
use Rattle.scr_memory.specs.Memories.{MemoryView}
use Rattle.scr_plan.specs.Repaints.{blank_column, differing_from, differs, erased_column, erased_if_worth, is_blank_from, look_eq}
use Rattle.scr_plan.specs.Scratch.{look_at}
use Rattle.scr_plan.specs.declared.looking.Rest.{Rest}
use Rattle.scr_plan.specs.declared.painting.Painter.{Painter}

-- ---- columns of a range

-- how many of a range pass
abbrev pub tally : (ℕ → Bool) → ℕ → ℕ → ℕ
tally d a n = length (filter d (range_with_len a n))

tally_joined : (d : ℕ → Bool) (a m n : ℕ) → tally d a (m + n) ≡ tally d a m + tally d (a + m) n
tally_joined d a zero n =
    let none : 0 + n ≡ n = omega arith in
    let here : a + 0 ≡ a = omega arith in
    ap (tally d a) none ∙ sym (ap (λ k. tally d k n) here) ∙ omega arith
tally_joined d a (suc m) n =
    let next : suc m + n ≡ suc (m + n) = omega arith in
    let more : a + 1 + m ≡ a + suc m = omega arith in
    ap (tally d a) next ∙ by (d a) (tally_joined d (a + 1) m n ∙ ap (λ k. tally d (a + 1) m + tally d k n) more)
  where
    by : (b : Bool) → tally d (a + 1) (m + n) ≡ tally d (a + 1) m + tally d (a + suc m) n
        → length (if b then a ∷ filter d (range_with_len (a + 1) (m + n)) else filter d (range_with_len (a + 1) (m + n)))
        ≡ length (if b then a ∷ filter d (range_with_len (a + 1) m) else filter d (range_with_len (a + 1) m)) + tally d (a + suc m) n
    by true h = omega (arith, h)
    by false h = h

tally_none : (d : ℕ → Bool) (a n : ℕ) → ((c : ℕ) → a ≤ c → c < a + n → d c ≡ false) → tally d a n ≡ 0
tally_none d a zero none = refl
tally_none d a (suc n) none =
    ap (λ b. length (if b then a ∷ filter d (range_with_len (a + 1) n) else filter d (range_with_len (a + 1) n))) (none a (omega arith) (omega arith))
    ∙ tally_none d (a + 1) n (λ c low high. none c (omega (arith, low)) (omega (arith, high)))

tally_same : (d e : ℕ → Bool) (a n : ℕ) → ((c : ℕ) → d c ≡ e c) → tally d a n ≡ tally e a n
tally_same d e a zero same = refl
tally_same d e a (suc n) same =
    ap (λ b. length (if b then a ∷ filter d (range_with_len (a + 1) n) else filter d (range_with_len (a + 1) n))) (same a) ∙ by (e a) (tally_same d e (a + 1) n same)
  where
    by : (b : Bool) → tally d (a + 1) n ≡ tally e (a + 1) n
        → length (if b then a ∷ filter d (range_with_len (a + 1) n) else filter d (range_with_len (a + 1) n)) ≡ length (if b then a ∷ filter e (range_with_len (a + 1) n) else filter e (range_with_len (a + 1) n))
    by true h = ap (λ n. suc n) h
    by false h = h

tally_places : (d : ℕ × ℕ → Bool) (r a n : ℕ) → length (filter d (part_places a n r)) ≡ tally (λ c. d (r, c)) a n
tally_places d r a zero = refl
tally_places d r a (suc n) = by (d (r, a)) (tally_places d r (a + 1) n)
  where
    by : (b : Bool) → length (filter d (part_places (a + 1) n r)) ≡ tally (λ c. d (r, c)) (a + 1) n
        → length (if b then (r, a) ∷ filter d (part_places (a + 1) n r) else filter d (part_places (a + 1) n r))
        ≡ length (if b then a ∷ filter (λ c. d (r, c)) (range_with_len (a + 1) n) else filter (λ c. d (r, c)) (range_with_len (a + 1) n))
    by true h = ap (λ n. suc n) h
    by false h = h

-- the first of a range that passes
pub record IsFirst (d : ℕ → Bool) (a n f : ℕ) : Type 0 where
  pub low : a ≤ f
  pub high : f < a + n
  pub passes : d f ≡ true
  pub none : (c : ℕ) → a ≤ c → c < f → d c ≡ false

first_found : (d : ℕ → Bool) (a n f : ℕ) → find d (range_with_len a n) ≡ Some f → IsFirst d a n f
first_found d a zero f found = none_is_not f found
first_found d a (suc n) f found = by (d a) refl (λ rest. first_found d (a + 1) n f rest) found
  where
    by : (b : Bool) → d a ≡ b → (find d (range_with_len (a + 1) n) ≡ Some f → IsFirst d (a + 1) n f) → (if b then Some a else find d (range_with_len (a + 1) n)) ≡ Some f → IsFirst d a (suc n) f
    by true h more e =
        let same : a ≡ f = some_is a f e in
        record { low = omega (arith, same); high = omega (arith, same); passes = ap d (sym same) ∙ h; none = λ c low high. absurd (omega (arith, low, high, same)) }
    by false h more e =
        let is = more e in
        record { low = omega (arith, is.low); high = omega (arith, is.high); passes = is.passes; none = λ c low high. either c low high (a == c) refl is }
      where
        either : (c : ℕ) → a ≤ c → c < f → (b : Bool) → (a == c) ≡ b → IsFirst d (a + 1) n f → d c ≡ false
        either c low high true e is = let same : a ≡ c = grind (arith, nat_tests) in ap d (sym same) ∙ h
        either c low high false e is = let above : a + 1 ≤ c = grind (arith, nat_tests) in is.none c above high

none_found : (d : ℕ → Bool) (a n : ℕ) → find d (range_with_len a n) ≡ None → (c : ℕ) → a ≤ c → c < a + n → d c ≡ false
none_found d a zero found c low high = absurd (omega (arith, low, high))
none_found d a (suc n) found c low high = by (d a) refl (λ rest above. none_found d (a + 1) n rest c above (omega (arith, high))) found
  where
    either : (b : Bool) → (a == c) ≡ b → d a ≡ false → (a + 1 ≤ c → d c ≡ false) → d c ≡ false
    either true e h rest = let same : a ≡ c = grind (arith, nat_tests) in ap d (sym same) ∙ h
    either false e h rest = let above : a + 1 ≤ c = grind (arith, nat_tests) in rest above

    by : (b : Bool) → d a ≡ b → (find d (range_with_len (a + 1) n) ≡ None → a + 1 ≤ c → d c ≡ false) → (if b then Some a else find d (range_with_len (a + 1) n)) ≡ None → d c ≡ false
    by true h more e = (cc)
    by false h more e = either (a == c) refl h (more e)

-- no more pass than there are
tally_few : (d : ℕ → Bool) (a n : ℕ) → tally d a n ≤ n
tally_few d a zero = omega arith
tally_few d a (suc n) = by (d a) (tally_few d (a + 1) n)
  where
    by : (b : Bool) → tally d (a + 1) n ≤ n → length (if b then a ∷ filter d (range_with_len (a + 1) n) else filter d (range_with_len (a + 1) n)) ≤ suc n
    by true h = omega (arith, h)
    by false h = omega (arith, h)

-- one column in front
pub first_more : (d : ℕ → Bool) (a n : ℕ) (shown : Bool) (old new : Option ℕ) → d a ≡ not shown → old ≡ find d (range_with_len (a + 1) n) → new ≡ (if shown then old else Some a) → new ≡ find d (range_with_len a (suc n))
first_more d a n shown old new is was made = made ∙ by shown ∙ sym (ap (λ b. if b then Some a else find d (range_with_len (a + 1) n)) is)
  where
    by : (b : Bool) → (if b then old else Some a) ≡ (if not b then Some a else find d (range_with_len (a + 1) n))
    by true = was
    by false = refl

pub count_more : (d : ℕ → Bool) (a n : ℕ) (shown : Bool) (old new : ℕ) → d a ≡ not shown → old ≡ tally d (a + 1) n → new ≡ (if shown then old else old + 1) → new ≡ tally d a (suc n)
count_more d a n shown old new is was made = made ∙ by shown ∙ sym (ap (λ b. length (if b then a ∷ filter d (range_with_len (a + 1) n) else filter d (range_with_len (a + 1) n))) is)
  where
    by : (b : Bool) → (if b then old else old + 1) ≡ length (if not b then a ∷ filter d (range_with_len (a + 1) n) else filter d (range_with_len (a + 1) n))
    by true = was
    by false = omega (arith, was)

-- ---- one blank more

-- what a loop keeps that goes from the end of a part to its beginning
pub record IsKeptRest (painter : Painter) (picture : PictureView) (row : ℕ) (before : Option (List LookView)) (from end : ℕ) (rest : Rest) : Type 0 where
  pub low : from ≤ rest.begin
  pub high : rest.begin ≤ end
  pub blanks : (c : ℕ) → rest.begin ≤ c → c < end → look_eq (painter_look painter picture (row, c)) blank ≡ true
  pub first : rest.first ≡ find (differs_in painter picture row before) (range_with_len rest.begin (end - rest.begin))
  pub count : rest.count ≡ length (filter (differs_in painter picture row before) (range_with_len rest.begin (end - rest.begin)))
  pub few : rest.count ≤ end - rest.begin

pub rest_more : (painter : Painter) (picture : PictureView) (row : ℕ) (before : Option (List LookView)) (from end : ℕ) (cells : List CellView) (old new : Rest) (byte : ℕ) (pen : PenView)
    → from < old.begin → cells ≡ grid_row picture.lines row → byte ≡ (painter_sees painter picture.pairs (get_or cells (old.begin - 1) blank_cell)).character → pen ≡ (painter_sees painter picture.pairs (get_or cells (old.begin - 1) blank_cell)).pen
    → look_eq (record { character = byte; pen = pen }) blank ≡ true → new.begin ≡ old.begin - 1
    → new.first ≡ (if look_eq (shown_in before (old.begin - 1)) (record { character = byte; pen = pen }) then old.first else Some (old.begin - 1))
    → new.count ≡ (if look_eq (shown_in before (old.begin - 1)) (record { character = byte; pen = pen }) then old.count else old.count + 1)
    → IsKeptRest painter picture row before from end old → IsKeptRest painter picture row before from end new
rest_more painter picture row before from end cells old new byte pen more are is_byte is_pen blank_here begin first count is =
    let a = old.begin - 1 in
    let d = differs_in painter picture row before in
    let look : record { character = byte; pen = pen } ≡ painter_look painter picture (row, a) = differs_by painter picture row before a cells byte pen are is_byte is_pen in
    let shown = look_eq (shown_in before a) (record { character = byte; pen = pen }) in
    let differs_here : d a ≡ not shown = ap not (sym (ap (look_eq (shown_in before a)) look)) in
    let next : old.begin ≡ a + 1 = omega (arith, more) in
    let whole : end - new.begin ≡ suc (end - old.begin) = omega (arith, begin, more, is.high) in
    let range : range_with_len new.begin (end - new.begin) ≡ range_with_len a (suc (end - old.begin)) = (λ i. range_with_len (begin i) (whole i)) in
    let less : tally d new.begin (end - new.begin) ≤ end - new.begin = tally_few d new.begin (end - new.begin) in
    let counted : new.count ≡ tally d new.begin (end - new.begin) =
    count_more d a (end - old.begin) shown old.count new.count differs_here (is.count ∙ ap (λ k. tally d k (end - old.begin)) next) count ∙ sym (ap (λ r. length (filter d r)) range) in
    record {
      low = omega (arith, more, begin);
      high = omega (arith, begin, is.high);
      blanks = λ c low high. either c low high (c == a) refl look;
      first = first_more d a (end - old.begin) shown old.first new.first differs_here (is.first ∙ ap (λ k. find d (range_with_len k (end - old.begin))) next) first ∙ sym (ap (find d) range);
      count = counted;
      few = omega (arith, less, counted);
    }
  where
    either : (c : ℕ) → new.begin ≤ c → c < end → (b : Bool) → (c == (old.begin - 1)) ≡ b → record { character = byte; pen = pen } ≡ painter_look painter picture (row, old.begin - 1) → look_eq (painter_look painter picture (row, c)) blank ≡ true
    either c low high true e look = let same : c ≡ old.begin - 1 = grind (arith, nat_tests) in ap (λ c. look_eq (painter_look painter picture (row, c)) blank) same ∙ sym (ap (λ l. look_eq l blank) look) ∙ blank_here
    either c low high false e look = let above : old.begin ≤ c = grind (arith, nat_tests, begin, more) in is.blanks c above high

-- ---- where the rest is erased

-- a column that differs, and from which on all is seen blank
abbrev erasable_at : ProfileView → PictureView → MemoryView → ℕ → ℕ → Bool
erasable_at profile picture memory r c = differs profile picture memory (r, c) && is_blank_from profile picture r c

column_is_first : (profile : ProfileView) (picture : PictureView) (memory : MemoryView) (r a n : ℕ) → blank_column profile picture memory r (range_with_len a n) ≡ find (erasable_at profile picture memory r) (range_with_len a n)
column_is_first profile picture memory r a zero = refl
column_is_first profile picture memory r a (suc n) = ap (λ rest. if erasable_at profile picture memory r a then Some a else rest) (column_is_first profile picture memory r (a + 1) n)

-- all of a range passes
range_passes : (p : ℕ → Bool) (a n : ℕ) → ((k : ℕ) → a ≤ k → k < a + n → p k ≡ true) → list_all p (range_with_len a n) ≡ true
range_passes p a zero all = refl
range_passes p a (suc n) all =
    ap (λ b. b && list_all p (range_with_len (a + 1) n)) (all a (omega arith) (omega arith)) ∙ range_passes p (a + 1) n (λ k low high. all k (omega (arith, low)) (omega (arith, high)))

-- what a part of a row ends with, for a memory that shows the row
pub record IsPart (profile : ProfileView) (picture : PictureView) (memory : MemoryView) (r from end : ℕ) (rest : Rest) : Type 0 where
  pub wide : end ≤ picture.columns
  pub low : from ≤ rest.begin
  pub high : rest.begin ≤ end
  pub blanks : (c : ℕ) → rest.begin ≤ c → c < end → look_at profile picture (r, c) ≡ blank
  pub edge : (rest.begin ≡ from) ⊎ ((from < rest.begin) × (look_eq (look_at profile picture (r, rest.begin - 1)) blank ≡ false))
  pub first : rest.first ≡ find (λ c. differs profile picture memory (r, c)) (range_with_len rest.begin (end - rest.begin))
  pub count : rest.count ≡ tally (λ c. differs profile picture memory (r, c)) rest.begin (end - rest.begin)
  pub outside : (c : ℕ) → (c < from) ⊎ (end ≤ c) → c < picture.columns → differs profile picture memory (r, c) ≡ false

find_same : (d e : ℕ → Bool) (a n : ℕ) → ((c : ℕ) → d c ≡ e c) → find d (range_with_len a n) ≡ find e (range_with_len a n)
find_same d e a zero same = refl
find_same d e a (suc n) same = (λ i. if same a i then Some a else find_same d e (a + 1) n same i)

part_of : (profile : ProfileView) (picture : PictureView) (memory : MemoryView) (r : ℕ) (before : Option (List LookView)) → ShowsRow memory r before → (from end : ℕ) (rest : Rest) → end ≤ picture.columns
    → IsRest (painter_of profile) picture r before from end rest → ((c : ℕ) → (c < from) ⊎ (end ≤ c) → c < picture.columns → row_differs (painter_of profile) picture before (r, c) ≡ false) → IsPart profile picture memory r from end rest
part_of profile picture memory r before shows from end rest wide is outside =
    let same = differs_same profile picture memory r before shows in
    record {
      wide = wide;
      low = is.low;
      high = is.high;
      blanks = λ c low high. look_same (look_at profile picture (r, c)) blank (is.blanks c low high);
      edge = is.edge;
      first = is.first ∙ find_same (differs_in (painter_of profile) picture r before) (λ c. differs profile picture memory (r, c)) rest.begin (end - rest.begin) same;
      count = is.count ∙ tally_same (differs_in (painter_of profile) picture r before) (λ c. differs profile picture memory (r, c)) rest.begin (end - rest.begin) same;
      outside = λ c out w. sym (same c) ∙ outside c out w;
    }

-- a column that is found
pub record IsErasedAt (profile : ProfileView) (picture : PictureView) (memory : MemoryView) (r end : ℕ) (rest : Rest) (e : ℕ) : Type 0 where
  pub first : rest.first ≡ Some e
  pub inside : e < end
  pub blanks : (c : ℕ) → e ≤ c → c < picture.columns → look_at profile picture (r, c) ≡ blank
  pub count : differing_from profile picture memory r e ≡ rest.count

never_both : {R : Type 0} (b : Bool) → b ≡ true → b ≡ false → R
never_both true e f = (cc)
never_both false e f = (cc)

-- those that differ from the first of a part on are those of the part
counted_from : (profile : ProfileView) (picture : PictureView) (memory : MemoryView) (r from end e : ℕ) (rest : Rest) → IsPart profile picture memory r from end rest → rest.begin ≤ e → e < end
    → ((c : ℕ) → rest.begin ≤ c → c < e → differs profile picture memory (r, c) ≡ false) → differing_from profile picture memory r e ≡ rest.count
counted_from profile picture memory r from end e rest is low high none =
    let d : ℕ → Bool = λ c. differs profile picture memory (r, c) in
    let b = rest.begin in
    let whole : picture.columns - b ≡ (end - b) + (picture.columns - end) = omega (arith, is.high, is.wide) in
    let cut : picture.columns - b ≡ (e - b) + (picture.columns - e) = omega (arith, low, high, is.wide) in
    let at_end : b + (end - b) ≡ end = omega (arith, is.high) in
    let at_e : b + (e - b) ≡ e = omega (arith, low) in
    let behind : tally d end (picture.columns - end) ≡ 0 = tally_none d end (picture.columns - end) (λ c l h. is.outside c (inr l) (omega (arith, h, is.wide))) in
    let front : tally d b (e - b) ≡ 0 = tally_none d b (e - b) (λ c l h. none c l (omega (arith, h, at_e))) in
    let one : tally d b (picture.columns - b) ≡ tally d b (end - b) + tally d end (picture.columns - end) = ap (tally d b) whole ∙ tally_joined d b (end - b) (picture.columns - end) ∙ ap (λ k. tally d b (end - b) + tally d k (picture.columns - end)) at_end in
    let other : tally d b (picture.columns - b) ≡ tally d b (e - b) + tally d e (picture.columns - e) = ap (tally d b) cut ∙ tally_joined d b (e - b) (picture.columns - e) ∙ ap (λ k. tally d b (e - b) + tally d k (picture.columns - e)) at_e in
    let all : differing_from profile picture memory r e ≡ tally d e (picture.columns - e) =
    count_from profile picture memory r e (omega (arith, high, is.wide)) ∙ tally_places (differs profile picture memory) r e (picture.columns - e) in
    all ∙ omega (arith, one, other, behind, front, is.count) ∙ sym is.count

erased_at : (profile : ProfileView) (picture : PictureView) (memory : MemoryView) (r from end : ℕ) (rest : Rest) → IsPart profile picture memory r from end rest → (e : ℕ)
    → blank_column profile picture memory r (range_with_len 0 picture.columns) ≡ Some e → IsErasedAt profile picture memory r end rest e
erased_at profile picture memory r from end rest is e found =
    let q = erasable_at profile picture memory r in
    let first : IsFirst q 0 picture.columns e = first_found q 0 picture.columns e (sym (column_is_first profile picture memory r 0 picture.columns) ∙ found) in
    let parts = both (differs profile picture memory (r, e)) (is_blank_from profile picture r e) first.passes in
    let wide : e < picture.columns = omega (arith, first.high) in
    let blanks = blank_from profile picture r e parts.1 in
    let inside : (from ≤ e) × (e < end) = within parts.0 wide (nat_lt e from) refl (nat_lt e end) refl in
    let behind : rest.begin ≤ e = later blanks inside.0 wide is.edge (nat_lt e rest.begin) refl in
    let none : (c : ℕ) → rest.begin ≤ c → c < e → differs profile picture memory (r, c) ≡ false = λ c low high. earlier blanks inside.1 first c low high (differs profile picture memory (r, c)) refl in
    record {
      first = is.first ∙ found_first (find (λ c. differs profile picture memory (r, c)) (range_with_len rest.begin (end - rest.begin))) refl behind inside.1 parts.0 none;
      inside = inside.1;
      blanks = blanks;
      count = counted_from profile picture memory r from end e rest is behind inside.1 none;
    }
  where
    within : differs profile picture memory (r, e) ≡ true → e < picture.columns → (a : Bool) → nat_lt e from ≡ a → (b : Bool) → nat_lt e end ≡ b → (from ≤ e) × (e < end)
    within here wide true before b h = never_both (differs profile picture memory (r, e)) here (is.outside e (inl (grind (arith, nat_tests))) wide)
    within here wide false before false h = never_both (differs profile picture memory (r, e)) here (is.outside e (inr (grind (arith, nat_tests))) wide)
    within here wide false before true h = (grind (arith, nat_tests), grind (arith, nat_tests))

    later : ((c : ℕ) → e ≤ c → c < picture.columns → look_at profile picture (r, c) ≡ blank) → from ≤ e → e < picture.columns
        → (rest.begin ≡ from) ⊎ ((from < rest.begin) × (look_eq (look_at profile picture (r, rest.begin - 1)) blank ≡ false)) → (b : Bool) → nat_lt e rest.begin ≡ b → rest.begin ≤ e
    later blanks low wide edge false h = grind (arith, nat_tests)
    later blanks low wide (inl at) true h = omega (arith, at, low)
    later blanks low wide (inr other) true h =
        let below : e < rest.begin = grind (arith, nat_tests) in
        let here : look_at profile picture (r, rest.begin - 1) ≡ blank = blanks (rest.begin - 1) (omega (arith, below)) (omega (arith, is.high, is.wide, other.0)) in
        never_both (look_eq (look_at profile picture (r, rest.begin - 1)) blank) (ap (λ l. look_eq l blank) here ∙ look_refl blank) other.1

    earlier : ((c : ℕ) → e ≤ c → c < picture.columns → look_at profile picture (r, c) ≡ blank) → e < end → IsFirst (erasable_at profile picture memory r) 0 picture.columns e
        → (c : ℕ) → rest.begin ≤ c → c < e → (b : Bool) → differs profile picture memory (r, c) ≡ b → differs profile picture memory (r, c) ≡ false
    earlier blanks inside first c low high false h = h
    earlier blanks inside first c low high true h =
        let all : is_blank_from profile picture r c ≡ true =
        range_passes (λ k. not (leb c k) || look_eq (look_at profile picture (r, k)) blank) 0 picture.columns (λ k l w. passes k w (leb c k) refl (nat_lt k end) refl) in
        never_both (erasable_at profile picture memory r c) ((λ i. h i && all i)) (first.none c (omega arith) high)
      where
        blank_there : (k : ℕ) → look_at profile picture (r, k) ≡ blank → (b : Bool) → (not b || look_eq (look_at profile picture (r, k)) blank) ≡ true
        blank_there k is_blank true = ap (λ l. look_eq l blank) is_blank ∙ look_refl blank
        blank_there k is_blank false = refl

        passes : (k : ℕ) → k < 0 + picture.columns → (b : Bool) → leb c k ≡ b → (a : Bool) → nat_lt k end ≡ a → (not (leb c k) || look_eq (look_at profile picture (r, k)) blank) ≡ true
        passes k w false below a there = ap (λ b. not b || look_eq (look_at profile picture (r, k)) blank) below
        passes k w true above true there = blank_there k (is.blanks k (grind (arith, nat_tests, low)) (grind (arith, nat_tests))) (leb c k)
        passes k w true above false there = blank_there k (blanks k (grind (arith, nat_tests, inside)) (omega (arith, w))) (leb c k)

    found_first : (f : Option ℕ) → find (λ c. differs profile picture memory (r, c)) (range_with_len rest.begin (end - rest.begin)) ≡ f → rest.begin ≤ e → e < end → differs profile picture memory (r, e) ≡ true
        → ((c : ℕ) → rest.begin ≤ c → c < e → differs profile picture memory (r, c) ≡ false) → f ≡ Some e
    found_first None h low high here none =
        never_both (differs profile picture memory (r, e)) here (none_found (λ c. differs profile picture memory (r, c)) rest.begin (end - rest.begin) h e low (omega (arith, high, is.high)))
    found_first (Some f) h low high here none =
        let first = first_found (λ c. differs profile picture memory (r, c)) rest.begin (end - rest.begin) f h in
        by first (nat_lt f e) refl (nat_lt e f) refl
      where
        by : IsFirst (λ c. differs profile picture memory (r, c)) rest.begin (end - rest.begin) f → (a : Bool) → nat_lt f e ≡ a → (b : Bool) → nat_lt e f ≡ b → Some f ≡ Some e
        by first true less b h = never_both (differs profile picture memory (r, f)) first.passes (none f first.low (grind (arith, nat_tests)))
        by first false not_less true more = never_both (differs profile picture memory (r, e)) here (first.none e low (grind (arith, nat_tests)))
        by first false not_less false not_more = let same : f ≡ e = grind (arith, nat_tests) in ap (λ k. Some k) same

-- ---- the column that is erased

-- the first column of a rest that differs is in the part, and seen blank
pub rest_column : (painter : Painter) (picture : PictureView) (row : ℕ) (before : Option (List LookView)) (from end : ℕ) (rest : Rest) (f : ℕ) → IsRest painter picture row before from end rest → rest.first ≡ Some f → (from ≤ f) × (f < end)
rest_column painter picture row before from end rest f is first =
    let there = first_found (differs_in painter picture row before) rest.begin (end - rest.begin) f (sym is.first ∙ first) in
    (omega (arith, there.low, is.low), omega (arith, there.high, is.high))

pub rest_look : (painter : Painter) (picture : PictureView) (row : ℕ) (before : Option (List LookView)) (from end : ℕ) (rest : Rest) (f : ℕ) → IsRest painter picture row before from end rest → rest.first ≡ Some f → painter_look painter picture (row, f) ≡ blank
rest_look painter picture row before from end rest f is first =
    let there = first_found (differs_in painter picture row before) rest.begin (end - rest.begin) f (sym is.first ∙ first) in
    look_same (painter_look painter picture (row, f)) blank (is.blanks f there.low (omega (arith, there.high, is.high)))

-- what it costs, where it is had
pub priced : (profile : ProfileView) (cost : Option ℕ) (price : ℕ) → cost ≡ (if has profile EraseLine then Some (length (bytes_of profile EraseLine)) else None) → cost ≡ Some price
    → (has profile EraseLine ≡ true) × (length (bytes_of profile EraseLine) ≡ price)
priced profile cost price is some = by (has profile EraseLine) refl (sym is ∙ some)
  where
    by : (b : Bool) → has profile EraseLine ≡ b → (if b then Some (length (bytes_of profile EraseLine)) else None) ≡ Some price → (has profile EraseLine ≡ true) × (length (bytes_of profile EraseLine) ≡ price)
    by true h e = (h, some_is (length (bytes_of profile EraseLine)) price e)
    by false h e = none_is_not price e

-- there is no such column
pub unworthy : {R : Type 0} (e : ℕ) → Some e ≡ None → R
unworthy e h = (cc)

-- a place after is not blank
pub not_blank : {R : Type 0} (b : Bool) → b ≡ true → b ≡ false → R
not_blank b yes_it no_it = never_both b yes_it no_it

-- too few differ
pub too_few : (profile : ProfileView) (count price : ℕ) → length (bytes_of profile EraseLine) ≡ price → count < price → (has profile EraseLine && nat_le (length (bytes_of profile EraseLine)) count) ≡ false
too_few profile count price is few = let less : nat_le (length (bytes_of profile EraseLine)) count ≡ false = grind (arith, nat_tests) in ap (λ b. has profile EraseLine && b) less ∙ by (has profile EraseLine)
  where
    by : (b : Bool) → (b && false) ≡ false
    by true = refl
    by false = refl

-- none, where it is not worth it or not possible
pub erased_none : (profile : ProfileView) (picture : PictureView) (memory : MemoryView) (r : ℕ) (before : Option (List LookView)) (painter : Painter) → painter ≡ painter_of profile → ShowsRow memory r before → (from end : ℕ) (rest : Rest) → end ≤ picture.columns
    → IsRest painter picture r before from end rest → ((c : ℕ) → (c < from) ⊎ (end ≤ c) → c < picture.columns → row_differs painter picture before (r, c) ≡ false)
    → ((e : ℕ) → rest.first ≡ Some e → ((c : ℕ) → end ≤ c → c < picture.columns → look_eq (painter_look painter picture (r, c)) blank ≡ true) → (has profile EraseLine && nat_le (length (bytes_of profile EraseLine)) rest.count) ≡ false)
    → None ≡ erased_column profile picture memory r
erased_none profile picture memory r before painter who shows from end rest wide is outside unworthy = by (blank_column profile picture memory r (range_with_len 0 picture.columns)) refl
  where
    part : IsPart profile picture memory r from end rest
    part =
        part_of profile picture memory r before shows from end rest wide (subst (λ p. IsRest p picture r before from end rest) who is)
        (λ c out w. ap (λ p. row_differs p picture before (r, c)) (sym who) ∙ outside c out w)

    by : (found : Option ℕ) → blank_column profile picture memory r (range_with_len 0 picture.columns) ≡ found → None ≡ erased_if_worth profile picture memory r found
    by None h = refl
    by (Some e) h =
        let at = erased_at profile picture memory r from end rest part e h in
        let unworth = unworthy e at.first (λ c low w. ap (λ p. look_eq (painter_look p picture (r, c)) blank) who ∙ ap (λ l. look_eq l blank) (at.blanks c (omega (arith, low, at.inside)) w) ∙ look_refl blank) in
        sym (ap (λ n. if has profile EraseLine && nat_le (length (bytes_of profile EraseLine)) n then Some e else None) at.count ∙ ap (λ b. if b then Some e else None) unworth)

-- some column, where it is
pub erased_some : (profile : ProfileView) (picture : PictureView) (memory : MemoryView) (r : ℕ) (before : Option (List LookView)) (painter : Painter) → painter ≡ painter_of profile → ShowsRow memory r before → (from end : ℕ) (rest : Rest) → end ≤ picture.columns
    → IsRest painter picture r before from end rest → ((c : ℕ) → (c < from) ⊎ (end ≤ c) → c < picture.columns → row_differs painter picture before (r, c) ≡ false)
    → (f : ℕ) → rest.first ≡ Some f → ((c : ℕ) → end ≤ c → c < picture.columns → look_eq (painter_look painter picture (r, c)) blank ≡ true) → has profile EraseLine ≡ true → length (bytes_of profile EraseLine) ≤ rest.count
    → Some f ≡ erased_column profile picture memory r
erased_some profile picture memory r before painter who shows from end rest wide is outside f first tail had enough = by (blank_column profile picture memory r (range_with_len 0 picture.columns)) refl
  where
    part : IsPart profile picture memory r from end rest
    part =
        part_of profile picture memory r before shows from end rest wide (subst (λ p. IsRest p picture r before from end rest) who is)
        (λ c out w. ap (λ p. row_differs p picture before (r, c)) (sym who) ∙ outside c out w)

    there : IsFirst (λ c. differs profile picture memory (r, c)) rest.begin (end - rest.begin) f
    there = first_found (λ c. differs profile picture memory (r, c)) rest.begin (end - rest.begin) f (sym part.first ∙ first)

    low_enough : f < end
    low_enough = omega (arith, there.high, part.high)

    passes : erasable_at profile picture memory r f ≡ true
    passes = (λ i. there.passes i && all i)
      where
        blank_there : (k : ℕ) → look_eq (look_at profile picture (r, k)) blank ≡ true → (b : Bool) → (not b || look_eq (look_at profile picture (r, k)) blank) ≡ true
        blank_there k is_blank true = is_blank
        blank_there k is_blank false = refl

        each : (k : ℕ) → k < 0 + picture.columns → (b : Bool) → leb f k ≡ b → (a : Bool) → nat_lt k end ≡ a → (not (leb f k) || look_eq (look_at profile picture (r, k)) blank) ≡ true
        each k w false below a h = ap (λ b. not b || look_eq (look_at profile picture (r, k)) blank) below
        each k w true above true h = blank_there k (ap (λ l. look_eq l blank) (part.blanks k (grind (arith, nat_tests, there.low)) (grind (arith, nat_tests))) ∙ look_refl blank) (leb f k)
        each k w true above false h = blank_there k (ap (λ p. look_eq (painter_look p picture (r, k)) blank) (sym who) ∙ tail k (grind (arith, nat_tests)) (omega (arith, w))) (leb f k)

        all : is_blank_from profile picture r f ≡ true
        all = range_passes (λ k. not (leb f k) || look_eq (look_at profile picture (r, k)) blank) 0 picture.columns (λ k l w. each k w (leb f k) refl (nat_lt k end) refl)

    by : (found : Option ℕ) → blank_column profile picture memory r (range_with_len 0 picture.columns) ≡ found → Some f ≡ erased_if_worth profile picture memory r found
    by None h =
        never_both (erasable_at profile picture memory r f) passes
        (none_found (erasable_at profile picture memory r) 0 picture.columns (sym (column_is_first profile picture memory r 0 picture.columns) ∙ h) f (omega arith) (omega (arith, low_enough, wide)))
    by (Some e) h =
        let at = erased_at profile picture memory r from end rest part e h in
        let same : f ≡ e = some_is f e (sym first ∙ at.first) in
        let worth : nat_le (length (bytes_of profile EraseLine)) rest.count ≡ true = grind (arith, nat_tests, enough) in
        ap (λ k. Some k) same
        ∙ sym (ap (λ n. if has profile EraseLine && nat_le (length (bytes_of profile EraseLine)) n then Some e else None) at.count
        ∙ ap (λ b. if b && nat_le (length (bytes_of profile EraseLine)) rest.count then Some e else None) had
        ∙ ap (λ b. if b then Some e else None) worth)

-- ---- places after one another

-- what holds of places up to one, and of that one
pub one_place_more : (holds : ℕ → Type 0) (from column : ℕ) → ((c : ℕ) → from ≤ c → c < column → holds c) → holds column → (c : ℕ) → from ≤ c → c < column + 1 → holds c
one_place_more holds from column some last c low high = by (ltb c column) refl
  where
    by : (b : Bool) → ltb c column ≡ b → holds c
    by true e = let below : c < column = grind (arith, nat_tests) in some c low below
    by false e = let here : column ≡ c = grind (arith, nat_tests) in subst holds here last

-- cells with the same attributes and the same colour pair are seen with one pen
pub alike_pens : (painter : Painter) (pairs : List (Option ℕ × Option ℕ)) (a b : CellView) → a.attrs ≡ b.attrs → a.pair ≡ b.pair → (painter_sees painter pairs a).pen ≡ (painter_sees painter pairs b).pen
alike_pens painter pairs a b attrs pair = λ i. (painter_sees painter pairs (record a { attrs = attrs i; pair = pair i })).pen

-- what is seen in a place of a row, by the row's cells
pub look_by : (painter : Painter) (picture : PictureView) (row c : ℕ) (cells : List CellView) → cells ≡ grid_row picture.lines row → painter_sees painter picture.pairs (get_or cells c blank_cell) ≡ painter_look painter picture (row, c)
look_by painter picture row c cells are = ap (λ line. painter_sees painter picture.pairs (get_or line c blank_cell)) are

pub alike_in : (painter : Painter) (pairs : List (Option ℕ × Option ℕ)) (cells : List CellView) (a b : ℕ) (one other : CellView) → one ≡ get_or cells a blank_cell → other ≡ get_or cells b blank_cell → one.attrs ≡ other.attrs → one.pair ≡ other.pair
    → (painter_sees painter pairs (get_or cells b blank_cell)).pen ≡ (painter_sees painter pairs (get_or cells a blank_cell)).pen
alike_in painter pairs cells a b one other is_one is_other attrs pair =
    sym (alike_pens painter pairs (get_or cells a blank_cell) (get_or cells b blank_cell) (ap (λ cell. cell.attrs) (sym is_one) ∙ attrs ∙ ap (λ cell. cell.attrs) is_other) (ap (λ cell. cell.pair) (sym is_one) ∙ pair ∙ ap (λ cell. cell.pair) is_other))

pub alike_looks : (painter : Painter) (picture : PictureView) (row : ℕ) (cells : List CellView) → cells ≡ grid_row picture.lines row → (a b : ℕ) (one other : CellView) → one ≡ get_or cells a blank_cell → other ≡ get_or cells b blank_cell
    → one.attrs ≡ other.attrs → one.pair ≡ other.pair → (painter_look painter picture (row, b)).pen ≡ (painter_look painter picture (row, a)).pen
alike_looks painter picture row cells are a b one other is_one is_other attrs pair =
    ap (λ look. look.pen) (sym (look_by painter picture row b cells are))
    ∙ alike_in painter picture.pairs cells a b one other is_one is_other attrs pair
    ∙ ap (λ look. look.pen) (look_by painter picture row a cells are)

-- the first place, and so many places from it on
pub first_places : (holds : ℕ → Type 0) (column count more : ℕ) → ((c : ℕ) → column ≤ c → column + count ≤ c → c < column + more → column ≡ c) → holds column → ((c : ℕ) → column ≤ c → c < column + count → holds c)
    → (c : ℕ) → column ≤ c → c < column + more → holds c
first_places holds column count more else_first first some c low high = by (ltb c (column + count)) refl
  where
    by : (b : Bool) → ltb c (column + count) ≡ b → holds c
    by true e = let below : c < column + count = grind (arith, nat_tests) in some c low below
    by false e = let above : column + count ≤ c = grind (arith, nat_tests) in subst holds (else_first c low above high) first

-- cells with one rendition are seen with one pen
pub rendition_looks : (painter : Painter) (picture : PictureView) (row : ℕ) (cells : List CellView) → cells ≡ grid_row picture.lines row → (a b : ℕ) → HasRendition (get_or cells a blank_cell) cells b
    → (painter_look painter picture (row, b)).pen ≡ (painter_look painter picture (row, a)).pen
rendition_looks painter picture row cells are a b has =
    alike_looks painter picture row cells are a b (get_or cells a blank_cell) (get_or cells b blank_cell) refl refl (sym has.attrs) (sym has.pair)

-- a place that does not show what is seen of its cell differs
pub unlike_differs : (painter : Painter) (picture : PictureView) (row : ℕ) (before : Option (List LookView)) (c : ℕ) (cells : List CellView) → cells ≡ grid_row picture.lines row
    → shown_in before c ≢ painter_sees painter picture.pairs (get_or cells c blank_cell) → row_differs painter picture before (row, c) ≡ true
unlike_differs painter picture row before c cells are unlike = by (look_eq (shown_in before c) (painter_look painter picture (row, c))) refl
  where
    by : (b : Bool) → look_eq (shown_in before c) (painter_look painter picture (row, c)) ≡ b → not b ≡ true
    by true e = absurd (unlike (look_same (shown_in before c) (painter_look painter picture (row, c)) e ∙ sym (look_by painter picture row c cells are)))
    by false e = refl
