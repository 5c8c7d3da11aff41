-- The joined repaint, row by row.
use Rattle.std.proofs.Common.{◌≡◌, ℕ, ◌+◌, ◌-◌, ◌<◌, ◌≤◌, ◌⊎◌, inl, inr, not, Bool, true, false, refl, sym, ◌∙◌, ap, subst, arith, append_assoc, nat_lt, Result, OnOk, List, [], ◌∷◌, ◌++◌, filter, Option, Some, None, zero, suc, if◌then◌else◌, length}
use Rattle.std.specs.List.{All, flat_map}
use Rattle.std.proofs.lemmas.Bool.Decides.{nat_tests}
use Rattle.std.proofs.lemmas.List.{append-nil}
use Rattle.std.proofs.lemmas.List.Elements.{recursion_from_All, filter-append}
use Rattle.scr_term.specs.Operations.Texts.{bytes_of, has, put_of}
use Rattle.scr_plan.proofs.LengthLaws.{more_bytes, one_bytes}
use Rattle.scr_plan.specs.Code.Joinings.{place_bytes, run_bytes}
use Rattle.scr_cells.specs.CellViews.{IsCell, blank_cell}
use Rattle.scr_cells.specs.Characters.{IsCharacter}
use Rattle.scr_cells.specs.Grids.{grid_at, grid_row}
use Rattle.scr_cells.specs.LookViews.{LookView, blank}
use Rattle.scr_cells.specs.PenViews.{PenView, pen_eq}
use Rattle.scr_cells.specs.PictureViews.{PictureView, IsPicture}
use Rattle.scr_virtual.specs.Ranges.{in_range}
use Rattle.scr_virtual.specs.VirtualViews.{VirtualView}
use Rattle.scr_term.specs.declared.operations.operation.Op.{Op}
use Rattle.scr_term.specs.declared.operations.operation.Op.TheVariants.{EraseLine}
use Rattle.scr_term.specs.declared.operations.operation.Spot.TheVariants.{At, Margin}
use Rattle.scr_term.specs.Operations.Laws.{ProfilesHave, RunLaws}
use Rattle.scr_term.specs.Operations.Profiles.{ProfileView, IsProfile}
use Rattle.scr_term.specs.Operations.States.{spot_after}
use Rattle.scr_plan.proofs.JoinLaws.{differs_same, joins_same, known_row, painted, painted_adds, parts_painted, passed, row_is_brief}
use Rattle.scr_plan.proofs.JoinedLaws.{IsErasable, erasable, joined_assoc, row_erased, row_unerased}
use Rattle.scr_plan.proofs.JoiningLaws.{counts_less, goes_on, nothing_goes, put_goes}
use Rattle.scr_plan.proofs.PartLaws.{is_among, none_in_places, none_in_part, pen_refl, part_joined, row_in_part, row_known, row_more, same_place}
use Rattle.scr_plan.proofs.PlaceLaws.{cell_of, seen_had}
use Rattle.scr_plan.proofs.PlainLaws.{among_differing}
use Rattle.scr_plan.specs.Code.Joinings.{Continues, CountsAtMost, ShowsRow, counted_up, joined_at}
use Rattle.scr_plan.specs.Code.Painters.{is_that_pen, painter_begins, painter_look, painter_of, painter_writes, part_places, pen_before, row_differs, row_paints}
use Rattle.scr_memory.specs.Memories.{MemoryView, is_known}
use Rattle.scr_plan.specs.Repaints.{IsSizeOf, ShowsOutside, begins_place, brief_place, differing, differs, erased_column, is_none_left, joins_left}
use Rattle.scr_plan.specs.Scratch.{goes, look_at, places, row_places}
use Rattle.scr_plan.specs.declared.drafts.Draft.{Draft}
use Rattle.scr_plan.specs.declared.painting.Painter.{Painter}

-- ---- after a place that was painted

pub unless_there : (profile : ProfileView) (painter : Painter) (old : Draft) (left : Option PenView) (place : ℕ × ℕ) (pen : PenView) → is_that_pen left pen ≡ true
    → Continues profile old old (if is_that_pen left pen then [] else painter_begins painter place pen)
unless_there profile painter old left place pen that = grind (arith, nothing_goes)

-- ---- a place of a row

-- a cell of a picture holds a character
pub character_is : (picture : PictureView) → IsPicture picture → (row column : ℕ) → IsCharacter (grid_at blank_cell picture.lines row column).character
character_is picture k row column = (cell_of picture.lines row column (recursion_from_All (All IsCell) picture.lines k.cells)).character

-- places that are passed add nothing
pub passed_goes : (profile : ProfileView) (painter : Painter) (picture : PictureView) (before : Option (List LookView)) (row column next : ℕ) (old : Draft) → column < next
    → ((c : ℕ) → column ≤ c → c < next → row_differs painter picture before (row, c) ≡ false)
    → Continues profile old old (flat_map (row_paints painter picture before) (filter (row_differs painter picture before) (part_places column (next - column) row)))
passed_goes profile painter picture before row column next old more same = grind (arith, passed, nothing_goes)

-- a place that is painted
pub painted_goes : (profile : ProfileView) (painter : Painter) (picture : PictureView) (before : Option (List LookView)) (row column : ℕ) (old new : Draft) (left : Option PenView) (look : LookView)
    → row_differs painter picture before (row, column) ≡ true → left ≡ pen_before painter picture before row column → look ≡ painter_look painter picture (row, column)
    → Continues profile old new (painter_writes painter left (row, column) look)
    → Continues profile old new (flat_map (row_paints painter picture before) (filter (row_differs painter picture before) (part_places column (column + 1 - column) row)))
painted_goes profile painter picture before row column old new left look differs is_left is_look goes = grind (arith, painted_adds)

-- ---- a part of a row

pub part_goes : (profile : ProfileView) (painter : Painter) (picture : PictureView) (before : Option (List LookView)) (row from column next : ℕ) (old mid new : Draft) → from ≤ column → column < next
    → Continues profile old mid (flat_map (row_paints painter picture before) (filter (row_differs painter picture before) (part_places from (column - from) row)))
    → Continues profile mid new (flat_map (row_paints painter picture before) (filter (row_differs painter picture before) (part_places column (next - column) row)))
    → Continues profile old new (flat_map (row_paints painter picture before) (filter (row_differs painter picture before) (part_places from (next - from) row)))
part_goes profile painter picture before row from column next old mid new low more first second =
    let f = row_paints painter picture before in
    let d = row_differs painter picture before in
    subst (Continues profile old new)
    (parts_painted painter picture before row from column next [] (flat_map f (filter d (part_places from (column - from) row))) (flat_map f (filter d (part_places from (column - from) row)) ++ flat_map f (filter d (part_places column (next - column) row))) low more refl refl)
    (goes_on profile old mid new _ _ first second)

-- ---- a row

-- what differs in a row does so in a part of it
part_whole : (d : ℕ × ℕ → Bool) (columns r from end : ℕ) → from ≤ end → end ≤ columns → ((c : ℕ) → (c < from) ⊎ (end ≤ c) → c < columns → d (r, c) ≡ false) → filter d (part_places 0 columns r) ≡ filter d (part_places from (end - from) r)
part_whole d columns r from end order wide outside =
    let whole : columns ≡ from + (end - from) + (columns - end) = omega (arith, order, wide) in
    ap (λ n. filter d (part_places 0 n r)) whole
    ∙ row_in_part d from (end - from) (columns - end) r (λ c below. outside c (inl below) (omega (arith, below, order, wide))) (λ c low few. outside c (inr (omega (arith, low, order))) (omega (arith, few, order, wide)))

part_before : (d : ℕ × ℕ → Bool) (r from e : ℕ) → from ≤ e → ((c : ℕ) → c < from → d (r, c) ≡ false) → filter d (part_places 0 e r) ≡ filter d (part_places from (e - from) r)
part_before d r from e order none =
    let whole : e ≡ from + (e - from) = omega arith in
    let first : filter d (part_places 0 from r) ≡ [] = none_in_part d 0 from r (λ c low high. none c (omega arith)) in
    let here : 0 + from ≡ from = omega arith in
    ap (λ n. filter d (part_places 0 n r)) whole ∙ rw (part_joined 0 from (e - from) r, filter-append, first, here)

pub row_whole : (profile : ProfileView) (picture : PictureView) (row : ℕ) (before : Option (List LookView)) (painter : Painter) → painter ≡ painter_of profile → (from end : ℕ) → from ≤ end → end ≤ picture.columns
    → ((c : ℕ) → (c < from) ⊎ (end ≤ c) → c < picture.columns → row_differs painter picture before (row, c) ≡ false)
    → (old new : Draft) → Continues profile old new (flat_map (row_paints painter picture before) (filter (row_differs painter picture before) (part_places from (end - from) row)))
    → (memory : MemoryView) → ShowsRow memory row before → None ≡ erased_column profile picture memory row
    → Continues profile old new (flat_map (joined_at profile picture memory) (filter (differs profile picture memory) (row_places picture.columns row)))
row_whole profile picture row before painter who from end order wide outside old new goes memory shows none =
    let d = differs profile picture memory in
    let same : (c : ℕ) → (c < from) ⊎ (end ≤ c) → c < picture.columns → d (row, c) ≡ false =
    λ c out w. sym (differs_same profile picture memory row before shows c) ∙ ap (λ p. row_differs p picture before (row, c)) (sym who) ∙ outside c out w in
    subst (Continues profile old new)
    (row_is_brief profile picture memory row before painter who shows from (end - from)
    ∙ ap (flat_map (brief_place profile picture memory)) (sym (part_whole d picture.columns row from end order wide same))
    ∙ sym (row_unerased profile picture memory row (sym none))) goes

pub row_with_rest : (profile : ProfileView) (picture : PictureView) (row : ℕ) (before : Option (List LookView)) (painter : Painter) → painter ≡ painter_of profile → (from e : ℕ) (left : Option PenView) → from ≤ e → e < picture.columns
    → ((c : ℕ) → c < from → c < picture.columns → row_differs painter picture before (row, c) ≡ false) → left ≡ pen_before painter picture before row e → painter_look painter picture (row, e) ≡ blank
    → (old mid new : Draft) → Continues profile old mid (flat_map (row_paints painter picture before) (filter (row_differs painter picture before) (part_places from (e - from) row)))
    → Continues profile mid new ((if is_that_pen left blank.pen then [] else painter_begins painter (row, e) blank.pen) ++ EraseLine ∷ [])
    → (memory : MemoryView) → ShowsRow memory row before → Some e ≡ erased_column profile picture memory row
    → Continues profile old new (flat_map (joined_at profile picture memory) (filter (differs profile picture memory) (row_places picture.columns row)))
row_with_rest profile picture row before painter who from e left order wide outside is_left is_blank old mid new first last memory shows at =
    let d = differs profile picture memory in
    let can : IsErasable profile picture memory row e = erasable profile picture memory row e (sym at) in
    let same : (c : ℕ) → c < from → d (row, c) ≡ false = λ c below. sym (differs_same profile picture memory row before shows c) ∙ ap (λ p. row_differs p picture before (row, c)) (sym who) ∙ outside c below (omega (arith, below, order, wide)) in
    let look : look_at profile picture (row, e) ≡ blank = ap (λ p. painter_look p picture (row, e)) (sym who) ∙ is_blank in
    let joins : is_that_pen left blank.pen ≡ joins_left profile picture memory row e =
    (λ i. is_that_pen ((is_left ∙ ap (λ p. pen_before p picture before row e) who) i) (sym look i).pen) ∙ joins_same profile picture memory row before shows e in
    let begun : (if is_that_pen left blank.pen then [] else painter_begins painter (row, e) blank.pen) ≡ begins_place profile picture memory row e =
    (λ i. if joins i then [] else painter_begins (who i) (row, e) (sym look i).pen) in
    let prefix : flat_map (row_paints painter picture before) (filter (row_differs painter picture before) (part_places from (e - from) row)) ≡ flat_map (brief_place profile picture memory) (filter d (part_places 0 e row)) =
    row_is_brief profile picture memory row before painter who shows from (e - from) ∙ ap (flat_map (brief_place profile picture memory)) (sym (part_before d row from e order same)) in
    subst (Continues profile old new)
    ((λ i. prefix i ++ (begun i ++ EraseLine ∷ [])) ∙ sym (row_erased profile picture memory row e (sym at) can.inside can.differs_there))
    (goes_on profile old mid new _ _ first last)

-- ---- rows of what is remembered

pub shows_row : (memory : MemoryView) (picture : PictureView) → IsSizeOf picture memory → is_known memory ≡ true → (r : ℕ) (looks : List LookView) → r < picture.rows → looks ≡ grid_row memory.state.grid r → ShowsRow memory r (Some looks)
shows_row memory picture size known r looks high are = known_row memory r looks (row_known memory known r (omega (arith, high, size.known_rows))) are

-- ---- all rows

-- one row more
pub rows_go : (profile : ProfileView) (picture : PictureView) (memory : MemoryView) (row columns : ℕ) (old mid new : Draft)
    → Continues profile old mid (flat_map (joined_at profile picture memory) (filter (differs profile picture memory) (places row columns)))
    → Continues profile mid new (flat_map (joined_at profile picture memory) (filter (differs profile picture memory) (row_places columns row)))
    → Continues profile old new (flat_map (joined_at profile picture memory) (filter (differs profile picture memory) (places (row + 1) columns)))
rows_go profile picture memory row columns old mid new first second = search (arith, row_more, goes_on)

pub nothing_of : (profile : ProfileView) (picture : PictureView) (memory : MemoryView) (n columns : ℕ) (old : Draft) → filter (differs profile picture memory) (places n columns) ≡ []
    → Continues profile old old (flat_map (joined_at profile picture memory) (filter (differs profile picture memory) (places n columns)))
nothing_of profile picture memory n columns old none = subst (Continues profile old old) (sym (ap (flat_map (joined_at profile picture memory)) none)) (nothing_goes profile old)

pub all_of : (profile : ProfileView) (picture : PictureView) (memory : MemoryView) (rows n columns : ℕ) (old new : Draft) → filter (differs profile picture memory) (places rows columns) ≡ filter (differs profile picture memory) (places n columns)
    → Continues profile old new (flat_map (joined_at profile picture memory) (filter (differs profile picture memory) (places n columns)))
    → Continues profile old new (flat_map (joined_at profile picture memory) (filter (differs profile picture memory) (places rows columns)))
all_of profile picture memory rows n columns old new same goes = subst (Continues profile old new) (sym (ap (flat_map (joined_at profile picture memory)) same)) goes

-- the rows and what ends a repaint
pub ended : (profile : ProfileView) (old mid new : Draft) (rows resets cursor : List Op) → Continues profile old mid rows → Continues profile mid new (resets ++ cursor) → Continues profile old new (rows ++ resets ++ cursor)
ended profile old mid new rows resets cursor first last = subst (Continues profile old new) (sym (append_assoc rows resets cursor)) (goes_on profile old mid new rows (resets ++ cursor) first last)

-- ---- whether some place differs

-- a row without such columns
pub unlooked_same : (ranges : VirtualView → ℕ → Option (ℕ × ℕ)) (profile : ProfileView) (memory : MemoryView) (virtual : VirtualView) → ShowsOutside ranges profile memory virtual → IsSizeOf virtual.picture memory → is_known memory ≡ true
    → (r c : ℕ) → r < virtual.picture.rows → c < virtual.picture.columns → ranges virtual r ≡ None → differs profile virtual.picture memory (r, c) ≡ false
unlooked_same ranges profile memory virtual same size known r c high wide none = same_place ranges profile memory virtual same size known r c high wide (ap (λ range. in_range range c) none)

pub some_left : (profile : ProfileView) (picture : PictureView) (memory : MemoryView) (r c : ℕ) → r < picture.rows → c < picture.columns → differs profile picture memory (r, c) ≡ true → is_none_left (differing profile picture memory) ≡ false
some_left profile picture memory r c high wide here = by (differing profile picture memory) (among_differing profile picture memory r c high wide ∙ here)
  where
    by : (list : List (ℕ × ℕ)) → is_among r c list ≡ true → is_none_left list ≡ false
    by list among = grind arith

pub none_left_at : (profile : ProfileView) (picture : PictureView) (memory : MemoryView) → ((r c : ℕ) → r < picture.rows → c < picture.columns → differs profile picture memory (r, c) ≡ false) → is_none_left (differing profile picture memory) ≡ true
none_left_at profile picture memory same =
    let d = differs profile picture memory in
    ap is_none_left (none_in_places d picture.rows picture.columns (λ r below. none_in_part d 0 picture.columns r (λ c low wide. same r c below (omega arith))))

-- whether anything differs
pub left_or_not : (profile : ProfileView) (picture : PictureView) (memory : MemoryView) (some : Bool) → (some ≡ false → (r c : ℕ) → r < picture.rows → c < picture.columns → differs profile picture memory (r, c) ≡ false)
    → (some ≡ true → (r : ℕ) × (c : ℕ) × (r < picture.rows) × (c < picture.columns) × (differs profile picture memory (r, c) ≡ true)) → is_none_left (differing profile picture memory) ≡ not some
left_or_not profile picture memory some none one = grind (arith, nat_tests, some_left, none_left_at)

-- ---- answers

pub on_ok : {T E : Type 0} (r : Result T E) (P Q : Type 0) → (P → Q) → OnOk r P → OnOk r Q
on_ok r P Q f h = grind arith

-- ---- places that differ with one pen, counted

-- the characters of a row from one column up to another are counted
abbrev pub behind_each : ProfileView → PictureView → ℕ → ℕ → ℕ → Draft → Draft
behind_each profile picture row column next old = record old { bytes = counted_up (old.bytes + run_bytes profile picture row column (next - column)); spot = spot_after profile.columns row (next - 1) }

one_counted : RunLaws → ProfilesHave → (profile : ProfileView) → IsProfile profile → (painter : Painter) → painter ≡ painter_of profile → (picture : PictureView) → IsPicture picture → (before : Option (List LookView)) (row column : ℕ) → row_differs painter picture before (row, column) ≡ true
    → (old mid new : Draft) (left : Option PenView) → left ≡ pen_before painter picture before row column
    → Continues profile old mid (if is_that_pen left (painter_look painter picture (row, column)).pen then [] else painter_begins painter (row, column) (painter_look painter picture (row, column)).pen)
    → mid.spot ≡ At row column → mid.keeps ≡ false → new.ops.items ≡ mid.ops.items → new.bytes ≡ counted_up (mid.bytes + place_bytes profile picture row column) → new.keeps ≡ mid.keeps → new.spot ≡ spot_after profile.columns row column → new.pen ≡ mid.pen
    → Continues profile old new (flat_map (row_paints painter picture before) (filter (row_differs painter picture before) (part_places column (column + 1 - column) row)))
one_counted laws have profile p painter who picture k before row column unlike old mid new left is_left begun here counts same paid keeps behind pen =
    let look : LookView = painter_look painter picture (row, column) in
    let same_look : look ≡ look_at profile picture (row, column) = ap (λ painter. painter_look painter picture (row, column)) who in
    let had : has profile (put_of look.character) ≡ true = ap (λ look. has profile (put_of look.character)) same_look ∙ seen_had profile (have profile p) _ (character_is picture k row column) in
    painted_goes profile painter picture before row column old new left look unlike is_left refl
    (goes_on profile old mid new _ _ begun
    (put_goes laws profile p (have profile p) look.character had mid new row column here (λ kept. (cc)) (λ dropped. same) (paid ∙ ap (λ look. counted_up (mid.bytes + length (bytes_of profile (put_of look.character)))) (sym same_look)) keeps behind pen))

Counts : ProfileView → Painter → PictureView → Option (List LookView) → ℕ → ℕ → ℕ → Draft → Draft → Type 0
Counts profile painter picture before row column next old mid =
    Continues profile old (behind_each profile picture row column next mid) (flat_map (row_paints painter picture before) (filter (row_differs painter picture before) (part_places column (next - column) row)))

each_goes : RunLaws → ProfilesHave → (profile : ProfileView) → IsProfile profile → (painter : Painter) → painter ≡ painter_of profile → (picture : PictureView) → IsPicture picture → profile.columns ≡ picture.columns → (before : Option (List LookView)) (row column : ℕ) (old mid : Draft) (left : Option PenView)
    → left ≡ pen_before painter picture before row column → mid.keeps ≡ false → mid.spot ≡ At row column
    → Continues profile old mid (if is_that_pen left (painter_look painter picture (row, column)).pen then [] else painter_begins painter (row, column) (painter_look painter picture (row, column)).pen)
    → (n : ℕ) → column + suc n ≤ picture.columns → ((c : ℕ) → column ≤ c → c < column + suc n → row_differs painter picture before (row, c) ≡ true)
    → ((c : ℕ) → column ≤ c → c < column + suc n → (painter_look painter picture (row, c)).pen ≡ (painter_look painter picture (row, column)).pen)
    → Counts profile painter picture before row column (column + suc n) old mid
unfolding Counts
each_goes laws have profile p painter who picture k columns before row column old mid left is_left counts here begun zero wide unlike alike =
    one_counted laws have profile p painter who picture k before row column (unlike column (omega arith) (omega arith)) old mid (behind_each profile picture row column (column + 1) mid) left is_left begun here counts refl
    (ap (λ n. counted_up (mid.bytes + n)) (one_bytes profile picture row column)) refl (ap (spot_after profile.columns row) (omega arith)) refl
each_goes laws have profile p painter who picture k columns before row column old mid left is_left counts here begun (suc n) wide unlike alike =
    let at : ℕ = column + suc n in
    let now : Draft = behind_each profile picture row column at mid in
    let last : at ≡ column + n + 1 = omega arith in
    let pen : PenView = (painter_look painter picture (row, at)).pen in
    let before_pen : PenView = (painter_look painter picture (row, column + n)).pen in
    let same : before_pen ≡ pen = alike (column + n) (omega arith) (omega arith) ∙ sym (alike at (omega arith) (omega arith)) in
    let was : pen_before painter picture before row at ≡ Some before_pen = ap (pen_before painter picture before row) last ∙ painted painter picture before row (column + n) (unlike (column + n) (omega arith) (omega arith)) in
    let that : is_that_pen (pen_before painter picture before row at) pen ≡ true = ap (λ left. is_that_pen left pen) was ∙ ap (λ p. pen_eq p pen) same ∙ pen_refl pen in
    let there : now.spot ≡ At row at =
    ap (λ b. if b then At row (at - 1 + 1) else Margin row) inside ∙ ap (At row) (omega arith) in
    let next : at + 1 ≡ column + suc (suc n) = omega arith in
    subst (λ next. Counts profile painter picture before row column next old mid) next
    (part_goes profile painter picture before row column at (at + 1) old now (behind_each profile picture row column (at + 1) mid) (omega arith) (omega arith)
    (each_goes laws have profile p painter who picture k columns before row column old mid left is_left counts here begun n (omega (arith, wide)) (λ c low high. unlike c low (omega (arith, high))) (λ c low high. alike c low (omega (arith, high))))
    (one_counted laws have profile p painter who picture k before row at (unlike at (omega arith) (omega arith)) now now (behind_each profile picture row column (at + 1) mid) (pen_before painter picture before row at) refl
    (unless_there profile painter now (pen_before painter picture before row at) (row, at) pen that) there counts refl (omega (arith, more_bytes profile picture row column at (omega arith))) refl (ap (spot_after profile.columns row) (omega arith)) refl))
  where
    inside : nat_lt (column + suc n - 1 + 1) profile.columns ≡ true
    inside = grind (arith, wide, columns)

-- places from one column up to another
pub unlike_goes : RunLaws → ProfilesHave → (profile : ProfileView) → IsProfile profile → (painter : Painter) → painter ≡ painter_of profile → (picture : PictureView) → IsPicture picture → profile.columns ≡ picture.columns → (before : Option (List LookView)) (row column next : ℕ) → column < next → next ≤ picture.columns
    → (old mid : Draft) (left : Option PenView) (pen : PenView) → left ≡ pen_before painter picture before row column → pen ≡ (painter_look painter picture (row, column)).pen → old.keeps ≡ false → mid.spot ≡ At row column
    → Continues profile old mid (if is_that_pen left pen then [] else painter_begins painter (row, column) pen)
    → ((c : ℕ) → column ≤ c → c < next → row_differs painter picture before (row, c) ≡ true)
    → ((c : ℕ) → column ≤ c → c < next → (painter_look painter picture (row, c)).pen ≡ (painter_look painter picture (row, column)).pen)
    → Continues profile old (behind_each profile picture row column next mid) (flat_map (row_paints painter picture before) (filter (row_differs painter picture before) (part_places column (next - column) row)))
unfolding Counts
unlike_goes laws have profile p painter who picture k columns before row column next more wide old mid left pen is_left is_pen counts here begun unlike alike stores first start all joining =
    let n : ℕ = next - column - 1 in
    let whole : column + suc n ≡ next = omega (arith, more) in
    let still : mid.keeps ≡ false = (begun stores first start all joining).stored ∙ sym joining.stored ∙ counts in
    subst (λ next. Counts profile painter picture before row column next old mid) whole
    (each_goes laws have profile p painter who picture k columns before row column old mid left is_left still here
    (subst (λ pen. Continues profile old mid (if is_that_pen left pen then [] else painter_begins painter (row, column) pen)) is_pen begun) n (omega (arith, whole, wide))
    (λ c low high. unlike c low (omega (arith, high, whole))) (λ c low high. alike c low (omega (arith, high, whole)))) stores first start all joining

-- the pen of the last of them
pub left_by : (painter : Painter) (picture : PictureView) (before : Option (List LookView)) (row column next : ℕ) → column < next → (pen : PenView) → pen ≡ (painter_look painter picture (row, column)).pen
    → ((c : ℕ) → column ≤ c → c < next → row_differs painter picture before (row, c) ≡ true)
    → ((c : ℕ) → column ≤ c → c < next → (painter_look painter picture (row, c)).pen ≡ (painter_look painter picture (row, column)).pen) → Some pen ≡ pen_before painter picture before row next
left_by painter picture before row column next more pen is_pen unlike alike = grind arith

-- where the cursor is after them
pub behind_by : (columns row column next : ℕ) → column < next → next < columns → spot_after columns row (next - 1) ≡ At row next
behind_by columns row column next more wide = grind arith

-- ---- rows that were not counted

-- what the rows from one on add, after those before it
pub rows_behind : (f : ℕ × ℕ → List Op) (d : ℕ × ℕ → Bool) (row columns k : ℕ) → (rest : List Op) × (flat_map f (filter d (places (row + k) columns)) ≡ flat_map f (filter d (places row columns)) ++ rest)
rows_behind f d row columns zero =
    let none : row + 0 ≡ row = omega arith in
    ([], rw (none, append-nil))
rows_behind f d row columns (suc k) =
    let before = rows_behind f d row columns k in
    let more : row + suc k ≡ row + k + 1 = omega arith in
    let last : List Op = flat_map f (filter d (row_places columns (row + k))) in
    (before.0 ++ last, rw (more, row_more f d (row + k) columns, before.1, append_assoc))

pub rows_counted : RunLaws → (profile : ProfileView) (picture : PictureView) (memory : MemoryView) (row : ℕ) → row ≤ picture.rows → (old new : Draft) (resets cursor : List Op)
    → Continues profile old new (flat_map (joined_at profile picture memory) (filter (differs profile picture memory) (places row picture.columns)))
    → CountsAtMost profile old new (flat_map (joined_at profile picture memory) (filter (differs profile picture memory) (places picture.rows picture.columns)) ++ resets ++ cursor)
rows_counted laws profile picture memory row few old new resets cursor goes =
    let f = joined_at profile picture memory in
    let d = differs profile picture memory in
    let behind = rows_behind f d row picture.columns (picture.rows - row) in
    let whole : row + (picture.rows - row) ≡ picture.rows = omega arith in
    let is : flat_map f (filter d (places picture.rows picture.columns)) ≡ flat_map f (filter d (places row picture.columns)) ++ behind.0 = ap (λ n. flat_map f (filter d (places n picture.columns))) (sym whole) ∙ behind.1 in
    counts_less laws profile old new (flat_map f (filter d (places row picture.columns))) (behind.0 ++ resets ++ cursor) _ goes (rw is (joined_assoc _ behind.0 resets cursor))

pub all_counted : RunLaws → (profile : ProfileView) (old new : Draft) (more : List Op) → Continues profile old new more → CountsAtMost profile old new more
all_counted laws profile old new more goes = counts_less laws profile old new more [] more goes (sym (append-nil more))
