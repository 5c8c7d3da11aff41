-- Which rows may have a range.
use Rattle.std.proofs.Common.{◌≡◌, ◌≢◌, ◌⊎◌, inl, inr, ℕ, Bool, true, false, ◌-◌, ◌<◌, ◌≤◌, ◌&&◌, sym, ◌∙◌, ap, refl, arith, subst, List, length, set, get_or, cond, leb, ltb, replicate, None, Some}
use Rattle.std.specs.Prelude.{IfSome, Vec, max, min}
use Rattle.std.specs.Vec.{with_items}
use Rattle.std.proofs.lemmas.Bool.Decides.{nat_tests}
use Rattle.std.proofs.lemmas.List.{get_or-replicate, get_or-set_other, get_or_past, length-replicate, length-set, with_items_is}
use Rattle.scr_virtual.specs.Code.Rows.{HoldRanges, with_rows}
use Rattle.scr_virtual.specs.Ranges.{AreNoneOutside, IsRange, in_range, joined, ranges_with}
use Rattle.scr_virtual.proofs.RangeLaws.{Range, as_many, emptied, joined_is_range, range_of}

less_or_not : (a b : ℕ) → (a < b) ⊎ (b ≤ a)
less_or_not a b = grind arith

-- what is outside two ranges together is outside each
was_outside : (first last r : ℕ) (rows : Range) → in_range (joined (Some (first, last)) rows) r ≡ false → in_range rows r ≡ false
was_outside first last r None out = refl
was_outside first last r (Some rows) out = narrower first last rows.0 rows.1 r out
  where
    narrower : (first last a b r : ℕ) → (leb (min first a) r && leb r (max last b)) ≡ false → (leb a r && leb r b) ≡ false
    narrower first last a b r out = grind (arith, nat_tests)

outside_more : (first last r : ℕ) (rows : Range) → in_range (joined (Some (first, last)) rows) r ≡ false → (leb first r && leb r last) ≡ false
outside_more first last r None out = out
outside_more first last r (Some rows) out = narrower first last rows.0 rows.1 r out
  where
    narrower : (first last a b r : ℕ) → (leb (min first a) r && leb r (max last b)) ≡ false → (leb first r && leb r last) ≡ false
    narrower first last a b r out = grind (arith, nat_tests)

held_of : (rows new : Range) (ranges : List Range) → new ≡ rows → HoldRanges rows ranges → HoldRanges new ranges
held_of rows new ranges is h =
    let P : Range → Type 0 = λ r. HoldRanges r ranges in
    subst P (sym is) h

-- a row gets a range
pub row_held : (rows new : Range) (ranges : List Range) (row : ℕ) (range : Range) → HoldRanges rows ranges → row < length ranges → new ≡ joined (Some (row, row)) rows → HoldRanges new (set ranges row range)
row_held rows new ranges row range h row_in is =
    let P : ℕ → Type 0 = λ n. IfSome (joined (Some (row, row)) rows) (IsRange n) in
    held_of (joined (Some (row, row)) rows) new (set ranges row range) is (record {
      few = omega (arith, h.few, length-set ranges row range);
      inside = subst P (sym (length-set ranges row range)) (joined_is_range (length ranges) (Some (row, row)) rows (omega arith, row_in) h.inside);
      others = λ r out. get_or-set_other ranges row r range None (another row r (outside_more row row r rows out)) ∙ h.others r (was_outside row row r rows out);
    })
  where
    another : (row r : ℕ) → (leb row r && leb r row) ≡ false → r ≢ row
    another row r out = grind (arith, nat_tests)

-- ranges that stay none
still_none : (rows : ℕ → Bool) (f : ℕ → Range → Range) (ranges : List Range) (r : ℕ) → rows r ≡ false → get_or ranges r None ≡ None → get_or (ranges_with rows f ranges) r None ≡ None
still_none rows f ranges r out was = elim (less_or_not r (length ranges)) [
  | inl h ↦ range_of rows f ranges r None h ∙ ap (λ t. cond t (f r (get_or ranges r None)) (get_or ranges r None)) out ∙ was
  | inr h ↦ get_or_past (ranges_with rows f ranges) r None (omega (arith, as_many rows f ranges))
]

-- rows from one up to another get a range
rows_held : (rows new : Range) (first end : ℕ) (f : ℕ → Range → Range) (ranges : List Range) → HoldRanges rows ranges → end ≤ length ranges → new ≡ with_rows first end rows → HoldRanges new (ranges_with (λ r. leb first r && ltb r end) f ranges)
rows_held rows new first end f ranges h end_in is = held_of (with_rows first end rows) new (ranges_with (λ r. leb first r && ltb r end) f ranges) is (either (ltb first end) refl)
  where
    some : (first end : ℕ) → ltb first end ≡ true → first ≤ end - 1
    some first end e = grind (arith, nat_tests)

    last : (first end n : ℕ) → ltb first end ≡ true → end ≤ n → end - 1 < n
    last first end n e l = grind (arith, nat_tests)

    not_put : (first end r : ℕ) → (leb first r && leb r (end - 1)) ≡ false → (leb first r && ltb r end) ≡ false
    not_put first end r out = grind (arith, nat_tests)

    none_put : (first end r : ℕ) → ltb first end ≡ false → (leb first r && ltb r end) ≡ false
    none_put first end r e = grind (arith, nat_tests)

    either : (t : Bool) → ltb first end ≡ t → HoldRanges (cond t (joined (Some (first, end - 1)) rows) rows) (ranges_with (λ r. leb first r && ltb r end) f ranges)
    either true e =
        let P : ℕ → Type 0 = λ n. IfSome (joined (Some (first, end - 1)) rows) (IsRange n) in
        record {
          few = omega (arith, h.few, as_many (λ r. leb first r && ltb r end) f ranges);
          inside = subst P (sym (as_many (λ r. leb first r && ltb r end) f ranges)) (joined_is_range (length ranges) (Some (first, end - 1)) rows (some first end e, last first end (length ranges) e end_in) h.inside);
          others = λ r out. still_none (λ r. leb first r && ltb r end) f ranges r (not_put first end r (outside_more first (end - 1) r rows out)) (h.others r (was_outside first (end - 1) r rows out));
        }
    either false e =
        let P : ℕ → Type 0 = λ n. IfSome rows (IsRange n) in
        record {
          few = omega (arith, h.few, as_many (λ r. leb first r && ltb r end) f ranges);
          inside = subst P (sym (as_many (λ r. leb first r && ltb r end) f ranges)) h.inside;
          others = λ r out. still_none (λ r. leb first r && ltb r end) f ranges r (none_put first end r e) (h.others r out);
        }

-- ranges that were lent whole, and filled from one row up to another
pub lent_filled : {Z : Type 0} (columns : Vec Range Z) (lent new : List Range) (first end : ℕ) (range : Range) → lent ≡ columns.items → new ≡ ranges_with (λ r. leb first r && ltb r end) (λ _ _. range) lent
    → (with_items columns new).items ≡ ranges_with (λ r. leb first r && ltb r end) (λ _ _. range) columns.items
lent_filled columns lent new first end range lent_is new_is =
    let now : new ≡ ranges_with (λ r. leb first r && ltb r end) (λ _ _. range) columns.items = new_is ∙ ap (ranges_with (λ r. leb first r && ltb r end) (λ _ _. range)) lent_is in
    let kept : length new ≡ columns.len = ap length now ∙ as_many (λ r. leb first r && ltb r end) (λ _ _. range) columns.items ∙ sym columns.ok.0 in
    with_items_is columns new kept ∙ now

pub filled_held : {Z : Type 0} (columns : Vec Range Z) (lent new : List Range) (rows held : Range) (first end : ℕ) (range : Range) → HoldRanges rows columns.items → end ≤ length columns.items → lent ≡ columns.items
    → new ≡ ranges_with (λ r. leb first r && ltb r end) (λ _ _. range) lent → held ≡ with_rows first end rows → HoldRanges held (with_items columns new).items
filled_held columns lent new rows held first end range h end_in lent_is new_is held_is =
    let P : List Range → Type 0 = λ xs. HoldRanges held xs in
    subst P (sym (lent_filled columns lent new first end range lent_is new_is)) (rows_held rows held first end (λ _ _. range) columns.items h end_in held_is)

-- no range among none
none_held : (count : ℕ) → count ≤ 500 → HoldRanges None (replicate count None)
none_held count few = record { few = omega (arith, few, length-replicate count no_range); inside = tt; others = λ r out. none r }
  where
    no_range : Range
    no_range = None

    none : (r : ℕ) → get_or (replicate count no_range) r no_range ≡ no_range
    none r = elim (less_or_not r count) [
      | inl h ↦ get_or-replicate count r no_range no_range h
      | inr h ↦ get_or_past (replicate count no_range) r no_range (omega (arith, length-replicate count no_range))
    ]

-- the rows that may have a range are emptied
pub lent_emptied : {Z : Type 0} (columns : Vec Range Z) (lent new : List Range) (first end : ℕ) → AreNoneOutside columns.items first end → lent ≡ columns.items → new ≡ ranges_with (λ r. leb first r && ltb r end) (λ _ _. None) lent
    → (with_items columns new).items ≡ replicate (length columns.items) None
lent_emptied columns lent new first end others lent_is new_is = lent_filled columns lent new first end None lent_is new_is ∙ emptied first end columns.items others

pub emptied_held : {Z : Type 0} (columns : Vec Range Z) (lent new : List Range) (first end : ℕ) → length columns.items ≤ 500 → AreNoneOutside columns.items first end → lent ≡ columns.items → new ≡ ranges_with (λ r. leb first r && ltb r end) (λ _ _. None) lent
    → HoldRanges None (with_items columns new).items
emptied_held columns lent new first end few others lent_is new_is =
    let P : List Range → Type 0 = λ xs. HoldRanges None xs in
    subst P (sym (lent_emptied columns lent new first end others lent_is new_is)) (none_held (length columns.items) few)
