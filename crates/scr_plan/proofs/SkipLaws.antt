-- Places that surely show what is seen of their cells.
use Rattle.std.proofs.Common.{◌≡◌, ◌≢◌, ℕ, ◌+◌, ◌-◌, ◌<◌, ◌≤◌, sym, ◌∙◌, ap, arith, List, Option, get_or, take, drop}
use Rattle.std.proofs.lemmas.List.{get_or-drop, get_or-take}
use Rattle.scr_cells.specs.CellViews.{CellView, blank_cell}
use Rattle.scr_cells.specs.LookViews.{LookView}
use Rattle.scr_cells.specs.Showing.{HasRendition, IsSeenAt, IsUnseenAt, shown_in}
use Rattle.scr_plan.specs.declared.painting.Painter.{Painter}
use Rattle.scr_plan.specs.Code.Painters.{painter_sees}

-- an element of a part of a list
part_at : {A : Type 0} (xs : List A) (from n i c : ℕ) (d : A) → i < n → from + i ≡ c → get_or (take n (drop from xs)) i d ≡ get_or xs c d
part_at xs from n i c d near there = get_or-take n (drop from xs) i d near ∙ get_or-drop from xs i d ∙ ap (λ k. get_or xs k d) there

-- what a part of a row shows
in_part : (part before : Option (List LookView)) (from n i c : ℕ) → ((i : ℕ) → i < n → shown_in part i ≡ shown_in before (from + i)) → i < n → from + i ≡ c → shown_in part i ≡ shown_in before c
in_part part before from n i c are near there = are i near ∙ ap (shown_in before) there

pub part_shown : (painter : Painter) (pairs : List (Option ℕ × Option ℕ)) (from end count : ℕ) (part before : Option (List LookView)) (cells : List CellView) → from ≤ end → count ≤ end - from
    → ((i : ℕ) → i < end - from → shown_in part i ≡ shown_in before (from + i))
    → ((i : ℕ) → i < count → IsSeenAt painter.charset painter.shown.0 part (take (end - from) (drop from cells)) i)
    → (c : ℕ) → from ≤ c → c < from + count → shown_in before c ≡ painter_sees painter pairs (get_or cells c blank_cell)
part_shown painter pairs from end count part before cells order few are same c low high =
    let there : from + (c - from) ≡ c = omega (arith, low) in
    let near : c - from < count = omega (arith, low, high) in
    let inside : c - from < end - from = omega (arith, near, few) in
    sym (in_part part before from (end - from) (c - from) c are inside there) ∙ same (c - from) near painter.colours pairs
    ∙ ap (painter_sees painter pairs) (part_at cells from (end - from) (c - from) c blank_cell inside there)

-- the same of places that are not shown, and of cells that are alike
pub part_unlike : (painter : Painter) (pairs : List (Option ℕ × Option ℕ)) (from end count : ℕ) (part before : Option (List LookView)) (cells : List CellView) → from ≤ end → count ≤ end - from
    → ((i : ℕ) → i < end - from → shown_in part i ≡ shown_in before (from + i))
    → ((i : ℕ) → i < count → IsUnseenAt painter.charset painter.shown.0 part (take (end - from) (drop from cells)) i)
    → (c : ℕ) → from ≤ c → c < from + count → shown_in before c ≢ painter_sees painter pairs (get_or cells c blank_cell)
part_unlike painter pairs from end count part before cells order few are unlike c low high same =
    let there : from + (c - from) ≡ c = omega (arith, low) in
    let near : c - from < count = omega (arith, low, high) in
    let inside : c - from < end - from = omega (arith, near, few) in
    unlike (c - from) near painter.colours pairs
    (in_part part before from (end - from) (c - from) c are inside there ∙ same ∙ ap (painter_sees painter pairs) (sym (part_at cells from (end - from) (c - from) c blank_cell inside there)))

pub part_alike : (from end count : ℕ) (cells : List CellView) → from ≤ end → count ≤ end - from
    → ((i : ℕ) → i < count → HasRendition (get_or (take (end - from) (drop from cells)) 0 blank_cell) (take (end - from) (drop from cells)) i)
    → (c : ℕ) → from ≤ c → c < from + count → HasRendition (get_or cells from blank_cell) cells c
part_alike from end count cells order few alike c low high =
    let there : from + (c - from) ≡ c = omega (arith, low) in
    let here : from + 0 ≡ from = omega arith in
    let near : c - from < count = omega (arith, low, high) in
    let inside : c - from < end - from = omega (arith, near, few) in
    let has = alike (c - from) near in
    let first : get_or (take (end - from) (drop from cells)) 0 blank_cell ≡ get_or cells from blank_cell = part_at cells from (end - from) 0 from blank_cell (omega (arith, inside)) here in
    let other : get_or (take (end - from) (drop from cells)) (c - from) blank_cell ≡ get_or cells c blank_cell = part_at cells from (end - from) (c - from) c blank_cell inside there in
    record {
      attrs = ap (λ cell. cell.attrs) (sym other) ∙ has.attrs ∙ ap (λ cell. cell.attrs) first;
      pair = ap (λ cell. cell.pair) (sym other) ∙ has.pair ∙ ap (λ cell. cell.pair) first;
    }
