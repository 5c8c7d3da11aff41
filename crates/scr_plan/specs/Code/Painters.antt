-- Painting a place by what is known of the terminal beforehand.
use Rattle.std.specs.Prelude.{ℕ, zero, suc, Bool, false, ◌&&◌, not, List, [], ◌∷◌, ◌++◌, map, Option, Some, None, if◌then◌else◌}
use Rattle.std.specs.List.{range_with_len}
use Rattle.scr_cells.specs.CellViews.{CellView, blank_cell}
use Rattle.scr_cells.specs.Grids.{grid_at}
use Rattle.scr_cells.specs.LookViews.{LookView, seen}
use Rattle.scr_cells.specs.PenViews.{PenView, is_plain_pen, pen_eq}
use Rattle.scr_cells.specs.PictureViews.{PictureView}
use Rattle.scr_cells.specs.Showing.{shown_in}
use Rattle.scr_term.specs.declared.operations.capability.Capability.TheVariants.{Sgr0}
use Rattle.scr_term.specs.declared.operations.operation.Op.{Op}
use Rattle.scr_term.specs.declared.operations.operation.Op.TheVariants.{Move, Reset}
use Rattle.scr_term.specs.declared.operations.operation.Spot.{Spot}
use Rattle.scr_term.specs.Operations.Profiles.{ProfileView, has_colours, is_there, shown_set}
use Rattle.scr_term.specs.Operations.Texts.{put_of}
use Rattle.scr_memory.specs.Memories.{MemoryView, is_in_place, is_known_row}
use Rattle.scr_plan.specs.Repaints.{look_eq, look_in}
use Rattle.scr_plan.specs.Scratch.{renders}
use Rattle.scr_plan.specs.declared.painting.Painter.{Painter}

-- what a painter knows of a profile
abbrev pub painter_of : ProfileView → Painter
painter_of profile = record {
  charset = profile.charset;
  shown = record { 0 = shown_set profile };
  colours = has_colours profile;
  can_reset = is_there profile Sgr0;
  moves_in_any_rendition = profile.msgr;
}

abbrev pub painter_resets : Painter → List Op
painter_resets painter = if painter.can_reset then Reset ∷ [] else []

abbrev pub painter_goes : Painter → ℕ × ℕ → List Op
painter_goes painter place =
    if painter.moves_in_any_rendition then Move place.0 place.1 ∷ painter_resets painter else painter_resets painter ++ Move place.0 place.1 ∷ []

-- what leads to a place and a pen
abbrev pub painter_begins : Painter → ℕ × ℕ → PenView → List Op
painter_begins painter place pen = painter_goes painter place ++ renders pen

-- the same without what changes nothing where the cursor and the pen are these
abbrev pub moves_unless_there : Spot → ℕ × ℕ → List Op
moves_unless_there spot place = if is_in_place spot place then [] else Move place.0 place.1 ∷ []

abbrev pub resets_unless_plain : Painter → PenView → List Op
resets_unless_plain painter pen = if is_plain_pen pen then [] else painter_resets painter

abbrev pub painter_leads : Painter → Spot → PenView → ℕ × ℕ → PenView → List Op
painter_leads painter spot now place pen =
    (if painter.moves_in_any_rendition then moves_unless_there spot place ++ resets_unless_plain painter now else resets_unless_plain painter now ++ moves_unless_there spot place) ++ renders pen

-- what is seen of a cell
abbrev pub painter_sees : Painter → List (Option ℕ × Option ℕ) → CellView → LookView
painter_sees painter pairs cell = seen painter.charset painter.shown.0 painter.colours pairs cell

-- one place with a cell of these pairs' colours, and with the cell that the picture has there
abbrev pub painter_paints : Painter → List (Option ℕ × Option ℕ) → ℕ × ℕ → CellView → List Op
painter_paints painter pairs place cell =
    painter_goes painter place ++ renders (painter_sees painter pairs cell).pen ++ put_of (painter_sees painter pairs cell).character ∷ []

abbrev pub painter_paints_place : Painter → PictureView → ℕ × ℕ → List Op
painter_paints_place painter picture place = painter_paints painter picture.pairs place (grid_at blank_cell picture.lines place.0 place.1)

-- n places of a row, from a column on
abbrev pub part_places : ℕ → ℕ → ℕ → List (ℕ × ℕ)
part_places from n r = map (λ c. (r, c)) (range_with_len from n)

-- a place differs, unless it is known to show what is seen of the picture
abbrev pub painter_differs : Painter → PictureView → MemoryView → ℕ × ℕ → Bool
painter_differs painter picture memory place =
    not (is_known_row memory place.0 && look_eq (look_in memory place) (painter_sees painter picture.pairs (grid_at blank_cell picture.lines place.0 place.1)))

-- ---- places painted after their neighbours

-- what is seen of the picture in a place
abbrev pub painter_look : Painter → PictureView → ℕ × ℕ → LookView
painter_look painter picture place = painter_sees painter picture.pairs (grid_at blank_cell picture.lines place.0 place.1)

-- a place of a row that is known to show this differs from what is seen of the picture
abbrev pub row_differs : Painter → PictureView → Option (List LookView) → ℕ × ℕ → Bool
row_differs painter picture before place = not (look_eq (shown_in before place.1) (painter_look painter picture place))

-- the pen of the place before a column, where that is painted
abbrev pub pen_before : Painter → PictureView → Option (List LookView) → ℕ → ℕ → Option PenView
pen_before painter picture before r zero = None
pen_before painter picture before r (suc c) = if row_differs painter picture before (r, c) then Some (painter_look painter picture (r, c)).pen else None

abbrev pub is_that_pen : Option PenView → PenView → Bool
is_that_pen None pen = false
is_that_pen (Some left) pen = pen_eq left pen

-- a character in a place, and what leads there with its pen, unless the place before it was painted with that pen
abbrev pub painter_writes : Painter → Option PenView → ℕ × ℕ → LookView → List Op
painter_writes painter left place look =
    (if is_that_pen left look.pen then [] else painter_goes painter place ++ renders look.pen) ++ put_of look.character ∷ []

abbrev pub row_paints : Painter → PictureView → Option (List LookView) → ℕ × ℕ → List Op
row_paints painter picture before place = painter_writes painter (pen_before painter picture before place.0 place.1) place (painter_look painter picture place)
