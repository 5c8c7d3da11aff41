-- A pen as a number: the attributes in bits 0 to 7, the foreground in bits 8 to 11, the background above, a colour as 1 more
-- than it is, and 0 for the default.
use Rattle.std.specs.Prelude.{ℕ, ◌+◌, ◌-◌, ◌*◌, ◌/◌, ◌%◌, ◌==◌, Option, Some, None, if◌then◌else◌}
use Rattle.scr_cells.specs.PenViews.{PenView}

abbrev pub colour_code : Option ℕ → ℕ
colour_code None = 0
colour_code (Some colour) = colour + 1

abbrev pub coded_colour : ℕ → Option ℕ
coded_colour code = if code == 0 then None else Some (code - 1)

abbrev pub pen_code : PenView → ℕ
pen_code pen = colour_code pen.background * 4096 + colour_code pen.foreground * 256 + pen.attrs

abbrev pub coded_pen : ℕ → PenView
coded_pen code = record {
  attrs = code % 256;
  foreground = coded_colour (code / 256 % 16);
  background = coded_colour (code / 4096);
}
