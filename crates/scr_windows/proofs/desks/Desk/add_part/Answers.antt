use Rattle.std.proofs.Common.{◌≡◌, ◌∙◌, arith, ap, get_or, sym, take, true}
use Rattle.scr_cells.specs.Characters.{is_ascii}
use Rattle.scr_windows.specs.Calls.Adding.{text_added}
use Rattle.scr_windows.proofs.TextLaws.{part_begins}
use Rattle.scr_windows.proofs.FittedLaws.{stretch_ends, stretch_is_fitted}
use Rattle.scr_windows.proofs.desks.Desk.add_part.Goals as goal

pub returns-clause-place : goal.returns-clause-place
returns-clause-place c =
    let end = c.min-end.result in
    let part = take end c.as_bytes-bytes.result.now in
    let is : part ≡ take end c.args.text.now = ap (take end) c.as_bytes-bytes.ensures.value in
    let first : is_ascii (get_or c.as_bytes-bytes.result.now 0 0) ≡ true = sym c.is_ascii.ensures.value ∙ c.if-not-is_ascii.false in
    let some = part_begins c.as_bytes-bytes.result.now 0 end (omega arith) (omega arith) first in
    stretch_ends c.args.text.now part c.add_stretch.result end c.utf8.text is c.add_stretch.ensures.count (omega (arith, some, c.add_stretch.ensures.count))

pub returns-clause-added : goal.returns-clause-added
returns-clause-added c =
    let end = c.min-end.result in
    let part = take end c.as_bytes-bytes.result.now in
    let is : part ≡ take end c.args.text.now = ap (take end) c.as_bytes-bytes.ensures.value in
    c.add_stretch.ensures.added ∙ ap (text_added c.args.self.now c.args.index) (stretch_is_fitted c.args.text.now part c.add_stretch.result end is c.add_stretch.ensures.count)
