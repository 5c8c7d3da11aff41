use Rattle.std.proofs.Common.{◌≡◌, ◌+◌, ◌-◌, ◌∙◌, ap, arith, get_or, rules, true}
use Rattle.scr_cells.specs.Characters.{is_ascii}
use Rattle.scr_windows.specs.Calls.Adding.{text_added}
use Rattle.scr_windows.proofs.TextLaws.{part_begins, part_fits}
use Rattle.scr_windows.proofs.desks.Desk.add_some.Goals as goal

pub add_stretch-requires-clause-some : goal.add_stretch-requires-clause-some
add_stretch-requires-clause-some c =
    let is : is_ascii (get_or c.args.text.now c.args.at 0) ≡ true = search rules in
    part_begins c.args.text.now c.args.at (c.args.at + c.min.result - c.args.at) (omega arith) (omega arith) is

pub returns-clause-some : goal.returns-clause-some
returns-clause-some c =
    let is : is_ascii (get_or c.args.text.now c.args.at 0) ≡ true = search rules in
    omega (arith, c.add_stretch.ensures.count, part_begins c.args.text.now c.args.at (c.args.at + c.min.result - c.args.at) (omega arith) (omega arith) is)

pub returns-clause-within : goal.returns-clause-within
returns-clause-within c =
    let part = part_fits c.args.text.now c.args.at (c.args.at + c.min.result - c.args.at) _ (omega arith) c.add_stretch.ensures.count in
    omega (arith, part.0)

pub returns-clause-added : goal.returns-clause-added
returns-clause-added c =
    let part = part_fits c.args.text.now c.args.at (c.args.at + c.min.result - c.args.at) _ (omega arith) c.add_stretch.ensures.count in
    c.add_stretch.ensures.added ∙ ap (text_added c.args.self.now c.args.index) part.1
