use Rattle.std.proofs.Common.{◌≤◌, length, arith}
use Rattle.std.proofs.lemmas.Bool.Decides.{nat_tests}
use Rattle.edit_text.specs.Lines.{line_at}
use Rattle.edit_text.proofs.InverseLaws.{is_feed, join_undoes, not_last, part_within, removal_undoes}
use Rattle.edit_text.proofs.lines.Lines.delete.Goals as goal

pub remove-requires-clause-column : goal.remove-requires-clause-column
remove-requires-clause-column c = rw c.len.ensures (part_within c.args.self.now c.args.place c.args.part (grind (arith, nat_tests, c.if-place-length_of.true, c.length_of.ensures)) c.requires.part)

pub returns-then-place-length_of-clause-edit : goal.returns-then-place-length_of-clause-edit
returns-then-place-length_of-clause-edit c = rw (c.remove.ensures, c.len.ensures) (removal_undoes c.args.self.now c.args.place c.args.part c.requires.line (grind (arith, nat_tests, c.if-place-length_of.true, c.length_of.ensures)) c.requires.part)

pub returns-clause-edit : goal.returns-clause-edit
returns-clause-edit c =
    let past : length (line_at c.args.self.now c.args.place.line) ≤ c.args.place.column = grind (arith, nat_tests, c.if-place-length_of.false, c.length_of.ensures) in
    let feed = is_feed c.args.self.now c.args.place c.args.part past c.requires.part in
    rw c.in_ok-join.ensures.ok (join_undoes c.args.self.now c.args.place (not_last c.args.self.now c.args.place c.requires.line c.requires.column past feed.1) (omega (arith, past, c.requires.column)))
