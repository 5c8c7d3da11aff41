use Rattle.std.proofs.Common.{arith, inr, ◌≤◌}
use Rattle.std.proofs.lemmas.Bool.Decides.{nat_tests}
use Rattle.scr_terminal.proofs.MarkLaws.{all_copied}
use Rattle.scr_terminal.proofs.terminal.Terminal.copy_marked.Goals as goal

pub returns : goal.returns
returns c =
    let past : c.rows-first.result.1 ≤ c.loop-row.row = grind (arith, nat_tests, c.loop-row-test.false) in
    all_copied c.grid_laws.ensures c.args.marks.now c.args.self.now c.args.other.now c.loop-row.self c.loop-row.row c.rows-first.result.1 c.size-after.ensures.terminal c.size-other.ensures.terminal c.requires.rows c.requires.columns
    c.loop-row.invariant past (λ r k behind. c.rows-first.ensures.outside r k (inr behind))
