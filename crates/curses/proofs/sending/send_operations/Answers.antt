use Rattle.std.proofs.Common.{rules}
use Rattle.curses.proofs.CutLaws.{operation_cut, operations_more}
use Rattle.curses.proofs.sending.send_operations.Goals as goal

pub returns-then-is_some-clause-cut : goal.returns-then-is_some-clause-cut
returns-then-is_some-clause-cut g c =
    operations_more c.args.profile.now c.args.ops.now c.loop-begun.begun _ (g.W.Counted.told c.args.out.now).taken (g.W.Counted.told c.loop-begun.out).taken (g.W.Counted.told c.send_operation-taken.new.out).taken
    c.loop-begun.bytes c.send_operation-taken.result.bytes c.send_operation-taken.new.waiting.items c.loop-begun-test.true c.loop-begun.invariant.cut c.send_operation-taken.ensures.cut

pub returns-then-is_some-clause-one : goal.returns-then-is_some-clause-one
returns-then-is_some-clause-one g c = λ failed.
    operation_cut c.args.profile.now c.args.ops.now c.loop-begun.begun _ (g.W.Counted.told c.loop-begun.out).taken (g.W.Counted.told c.send_operation-taken.new.out).taken c.send_operation-taken.result.bytes
    c.send_operation-taken.new.waiting.items c.loop-begun-test.true c.send_operation-taken.ensures.cut

pub returns-then-is_some-clause-whole : goal.returns-then-is_some-clause-whole
returns-then-is_some-clause-whole g c = search rules

pub returns-then-is_some-clause-nothing : goal.returns-then-is_some-clause-nothing
returns-then-is_some-clause-nothing g c = search rules

pub returns-then-is_some-clause-puts : goal.returns-then-is_some-clause-puts
returns-then-is_some-clause-puts g c = search rules
