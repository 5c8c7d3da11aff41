use Rattle.std.proofs.Common.{take}
use Rattle.curses.proofs.CutLaws.{cut_behind, cuts_join_whole, rest_of_owed}
use Rattle.curses.proofs.sending.send_all.Goals as goal

pub returns-clause-cut : goal.returns-clause-cut
returns-clause-cut g c =
    cuts_join_whole c.send_waiting-owed.result.fault c.is_some.result _ _ _ _ (g.W.Counted.told c.args.out.now).taken (g.W.Counted.told c.send_waiting-owed.new.out).taken (g.W.Counted.told c.send_operations-sent.new.out).taken
    _ _ c.is_some.ensures c.if-is_some.false c.send_waiting-owed.ensures.whole c.send_waiting-owed.ensures.cut c.send_operations-sent.ensures.cut

pub returns-then-is_some-clause-one : goal.returns-then-is_some-clause-one
returns-then-is_some-clause-one g c = λ failed. rest_of_owed _ _ _ _ _ c.send_waiting-owed.ensures.cut

pub returns-clause-one : goal.returns-clause-one
returns-clause-one g c = λ failed. cut_behind c.args.profile.now c.args.waiting.now.items (take c.send_operations-sent.result.begun c.args.ops.now) c.send_operations-sent.new.waiting.items (c.send_operations-sent.ensures.one failed)
