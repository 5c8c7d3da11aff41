use Rattle.scr_windows.proofs.SyncLaws.{as_many, fewer_steps, still_before, up_begun, up_done, up_more}
use Rattle.scr_windows.proofs.desks.Desk.touch_up.Goals as goal

pub loop-above-init : goal.loop-above-init
loop-above-init c =
    let e = c.parent_of-above.ensures in
    record { desk = e.desk; here = c.requires; before = e.before; rest = up_begun c.args.self.now c.args.index c.parent_of-above.result c.requires e.parent e.before }

pub loop-above-smaller : goal.loop-above-smaller
loop-above-smaller c = fewer_steps c.loop-above.above c.parent_of-above-in-Some.result c.in-Some.parent c.in-Some.is c.parent_of-above-in-Some.ensures.before

pub loop-above-preserved : goal.loop-above-preserved
loop-above-preserved c =
    let inv = c.loop-above.invariant in
    let e = c.parent_of-above-in-Some.ensures in
    let before = still_before c.loop-above.above c.parent_of-above-in-Some.result c.in-Some.parent c.args.index c.in-Some.is inv.before e.before in
    record {
      desk = e.desk;
      here = as_many c.loop-above.self c.touch_shared.new.self c.args.index c.in-Some.parent _ c.touch_shared.ensures inv.here;
      before = before.1;
      rest = up_more c.loop-above.self c.touch_shared.new.self c.args.index c.in-Some.parent c.loop-above.above c.parent_of-above-in-Some.result _ c.parent_of-above-in-Some.ensures.desk inv.here c.in-Some.is before.0 c.touch_shared.ensures e.parent e.before inv.rest;
    }

pub returns : goal.returns
returns c = up_done c.loop-above.self _ c.args.index c.loop-above.above c.in_default.is c.loop-above.invariant.rest
