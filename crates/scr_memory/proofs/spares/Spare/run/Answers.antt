use Rattle.std.proofs.Common.{arith}
use Rattle.scr_memory.proofs.TryingLaws.{later_undefined, on_err, run_on, tried_on}
use Rattle.scr_memory.proofs.spares.Spare.run.Goals as goal

pub loop-done-preserved : goal.loop-done-preserved
loop-done-preserved c = record {
  inside = omega (arith, c.in_ok-done.ensures.inside, c.loop-done.invariant.inside);
  run = run_on c.run_laws.ensures c.args.profile.now c.args.ops.now c.loop-done.done c.in_ok-done.field-0 c.args.self.now.memory.state c.loop-done.self.memory.state c.run_next.new.self.memory.state c.loop-done.invariant.run c.in_ok-done.ensures.run;
  tried = tried_on c.args.self.now c.loop-done.self c.run_next.new.self c.loop-done.invariant.tried c.in_ok-done.ensures.tried;
}

pub returns-in_err-done-clause-undefined : goal.returns-in_err-done-clause-undefined
returns-in_err-done-clause-undefined c =
    on_err _ (later_undefined c.run_laws.ensures c.args.profile.now c.args.ops.now c.loop-done.done c.args.self.now.memory.state c.loop-done.self.memory.state c.loop-done.invariant.run c.in_err-done.ensures.undefined)
