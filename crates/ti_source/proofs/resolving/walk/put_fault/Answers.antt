use Rattle.std.proofs.Common.{◌≡◌, ◌∙◌, ◌∷◌, [], ◌++◌, ap, rules, sym, reverse}
use Rattle.ti_source.specs.declared.resolving.walk.EntryTask.TheVariants.{Visit, Leave}
use Rattle.ti_source.specs.Code.EntryWalk.{leaves, with_fault}
use Rattle.ti_source.proofs.ChainLaws.{faults-leave, faults-visit}
use Rattle.ti_source.proofs.resolving.walk.put_fault.Goals as goal

pub loop-task-preserved-in-Leave : goal.loop-task-preserved-in-Leave
loop-task-preserved-in-Leave c =
    let popped : c.loop-task.tasks.items ≡ c.pop.new.self.items ++ Leave c.in-Leave.i ∷ [] = search rules in
    faults-leave c.args.fault c.loop-task.marks c.put_mark.new.marks _ c.loop-task.tasks.items c.pop.new.self.items c.in-Leave.i popped c.put_mark.ensures c.loop-task.invariant

pub loop-task-preserved : goal.loop-task-preserved
loop-task-preserved c =
    let popped : c.loop-task.tasks.items ≡ c.pop.new.self.items ++ Visit c.in_default-task.field-0 ∷ [] = search rules in
    faults-visit c.args.fault c.loop-task.marks _ c.loop-task.tasks.items c.pop.new.self.items c.in_default-task.field-0 popped c.loop-task.invariant

pub returns-clause-marks : goal.returns-clause-marks
returns-clause-marks c =
    let none : c.loop-task.tasks.items ≡ [] = search rules in
    ap (λ ts. with_fault c.args.fault (leaves (reverse ts)) c.loop-task.marks) (sym none) ∙ c.loop-task.invariant
