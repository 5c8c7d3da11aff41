use Rattle.std.proofs.Common.{◌≡◌, ◌∙◌, ◌∷◌, [], ◌++◌, reverse, inl, inr, ap, subst, List, rules}
use Rattle.ti_source.specs.declared.resolving.walk.EntryTask.{EntryTask}
use Rattle.ti_source.specs.declared.resolving.walk.EntryTask.TheVariants.{Visit}
use Rattle.ti_source.proofs.IndexLaws.{reverse-push}
use Rattle.ti_source.proofs.WalkLaws.{IsReaching, reaching-init, reaching-go, stopped-ready, stuck-fault}
use Rattle.ti_source.proofs.resolving.walk.EntryWalk.resolved.Goals as goal

pub loop-task-init : goal.loop-task-init
loop-task-init c =
    reaching-init c.args.entries.now c.args.self.now.marks.items c.args.self.now.kept.items c.args.index _ c.requires.0
    (ap reverse c.in_ok-push.ensures.items ∙ reverse-push c.args.self.now.tasks.items (Visit c.args.index) ∙ ap (λ ts. Visit c.args.index ∷ ts) c.requires.1)

pub returns-in-Err-clause-err : goal.returns-in-Err-clause-err
returns-in-Err-clause-err c =
    let w = c.loop-task.self in
    let popped : w.tasks.items ≡ c.pop.new.self.items ++ c.in-Some.task ∷ [] = search rules in
    let turned = ap reverse popped ∙ reverse-push c.pop.new.self.items c.in-Some.task in
    let P : List EntryTask → Type 0 = λ ts. IsReaching c.args.entries.now c.args.self.now.marks.items c.args.index w.marks.items w.kept.items ts in
    elim c.in-Err.ensures.err [
      | inl h ↦ inl h
      | inr h ↦ inr (stuck-fault c.args.entries.now c.args.self.now.marks.items c.args.index _ _ c.in-Some.task c.in-Err.fault (subst P turned c.loop-task.invariant) h)
    ]

pub returns-in-Err-clause-ready : goal.returns-in-Err-clause-ready
returns-in-Err-clause-ready c =
    let w = c.loop-task.self in
    let popped : w.tasks.items ≡ c.pop.new.self.items ++ c.in-Some.task ∷ [] = search rules in
    let turned = ap reverse popped ∙ reverse-push c.pop.new.self.items c.in-Some.task in
    let P : List EntryTask → Type 0 = λ ts. IsReaching c.args.entries.now c.args.self.now.marks.items c.args.index w.marks.items w.kept.items ts in
    stopped-ready c.args.entries.now c.args.self.now.marks.items c.args.index _ c.step.new.self c.stop.new.self c.in-Some.task c.in-Err.fault (subst P turned c.loop-task.invariant) c.in-Err.ensures.err c.in-Err.ensures.kept c.stop.ensures.marks c.stop.ensures.kept c.stop.ensures.tasks

pub loop-task-preserved : goal.loop-task-preserved
loop-task-preserved c =
    let w = c.loop-task.self in
    let popped : w.tasks.items ≡ c.pop.new.self.items ++ c.in-Some.task ∷ [] = search rules in
    let turned = ap reverse popped ∙ reverse-push c.pop.new.self.items c.in-Some.task in
    let P : List EntryTask → Type 0 = λ ts. IsReaching c.args.entries.now c.args.self.now.marks.items c.args.index w.marks.items w.kept.items ts in
    reaching-go c.args.entries.now c.args.self.now.marks.items c.args.index w.marks.items _ w.kept.items _ _ _ (subst P turned c.loop-task.invariant) c.in_default-step.ensures.ok
