use Rattle.std.proofs.Common.{◌∙◌, sym}
use Rattle.scr_term.specs.Operations.Profiles.{abilities}
use Rattle.scr_term.specs.Operations.Steps.{step}
use Rattle.scr_memory.proofs.MemoryViewLaws.{learnt}
use Rattle.scr_memory.proofs.memories.Memory.follow_one.Goals as goal

pub returns-clause-followed : goal.returns-clause-followed
returns-clause-followed c =
    let profile = c.args.profile.now in
    let old = c.args.self.now in
    λ yes.
    c.learn.ensures
    ∙ learnt (abilities profile) c.args.op old c.step.new.self (step profile old.state c.args.op) (sym c.step.ensures.answer ∙ c.if-not-step.false) c.step.ensures.state
