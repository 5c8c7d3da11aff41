use Rattle.std.proofs.Common.{ap, ◌∙◌}
use Rattle.scr_memory.specs.Memories.{MayBe, MemoryView}
use Rattle.scr_term.specs.Operations.Profiles.{abilities}
use Rattle.scr_terminal.specs.Marks.{is_marked}
use Rattle.scr_plan.proofs.CheckingLaws.{is_ahead}
use Rattle.scr_plan.proofs.PlanLaws.{state_of}
use Rattle.scr_plan.proofs.scenes.Update.lead.Goals as goal

pub returns : goal.returns
returns c =
    let profile = c.args.self.now.scene.profile.now in
    let memory = c.args.self.now.memory.now in
    let update = c.requires.update in
    let begun = c.begin.new.self in
    let may : MayBe (abilities profile) memory = record {
      state = state_of profile memory c.size-memory.ensures.memory (update.size.rows ∙ update.fits.rows) (update.size.columns ∙ update.fits.columns) c.requires.pen;
      high = update.size.known_rows ∙ update.fits.rows;
    } in
    is_ahead c.memory_runs.ensures profile c.args.self.now.wanted.now memory may c.args.ops.now c.requires.plan begun c.run-defined.new.self c.run-defined.result c.begin.ensures.memory
    (λ r k. ap (λ marks. is_marked marks r k) c.begin.ensures.marks ∙ c.requires.ready.none r k)
    (c.memory-begun.ensures.sizes.rows ∙ ap (λ (m : MemoryView). m.rows) c.begin.ensures.memory) (c.memory-begun.ensures.sizes.columns ∙ ap (λ (m : MemoryView). m.columns) c.begin.ensures.memory)
    c.run-defined.ensures.tried c.run-defined.ensures.run c.run-defined.ensures.undefined
