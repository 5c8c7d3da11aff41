use Rattle.std.proofs.Common.{ap, arith, subst, sym, IfSome, Some, ◌≡◌, ◌∙◌}
use Rattle.scr_cells.specs.Grids.{IsGrid}
use Rattle.scr_cells.specs.PictureViews.{PictureView}
use Rattle.scr_memory.specs.Memories.{MemoryView}
use Rattle.scr_term.specs.declared.operations.operation.Spot.TheVariants.{At}
use Rattle.scr_term.specs.Operations.States.{TerminalState}
use Rattle.scr_term.specs.Operations.Steps.{runs}
use Rattle.scr_plan.proofs.CheckingLaws.{all_shown, known_plan, on_err, unlike_is_no_plan}
use Rattle.scr_plan.proofs.PlanLaws.{whole_of}
use Rattle.scr_plan.specs.Checks.{IsNoSurePlan, IsUnlike, ShowsMarked}
use Rattle.scr_plan.proofs.scenes.Update.check_changes.Goals as goal

pub returns-clause-plan : goal.returns-clause-plan
returns-clause-plan c =
    let profile = c.args.self.now.scene.profile.now in
    let memory = c.args.self.now.memory.now in
    let virtual = c.args.self.now.wanted.now in
    let update = c.requires.update in
    let marked = c.mark_changes.new.spare in
    let tried = c.run.new.spare in
    let new : TerminalState = tried.memory.state in
    let is : marked.memory ≡ memory = c.mark_changes.ensures.memory ∙ c.requires.begun in
    let run : runs profile memory.state c.args.ops.now ≡ Some new = ap (λ (m : MemoryView). runs profile m.state c.args.ops.now) (sym is) ∙ c.in_ok-run.ensures.run in
    let rows : tried.memory.rows ≡ profile.rows = c.run.ensures.tried.rows ∙ ap (λ (m : MemoryView). m.rows) is ∙ update.size.rows ∙ update.fits.rows in
    let columns : tried.memory.columns ≡ profile.columns = c.run.ensures.tried.columns ∙ ap (λ (m : MemoryView). m.columns) is ∙ update.size.columns ∙ update.fits.columns in
    let high : marked.marks.rows ≡ virtual.picture.rows = c.memory.ensures.sizes.rows ∙ ap (λ (m : MemoryView). m.rows) is ∙ update.size.rows in
    let wide : marked.marks.columns ≡ virtual.picture.columns = c.memory.ensures.sizes.columns ∙ ap (λ (m : MemoryView). m.columns) is ∙ update.size.columns in
    let whole : IsGrid tried.memory.rows tried.memory.columns new.grid = subst (λ (m : MemoryView). IsGrid m.rows m.columns m.state.grid) c.memory-2.ensures.memory c.size-spare.ensures.memory.state.whole in
    let grid : IsGrid profile.rows profile.columns new.grid = subst (λ rows. IsGrid rows profile.columns new.grid) rows (subst (λ columns. IsGrid tried.memory.rows columns new.grid) columns whole) in
    let shown : ShowsMarked profile tried virtual.picture = subst (ShowsMarked profile tried) update.picture c.in_ok-compare.ensures.alike.shown in
    known_plan c.run_laws.ensures c.known_memories.ensures c.memory_runs.ensures c.grid_laws.ensures profile c.size-profile.ensures.profile virtual c.size-wanted.ensures.screen.picture update.fits
    memory (whole_of profile virtual.picture memory c.size-memory.ensures.memory update.size update.fits) c.requires.known c.requires.calm c.args.ops.now new run grid
    (all_shown profile virtual memory marked tried is high wide c.mark_changes.ensures.shown c.run.ensures.tried shown)
    (subst (λ (picture : PictureView). IfSome picture.wish (λ wish. new.spot ≡ At wish.0 wish.1)) update.picture c.in_ok-compare.ensures.alike.placed)
    c.requires.few (let within = c.in_ok-compare.ensures.alike.within (c.run_laws.ensures.had profile memory.state new c.args.ops.now run) in omega (arith, within, c.requires.bound))

pub returns-in_err-compare-clause-exact : goal.returns-in_err-compare-clause-exact
returns-in_err-compare-clause-exact c =
    let profile = c.args.self.now.scene.profile.now in
    let memory = c.args.self.now.memory.now in
    let virtual = c.args.self.now.wanted.now in
    let is : c.mark_changes.new.spare.memory ≡ memory = c.mark_changes.ensures.memory ∙ c.requires.begun in
    let run : runs profile memory.state c.args.ops.now ≡ Some c.run.new.spare.memory.state = ap (λ (m : MemoryView). runs profile m.state c.args.ops.now) (sym is) ∙ c.in_ok-run.ensures.run in
    let other : IsUnlike profile virtual.picture c.args.bound c.args.ops.now c.run.new.spare = subst (λ (picture : PictureView). IsUnlike profile picture c.args.bound c.args.ops.now c.run.new.spare) c.requires.update.picture c.in_err-compare.ensures.unlike in
    let none : IsNoSurePlan profile memory virtual c.args.bound c.args.ops.now = λ may whole sure. unlike_is_no_plan c.run_laws.ensures profile virtual c.size-wanted.ensures.screen.picture memory may c.args.bound whole c.args.ops.now c.run.new.spare run other sure.plan in
    on_err _ none
