use Rattle.std.proofs.Common.{ap, arith, subst, sym, IfSome, Some, ◌≡◌, ◌∙◌}
use Rattle.scr_cells.specs.Grids.{IsGrid}
use Rattle.scr_cells.specs.PictureViews.{PictureView}
use Rattle.scr_memory.specs.Memories.{MayBe, MemoryView}
use Rattle.scr_memory.specs.Spares.{IsAllMarked}
use Rattle.scr_term.specs.declared.operations.operation.Spot.TheVariants.{At}
use Rattle.scr_term.specs.Operations.Profiles.{abilities}
use Rattle.scr_term.specs.Operations.States.{TerminalState}
use Rattle.scr_term.specs.Operations.Steps.{runs}
use Rattle.scr_plan.proofs.CheckingLaws.{all_compared, marked_is_of, on_err, still_marked, unlike_is_no_plan}
use Rattle.scr_plan.proofs.PlanLaws.{state_of}
use Rattle.scr_plan.proofs.SureLaws.{anew_plan}
use Rattle.scr_plan.specs.Checks.{IsNoSurePlan, IsUnlike, ShowsMarked}
use Rattle.scr_plan.proofs.scenes.Update.check_anew.Goals as goal

pub returns-clause-plan : goal.returns-clause-plan
returns-clause-plan c =
    let profile = c.args.self.now.scene.profile.now in
    let memory = c.args.self.now.memory.now in
    let virtual = c.args.self.now.wanted.now in
    let update = c.requires.update in
    let marked = c.mark_all.new.self in
    let tried = c.run.new.spare in
    let new : TerminalState = tried.memory.state in
    let is : marked.memory ≡ memory = c.mark_all.ensures.memory ∙ c.requires.begun in
    let run : runs profile memory.state c.args.ops.now ≡ Some new = ap (λ (m : MemoryView). runs profile m.state c.args.ops.now) (sym is) ∙ c.in_ok-run.ensures.run in
    let picture_rows : tried.memory.rows ≡ virtual.picture.rows = c.run.ensures.tried.rows ∙ ap (λ (m : MemoryView). m.rows) is ∙ update.size.rows in
    let picture_columns : tried.memory.columns ≡ virtual.picture.columns = c.run.ensures.tried.columns ∙ ap (λ (m : MemoryView). m.columns) is ∙ update.size.columns in
    let rows : tried.memory.rows ≡ profile.rows = picture_rows ∙ update.fits.rows in
    let columns : tried.memory.columns ≡ profile.columns = picture_columns ∙ update.fits.columns in
    let whole : IsGrid tried.memory.rows tried.memory.columns new.grid = subst (λ (m : MemoryView). IsGrid m.rows m.columns m.state.grid) c.memory-2.ensures.memory c.size-spare.ensures.memory.state.whole in
    let grid : IsGrid profile.rows profile.columns new.grid = subst (λ rows. IsGrid rows profile.columns new.grid) rows (subst (λ columns. IsGrid tried.memory.rows columns new.grid) columns whole) in
    let all : IsAllMarked tried = still_marked marked tried c.memory.ensures.sizes.rows c.memory.ensures.sizes.columns c.mark_all.ensures.marked c.run.ensures.tried in
    let shown : ShowsMarked profile tried virtual.picture = subst (ShowsMarked profile tried) update.picture c.in_ok-compare.ensures.alike.shown in
    let may : MayBe (abilities profile) memory = record {
      state = state_of profile memory c.size-memory.ensures.memory (update.size.rows ∙ update.fits.rows) (update.size.columns ∙ update.fits.columns) c.requires.pen;
      high = update.size.known_rows ∙ update.fits.rows;
    } in
    anew_plan c.run_laws.ensures c.profiles_have.ensures c.plans_are_remembered.ensures c.grid_laws.ensures profile c.size-profile.ensures.profile virtual c.size-wanted.ensures.screen.picture update.fits
    memory may c.requires.due c.args.ops.now new c.requires.begins run grid
    (all_compared profile virtual.picture tried picture_rows picture_columns all shown)
    (subst (λ (picture : PictureView). IfSome picture.wish (λ wish. new.spot ≡ At wish.0 wish.1)) update.picture c.in_ok-compare.ensures.alike.placed)
    c.requires.few (let within = c.in_ok-compare.ensures.alike.within (c.run_laws.ensures.had profile memory.state new c.args.ops.now run) in omega (arith, within, c.requires.bound))

pub returns-clause-ahead : goal.returns-clause-ahead
returns-clause-ahead c =
    let profile = c.args.self.now.scene.profile.now in
    let memory = c.args.self.now.memory.now in
    let update = c.requires.update in
    let marked = c.mark_all.new.self in
    let tried = c.run.new.spare in
    let is : marked.memory ≡ memory = c.mark_all.ensures.memory ∙ c.requires.begun in
    let run : runs profile memory.state c.args.ops.now ≡ Some tried.memory.state = ap (λ (m : MemoryView). runs profile m.state c.args.ops.now) (sym is) ∙ c.in_ok-run.ensures.run in
    let rows : tried.memory.rows ≡ memory.rows = c.run.ensures.tried.rows ∙ ap (λ (m : MemoryView). m.rows) is in
    let columns : tried.memory.columns ≡ memory.columns = c.run.ensures.tried.columns ∙ ap (λ (m : MemoryView). m.columns) is in
    let all : IsAllMarked tried = still_marked marked tried c.memory.ensures.sizes.rows c.memory.ensures.sizes.columns c.mark_all.ensures.marked c.run.ensures.tried in
    let may : MayBe (abilities profile) memory = record {
      state = state_of profile memory c.size-memory.ensures.memory (update.size.rows ∙ update.fits.rows) (update.size.columns ∙ update.fits.columns) c.requires.pen;
      high = update.size.known_rows ∙ update.fits.rows;
    } in
    record {
      of = marked_is_of memory tried c.memory-2.ensures.sizes.rows c.memory-2.ensures.sizes.columns rows columns all;
      state = c.memory_runs.ensures.state profile memory tried.memory.state c.args.ops.now run;
      known = (returns-clause-plan c).known may;
    }

pub returns-in_err-compare-clause-exact : goal.returns-in_err-compare-clause-exact
returns-in_err-compare-clause-exact c =
    let profile = c.args.self.now.scene.profile.now in
    let memory = c.args.self.now.memory.now in
    let virtual = c.args.self.now.wanted.now in
    let is : c.mark_all.new.self.memory ≡ memory = c.mark_all.ensures.memory ∙ c.requires.begun in
    let run : runs profile memory.state c.args.ops.now ≡ Some c.run.new.spare.memory.state = ap (λ (m : MemoryView). runs profile m.state c.args.ops.now) (sym is) ∙ c.in_ok-run.ensures.run in
    let other : IsUnlike profile virtual.picture c.args.bound c.args.ops.now c.run.new.spare = subst (λ (picture : PictureView). IsUnlike profile picture c.args.bound c.args.ops.now c.run.new.spare) c.requires.update.picture c.in_err-compare.ensures.unlike in
    let none : IsNoSurePlan profile memory virtual c.args.bound c.args.ops.now = λ may whole sure. unlike_is_no_plan c.run_laws.ensures profile virtual c.size-wanted.ensures.screen.picture memory may c.args.bound whole c.args.ops.now c.run.new.spare run other sure.plan in
    on_err _ none
