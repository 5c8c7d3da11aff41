use Rattle.std.proofs.Common.{ap, arith, subst, sym, true, IfSome, Some, ◌≡◌, ◌∙◌}
use Rattle.scr_cells.specs.Grids.{IsGrid}
use Rattle.scr_cells.specs.PictureViews.{PictureView}
use Rattle.scr_memory.specs.Memories.{MayBe, MemoryView, all_followed, is_known}
use Rattle.scr_memory.specs.Spares.{are_sure}
use Rattle.scr_term.specs.declared.operations.operation.Spot.TheVariants.{At}
use Rattle.scr_term.specs.Operations.Profiles.{abilities}
use Rattle.scr_plan.proofs.CheckingLaws.{all_compared, marked_is_of, on_err, unlike_is_no_plan}
use Rattle.scr_plan.proofs.RememberedPlanLaws.{agrees_itself}
use Rattle.scr_plan.proofs.PlanLaws.{state_of}
use Rattle.scr_plan.proofs.SureLaws.{sure_plan}
use Rattle.scr_plan.specs.Checks.{IsNoSurePlan, IsUnlike, ShowsMarked}
use Rattle.scr_plan.proofs.scenes.Update.check_surely.Goals as goal

pub returns-clause-plan : goal.returns-clause-plan
returns-clause-plan c =
    let profile = c.args.self.now.scene.profile.now in
    let memory = c.args.self.now.memory.now in
    let virtual = c.args.self.now.wanted.now in
    let update = c.requires.update in
    let ops = c.args.ops.now in
    let tried = c.follow.new.spare in
    let sure : are_sure profile ops memory ≡ true = ap (are_sure profile ops) (sym c.requires.begun) ∙ c.in_ok-follow.ensures.sure in
    let is : tried.memory ≡ all_followed profile ops memory = c.in_ok-follow.ensures.followed ∙ ap (all_followed profile ops) c.requires.begun in
    let picture_rows : tried.memory.rows ≡ virtual.picture.rows = c.follow.ensures.rows ∙ ap (λ (m : MemoryView). m.rows) c.requires.begun ∙ update.size.rows in
    let picture_columns : tried.memory.columns ≡ virtual.picture.columns = c.follow.ensures.columns ∙ ap (λ (m : MemoryView). m.columns) c.requires.begun ∙ update.size.columns in
    let rows : tried.memory.rows ≡ profile.rows = picture_rows ∙ update.fits.rows in
    let columns : tried.memory.columns ≡ profile.columns = picture_columns ∙ update.fits.columns in
    let whole : IsGrid tried.memory.rows tried.memory.columns tried.memory.state.grid = subst (λ (m : MemoryView). IsGrid m.rows m.columns m.state.grid) c.memory.ensures.memory c.size-spare.ensures.memory.state.whole in
    let grid : IsGrid profile.rows profile.columns tried.memory.state.grid =
    subst (λ rows. IsGrid rows profile.columns tried.memory.state.grid) rows (subst (λ columns. IsGrid tried.memory.rows columns tried.memory.state.grid) columns whole) in
    let known : is_known tried.memory ≡ true = ap is_known (sym c.memory-2.ensures.memory) ∙ sym c.known.ensures ∙ c.if-not-known.false in
    let shown : ShowsMarked profile tried virtual.picture = subst (ShowsMarked profile tried) update.picture c.in_ok-compare.ensures.alike.shown in
    let may : MayBe (abilities profile) memory = record {
      state = state_of profile memory c.size-memory.ensures.memory (update.size.rows ∙ update.fits.rows) (update.size.columns ∙ update.fits.columns) c.requires.pen;
      high = update.size.known_rows ∙ update.fits.rows;
    } in
    let led = c.spare_laws.ensures.sure profile c.size-profile.ensures.profile ops memory may sure memory.state (agrees_itself (abilities profile) memory may) in
    let within = c.in_ok-compare.ensures.alike.within (c.run_laws.ensures.had profile memory.state led.0 ops led.1) in
    sure_plan c.run_laws.ensures c.spare_laws.ensures c.known_memories.ensures c.memory_runs.ensures c.grid_laws.ensures profile c.size-profile.ensures.profile virtual c.size-wanted.ensures.screen.picture update.fits
    memory may c.requires.calm ops tried.memory sure is known grid
    (all_compared profile virtual.picture tried picture_rows picture_columns c.follow.ensures.marked shown)
    (subst (λ (picture : PictureView). IfSome picture.wish (λ wish. tried.memory.state.spot ≡ At wish.0 wish.1)) update.picture c.in_ok-compare.ensures.alike.placed)
    c.requires.few (omega (arith, within, c.requires.bound))

pub returns-in_err-follow-clause-of : goal.returns-in_err-follow-clause-of
returns-in_err-follow-clause-of c =
    marked_is_of c.args.self.now.memory.now c.follow.new.spare c.follow.ensures.sizes.rows c.follow.ensures.sizes.columns
    (c.follow.ensures.rows ∙ ap (λ (m : MemoryView). m.rows) c.requires.begun) (c.follow.ensures.columns ∙ ap (λ (m : MemoryView). m.columns) c.requires.begun) c.follow.ensures.marked

pub returns-in_err-compare-clause-exact : goal.returns-in_err-compare-clause-exact
returns-in_err-compare-clause-exact c =
    let profile = c.args.self.now.scene.profile.now in
    let memory = c.args.self.now.memory.now in
    let virtual = c.args.self.now.wanted.now in
    let ops = c.args.ops.now in
    let tried = c.follow.new.spare in
    let sure : are_sure profile ops memory ≡ true = ap (are_sure profile ops) (sym c.requires.begun) ∙ c.in_ok-follow.ensures.sure in
    let is : tried.memory ≡ all_followed profile ops memory = c.in_ok-follow.ensures.followed ∙ ap (all_followed profile ops) c.requires.begun in
    let other : IsUnlike profile virtual.picture c.args.bound ops tried = subst (λ (picture : PictureView). IsUnlike profile picture c.args.bound ops tried) c.requires.update.picture c.in_err-compare.ensures.unlike in
    let none : IsNoSurePlan profile memory virtual c.args.bound ops = λ may whole plan.
    let led = c.spare_laws.ensures.sure profile c.size-profile.ensures.profile ops memory may sure memory.state (agrees_itself (abilities profile) memory may) in
    let state : led.0 ≡ tried.memory.state = sym (ap (λ (m : MemoryView). m.state) is ∙ c.memory_runs.ensures.state profile memory led.0 ops led.1) in
    unlike_is_no_plan c.run_laws.ensures profile virtual c.size-wanted.ensures.screen.picture memory may c.args.bound whole ops tried (led.1 ∙ ap Some state) other plan.plan in
    on_err _ none
