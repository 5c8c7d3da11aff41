-- What a screen remembers of its terminal goes on to hold.
use Rattle.std.proofs.Common.{◌≡◌, ℕ, ap, refl, sym, ◌∙◌, List}
use Rattle.scr_term.specs.declared.operations.operation.Op.{Op}
use Rattle.scr_term.specs.Operations.Profiles.{ProfileView, IsProfile, abilities}
use Rattle.scr_cells.specs.PictureViews.{IsPicture}
use Rattle.scr_memory.specs.Memories.{MayBe, MemoryLaws, MemoryView, all_followed, disturbed, forgotten, remembered, unknown}
use Rattle.scr_memory.specs.MemoryRuns.{KnownMemories, MemoryRuns}
use Rattle.scr_memory.specs.Spares.{IsReady, SpareView}
use Rattle.scr_plan.specs.Checks.{IsAhead}
use Rattle.scr_plan.specs.Plans.{IsPlan, UpToDateLaws}
use Rattle.scr_plan.specs.Scratch.{Fits}
use Rattle.scr_virtual.specs.Laws.{HoldsChanges}
use Rattle.scr_virtual.specs.VirtualViews.{VirtualView, settled}
use Rattle.curses.specs.ScreenStates.{IsRemembered}

-- another virtual screen, whose ranges hold what has changed
pub remembers_held : UpToDateLaws → (profile : ProfileView) (memory : MemoryView) (old new : VirtualView) → IsRemembered profile memory old → HoldsChanges old new
    → new.picture.rows ≡ old.picture.rows → new.picture.columns ≡ old.picture.columns → IsRemembered profile memory new
remembers_held laws profile memory old new is changes rows columns = record {
  fits = record { rows = rows ∙ is.fits.rows; columns = columns ∙ is.fits.columns };
  size = record { rows = is.size.rows ∙ sym rows; columns = is.size.columns ∙ sym columns; known_rows = is.size.known_rows ∙ sym rows };
  possible = is.possible;
  same = laws.holds profile memory old new changes rows columns is.same;
}

-- less is remembered, since others wrote
pub remembers_disturbed : UpToDateLaws → MemoryLaws → (profile : ProfileView) (memory : MemoryView) (virtual : VirtualView) (first n : ℕ) → IsRemembered profile memory virtual
    → IsRemembered profile (disturbed first n memory) virtual
remembers_disturbed laws memories profile memory virtual first n is =
    let may = memories.disturbed_possible (abilities profile) memory first n is.possible in
    record {
      fits = is.fits;
      size = record { rows = is.size.rows; columns = is.size.columns; known_rows = may.high ∙ sym is.fits.rows };
      possible = may;
      same = laws.disturbs profile memory virtual first n is.same;
    }

-- or nothing is
pub remembers_nothing : UpToDateLaws → MemoryLaws → (profile : ProfileView) (memory : MemoryView) (virtual : VirtualView) → IsRemembered profile memory virtual → IsRemembered profile (forgotten memory) virtual
remembers_nothing laws memories profile memory virtual is =
    let may = memories.forgotten_possible (abilities profile) memory is.possible in
    record {
      fits = is.fits;
      size = record { rows = is.size.rows; columns = is.size.columns; known_rows = may.high ∙ sym is.fits.rows };
      possible = may;
      same = laws.forgets profile memory virtual;
    }

-- the spare is as before then
pub ready_disturbed : (memory : MemoryView) (first n : ℕ) (spare : SpareView) → IsReady memory spare → IsReady (disturbed first n memory) spare
ready_disturbed memory first n spare is = record { rows = is.rows; columns = is.columns; grid = is.grid; none = is.none }

pub ready_forgotten : (memory : MemoryView) (spare : SpareView) → IsReady memory spare → IsReady (forgotten memory) spare
ready_forgotten memory spare is = record { rows = is.rows; columns = is.columns; grid = is.grid; none = is.none }

-- a plan was sent
pub remembers_followed : UpToDateLaws → MemoryRuns → (profile : ProfileView) → IsProfile profile → (memory : MemoryView) (virtual : VirtualView) (ops : List Op) → IsPicture virtual.picture → IsRemembered profile memory virtual
    → IsPlan profile memory virtual ops → IsRemembered profile (all_followed profile ops memory) (settled virtual)
remembers_followed laws runs profile p memory virtual ops k is plan =
    let may = runs.stays_possible profile p memory ops is.possible in
    record {
      fits = is.fits;
      size = record { rows = runs.rows profile memory ops ∙ is.size.rows; columns = runs.columns profile memory ops ∙ is.size.columns; known_rows = may.high ∙ sym is.fits.rows };
      possible = may;
      same = laws.follows profile memory virtual ops is.possible k plan;
    }

-- a spare that is ahead by operations shows what is remembered after them
pub followed_ahead : MemoryRuns → KnownMemories → (profile : ProfileView) → IsProfile profile → (memory : MemoryView) (ops : List Op) (spare : SpareView) → memory.rows ≡ profile.rows → memory.columns ≡ profile.columns
    → MayBe (abilities profile) memory → IsAhead profile memory ops spare → all_followed profile ops memory ≡ remembered memory.rows memory.columns spare.memory.state
followed_ahead runs known profile p memory ops spare rows columns may is =
    let after = all_followed profile ops memory in
    let later = runs.stays_possible profile p memory ops may in
    let high = runs.rows profile memory ops in
    let wide = runs.columns profile memory ops in
    known.all (abilities profile) after later.state.whole after.state (record { is_state = later.state; high = later.high; rows = λ r h k. refl; spot = λ k. refl; pen = λ k. refl }) is.known (high ∙ rows) (wide ∙ columns)
    ∙ ap (λ s. remembered profile.rows profile.columns s) is.state ∙ ap (λ r. remembered r profile.columns spare.memory.state) (sym rows) ∙ ap (λ c. remembered memory.rows c spare.memory.state) (sym columns)

-- at first
pub remembers_at_first : UpToDateLaws → MemoryRuns → (profile : ProfileView) → IsProfile profile → (virtual : VirtualView) → Fits profile virtual.picture
    → IsRemembered profile (unknown profile.rows profile.columns) virtual
remembers_at_first laws runs profile p virtual fits =
    let may = runs.possible_at_first profile p in
    record {
      fits = fits;
      size = record { rows = sym fits.rows; columns = sym fits.columns; known_rows = may.high ∙ sym fits.rows };
      possible = may;
      same = laws.at_first profile profile.rows profile.columns virtual;
    }
