-- What the count of the bytes of a bound stands on: the terminal has each of its operations.
use Rattle.std.proofs.Common.{ℕ, refl, ◌≡◌, Bool, true, List, All}
use Rattle.scr_cells.specs.Grids.{IsGrid}
use Rattle.scr_cells.specs.PictureViews.{PictureView, IsPicture}
use Rattle.scr_term.specs.Operations.Laws.{RunLaws}
use Rattle.scr_term.specs.Operations.Profiles.{ProfileView, IsProfile, abilities}
use Rattle.scr_term.specs.Operations.Texts.{has}
use Rattle.scr_memory.specs.Memories.{Agrees, MayBe, MemoryView, is_known}
use Rattle.scr_plan.specs.Repaints.{JoinedShows, joined_of}
use Rattle.scr_plan.specs.Scratch.{Fits}

-- The remembered state agrees with what is remembered.
agrees_itself : (profile : ProfileView) (memory : MemoryView) → MayBe (abilities profile) memory → Agrees (abilities profile) memory memory.state
agrees_itself profile memory may = record {
  is_state = may.state;
  high = may.high;
  rows = λ r low known. refl;
  spot = λ known. refl;
  pen = λ known. refl;
}

pub joined_had : JoinedShows → RunLaws → (profile : ProfileView) → IsProfile profile → (picture : PictureView) → IsPicture picture → Fits profile picture
    → (memory : MemoryView) → IsGrid profile.rows profile.columns memory.state.grid → MayBe (abilities profile) memory → is_known memory ≡ true
    → All (λ op. has profile op ≡ true) (joined_of profile memory picture)
joined_had law runs profile is picture p fits memory grid may known =
    let shows = law.joined profile is picture p fits memory grid memory.state (agrees_itself profile memory may) known in
    runs.had profile memory.state shows.new (joined_of profile memory picture) shows.run
