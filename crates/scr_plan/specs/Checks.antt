-- What a check of operations lets through before they are sent. curs_refresh(3X), doupdate().
use Rattle.std.specs.Prelude.{ℕ, ◌≡◌, ◌<◌, ◌≤◌, ◌-◌, ◌^◌, ◌⊎◌, ◌++◌, Bool, true, false, List, [], ◌∷◌, All, IfSome, length}
use Rattle.scr_cells.specs.Grids.{grid_at}
use Rattle.scr_cells.specs.LookViews.{blank}
use Rattle.scr_cells.specs.PictureViews.{PictureView}
use Rattle.scr_term.specs.declared.operations.operation.Op.{Op}
use Rattle.scr_term.specs.declared.operations.operation.Op.TheVariants.{Clear}
use Rattle.scr_term.specs.declared.operations.operation.Spot.TheVariants.{At}
use Rattle.scr_term.specs.Operations.Profiles.{ProfileView, abilities}
use Rattle.scr_term.specs.Operations.Texts.{all_bytes, has}
use Rattle.scr_terminal.specs.Marks.{MarksView, is_marked}
use Rattle.scr_memory.specs.Memories.{MayBe, MemoryView, all_followed, is_known}
use Rattle.scr_memory.specs.Spares.{IsReady, IsSpareOf, SpareView, are_sure}
use Rattle.scr_virtual.specs.VirtualViews.{VirtualView}
use Rattle.scr_plan.specs.Plans.{IsPlan, bound_of}
use Rattle.scr_plan.specs.Scratch.{look_at, resets}

-- The operations turn attributes off, where the terminal can, clear the screen, and go on.
abbrev pub BeginsAnew : ProfileView → List Op → Type 0
BeginsAnew profile ops = (more : List Op) × (ops ≡ resets profile ++ Clear ∷ [] ++ more)

-- A plan that can be seen to be one. If the whole screen is to be painted anew, it begins with the clear. Otherwise, if not
-- all is known, it begins so too, or each of its operations needs only what is known when it comes.
pub record IsSurePlan (profile : ProfileView) (memory : MemoryView) (virtual : VirtualView) (ops : List Op) : Type 0 where
  pub plan : IsPlan profile memory virtual ops
  pub anew : virtual.repaint ≡ true → BeginsAnew profile ops
  pub sure : virtual.repaint ≡ false → is_known memory ≡ false → BeginsAnew profile ops ⊎ (are_sure profile ops memory ≡ true)

-- The bound is that of a plan, and below the greatest number.
pub record IsWholeBound (profile : ProfileView) (memory : MemoryView) (virtual : VirtualView) (bound : ℕ) : Type 0 where
  pub all : bound ≡ length (all_bytes profile (bound_of profile memory virtual))
  pub less : bound < 2 ^ 64 - 1

-- The operations are no plan that can be seen to be one, where the remembered state is possible and the bound is the
-- whole one.
abbrev pub IsNoSurePlan : ProfileView → MemoryView → VirtualView → ℕ → List Op → Type 0
IsNoSurePlan profile memory virtual bound ops =
    MayBe (abilities profile) memory → IsWholeBound profile memory virtual bound → IsSurePlan profile memory virtual ops → ⊥

-- The operations are no plan that can be seen to be one, where its bound is below the greatest number.
abbrev pub IsUnlikely : ProfileView → MemoryView → VirtualView → List Op → Type 0
IsUnlikely profile memory virtual ops =
    length (all_bytes profile (bound_of profile memory virtual)) < 2 ^ 64 - 1 → IsSurePlan profile memory virtual ops → ⊥

-- The spare is ahead of the memory by these operations: it shows what is remembered after them, and all is known then.
pub record IsAhead (profile : ProfileView) (memory : MemoryView) (ops : List Op) (spare : SpareView) : Type 0 where
  pub of : IsSpareOf memory spare
  pub state : (all_followed profile ops memory).state ≡ spare.memory.state
  pub known : is_known (all_followed profile ops memory) ≡ true

-- The spare is ahead by these operations; or there are none, and it shows what is remembered.
abbrev pub IsLed : ProfileView → MemoryView → List Op → SpareView → Type 0
IsLed profile memory ops spare = IsAhead profile memory ops spare ⊎ ((ops ≡ []) × IsReady memory spare)

-- What is remembered shows the picture in each place that is not marked.
abbrev pub ShowsUnmarked : ProfileView → MemoryView → VirtualView → MarksView → Type 0
ShowsUnmarked profile memory virtual marks =
    (r c : ℕ) → r < virtual.picture.rows → c < virtual.picture.columns → is_marked marks r c ≡ false → grid_at blank memory.state.grid r c ≡ look_at profile virtual.picture (r, c)

-- What was tried shows the picture in each marked place of a row; in each marked place.
abbrev pub ShowsMarkedIn : ProfileView → SpareView → PictureView → ℕ → Type 0
ShowsMarkedIn profile spare picture r = (c : ℕ) → c < picture.columns → is_marked spare.marks r c ≡ true → grid_at blank spare.memory.state.grid r c ≡ look_at profile picture (r, c)

abbrev pub ShowsMarked : ProfileView → SpareView → PictureView → Type 0
ShowsMarked profile spare picture = (r : ℕ) → r < picture.rows → ShowsMarkedIn profile spare picture r

-- It does not show the picture in some place.
abbrev pub MissesSome : ProfileView → SpareView → PictureView → Type 0
MissesSome profile spare picture =
    (r : ℕ) × (c : ℕ) × (r < picture.rows) × (c < picture.columns) × (grid_at blank spare.memory.state.grid r c ≡ look_at profile picture (r, c) → ⊥)

-- If the operations are counted, they have no more bytes than the bound, if the terminal has them all.
abbrev pub IsWithin : ProfileView → List Op → ℕ → Bool → Type 0
IsWithin profile ops bound counted = counted ≡ true → All (λ op. has profile op ≡ true) ops → length (all_bytes profile ops) ≤ bound

-- What was tried shows the picture in marked places, with the cursor where it is wanted, and the operations have no more
-- bytes than a bound, if the terminal has them all.
pub record IsAlike (profile : ProfileView) (picture : PictureView) (bound : ℕ) (ops : List Op) (spare : SpareView) : Type 0 where
  pub within : All (λ op. has profile op ≡ true) ops → length (all_bytes profile ops) ≤ bound
  pub shown : ShowsMarked profile spare picture
  pub placed : IfSome picture.wish (λ wish. spare.memory.state.spot ≡ At wish.0 wish.1)

-- It misses a place, the cursor is elsewhere, or there are more bytes.
abbrev pub IsUnlike : ProfileView → PictureView → ℕ → List Op → SpareView → Type 0
IsUnlike profile picture bound ops spare =
    MissesSome profile spare picture
    ⊎ (IfSome picture.wish (λ wish. spare.memory.state.spot ≡ At wish.0 wish.1) → ⊥)
    ⊎ (bound < 2 ^ 64 - 1 → All (λ op. has profile op ≡ true) ops → length (all_bytes profile ops) ≤ bound → ⊥)
