-- A second terminal, on which operations are tried before they are sent. curs_refresh(3X), doupdate().
use Rattle.std.specs.Prelude.{ℕ, ◌≡◌, ◌<◌, ◌&&◌, ◌||◌, not, Bool, true, false, List, [], ◌∷◌, Some}
use Rattle.std.specs.Option.{is_some}
use Rattle.scr_term.specs.declared.operations.capability.Capability.TheVariants.{Sgr0}
use Rattle.scr_term.specs.declared.operations.operation.Op.{Op}
use Rattle.scr_term.specs.declared.operations.operation.Op.TheVariants.{Reset}
use Rattle.scr_term.specs.Operations.Profiles.{ProfileView, IsProfile, abilities, is_there}
use Rattle.scr_term.specs.Operations.States.{TerminalState}
use Rattle.scr_term.specs.Operations.Steps.{runs, step}
use Rattle.scr_terminal.specs.Marks.{AreNone, DifferInMarks, HasMarked, MarksView, is_marked}
use Rattle.scr_memory.specs.Memories.{Agrees, MayBe, MemoryView, followed, has_one_pen, places_spot}

-- What the tried operations led to, with how much of it is known; and the marked places.
pub record SpareView : Type 0 where
  pub memory : MemoryView
  pub marks : MarksView

-- Valid marks of a screen of the same size.
pub record IsSpare (spare : SpareView) : Type 0 where
  pub rows : spare.marks.rows ≡ spare.memory.rows
  pub columns : spare.marks.columns ≡ spare.memory.columns

-- The spare is that of a memory: it is of the same size, and shows what is remembered except in marked places.
pub record IsSpareOf (memory : MemoryView) (spare : SpareView) : Type 0 where
  pub rows : spare.memory.rows ≡ memory.rows
  pub columns : spare.memory.columns ≡ memory.columns
  pub same : DifferInMarks spare.marks spare.memory.state.grid memory.state.grid

-- The spare shows what is remembered in every place, and nothing is marked.
pub record IsReady (memory : MemoryView) (spare : SpareView) : Type 0 where
  pub rows : spare.memory.rows ≡ memory.rows
  pub columns : spare.memory.columns ≡ memory.columns
  pub grid : spare.memory.state.grid ≡ memory.state.grid
  pub none : AreNone spare.marks

-- Operations were executed on the spare: what they changed is marked.
pub record HasTried (old new : SpareView) : Type 0 where
  pub rows : new.memory.rows ≡ old.memory.rows
  pub columns : new.memory.columns ≡ old.memory.columns
  pub high : new.marks.rows ≡ old.marks.rows
  pub wide : new.marks.columns ≡ old.marks.columns
  pub marks : HasMarked old.memory.state.grid new.memory.state.grid old.marks new.marks

-- Every place of the screen is marked.
abbrev pub IsAllMarked : SpareView → Type 0
IsAllMarked spare = (r c : ℕ) → r < spare.memory.rows → c < spare.memory.columns → is_marked spare.marks r c ≡ true

-- The operation turns attributes off, in default colours.
abbrev pub is_reset : Op → Bool
is_reset Reset = true
is_reset op = false

-- The terminal has only one pen, and nothing that turns attributes off.
abbrev pub needs_no_reset : ProfileView → Bool
needs_no_reset profile = has_one_pen (abilities profile) && not (is_there profile Sgr0)

-- What the operation needs is known: the pen, unless there is only one and nothing to turn off, and, unless the operation
-- places the cursor, the cursor's position. Reset needs nothing.
abbrev pub is_sure : ProfileView → MemoryView → Op → Bool
is_sure profile memory op = is_reset op || ((memory.known_pen || needs_no_reset profile) && (memory.known_spot || places_spot op))

-- Each operation needs only what is known when it comes, and is defined from the remembered state.
abbrev pub are_sure : ProfileView → List Op → MemoryView → Bool
are_sure profile [] memory = true
are_sure profile (op ∷ ops) memory = (is_sure profile memory op && is_some (step profile memory.state op)) && are_sure profile ops (followed profile op memory)

-- A spare that shows what is remembered is the memory's, and stays ready where the memory changes but for what it shows.
-- Operations that need only what is known are defined from every state that agrees.
pub record SpareLaws : Type 0 where
  pub of : (memory : MemoryView) (spare : SpareView) → IsReady memory spare → IsSpareOf memory spare
  pub still : (memory less : MemoryView) (spare : SpareView) → less.rows ≡ memory.rows → less.columns ≡ memory.columns → less.state.grid ≡ memory.state.grid → IsReady memory spare → IsReady less spare
  pub sure : (profile : ProfileView) → IsProfile profile → (ops : List Op) (memory : MemoryView) → MayBe (abilities profile) memory → are_sure profile ops memory ≡ true
      → (old : TerminalState) → Agrees (abilities profile) memory old → (new : TerminalState) × (runs profile old ops ≡ Some new)
