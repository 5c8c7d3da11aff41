-- An update: what it sends, what the terminal shows after it, and what an error leaves. curs_refresh(3X), doupdate();
-- X/Open Curses Issue 7, doupdate().
use Rattle.std.specs.Prelude.{ℕ, ◌≡◌, ◌≢◌, ◌≤◌, true, List, [], ◌∷◌, length, take, Some}
use Rattle.scr_term.specs.declared.operations.operation.Op.{Op}
use Rattle.scr_term.specs.Operations.Profiles.{ProfileView, abilities}
use Rattle.scr_term.specs.Operations.States.{TerminalState, IsState}
use Rattle.scr_term.specs.Operations.Steps.{runs}
use Rattle.scr_term.specs.Operations.Texts.{all_bytes, bytes_of}
use Rattle.scr_memory.specs.Memories.{Agrees, MayBe, MemoryView, all_followed, forgotten, is_known}
use Rattle.scr_plan.specs.Plans.{IsPlan}
use Rattle.curses.specs.Cuts.{IsCut}
use Rattle.curses.specs.Writers.{IsFinishFailed, IsFinished, WriterView, counted}
use Rattle.scr_virtual.specs.VirtualViews.{VirtualView, settled}
use Rattle.curses.specs.declared.faults.Sent.{Sent}
use Rattle.curses.specs.ScreenStates.{ScreenState}
use Rattle.curses.specs.declared.faults.UpdateFault.{UpdateFault}
use Rattle.curses.specs.declared.faults.UpdateFault.TheVariants.{NoMemory, Write, Flush}

-- From this state the operations are all defined, and they lead to a state of the profile.
pub record IsDefined (profile : ProfileView) (old : TerminalState) (ops : List Op) : Type 0 where
  pub new : TerminalState
  pub run : runs profile old ops ≡ Some new
  pub state : IsState (abilities profile) new

-- The rest still owed is no longer than one text: that of the last operation begun or, if none was begun, what was owed
-- before.
abbrev pub IsOfOneText : ProfileView → List ℕ → List Op → List ℕ → Type 0
IsOfOneText profile owed [] rest = length rest ≤ length owed
IsOfOneText profile owed (op ∷ []) rest = length rest ≤ length (bytes_of profile op)
IsOfOneText profile owed (op ∷ next ∷ ops) rest = IsOfOneText profile owed (next ∷ ops) rest

-- What an update sent: what was owed, then the texts of the operations that it began, as far as the writer accepted
-- them. At most one text is owed after it. The operations are defined from every state of the terminal that agrees with
-- what was known of it.
pub record IsSent (profile : ProfileView) (memory : MemoryView) (owed : List ℕ) (old new : WriterView) (begun : List Op) (count : ℕ) (rest : List ℕ) : Type 0 where
  pub cut : IsCut owed (all_bytes profile begun) old.taken new.taken count rest
  pub one : IsOfOneText profile owed begun rest
  pub defined : (state : TerminalState) → Agrees (abilities profile) memory state → IsDefined profile state begun

-- A successful update: nothing is owed, no write or flush failed, and the operations are a plan, so they lead every
-- state that agrees to one that shows the picture and agrees with what is known then, which is everything. If a byte was
-- accepted, the writer was finished after it. What was remembered was a possible state of the terminal.
pub record IsUpdated (profile : ProfileView) (memory : MemoryView) (virtual : VirtualView) (owed : List ℕ) (old new : WriterView) (begun : List Op) (count : ℕ) (rest : List ℕ) : Type 0 where
  pub sent : IsSent profile memory owed old new begun count rest
  pub plan : IsPlan profile memory virtual begun
  pub possible : MayBe (abilities profile) memory
  pub known : is_known (all_followed profile begun memory) ≡ true
  pub nothing : rest ≡ []
  pub puts : new.failed_puts ≡ old.failed_puts
  pub finished : IsFinished count old new

-- These operations are the beginning of some plan.
pub record BeginsPlan (profile : ProfileView) (memory : MemoryView) (virtual : VirtualView) (begun : List Op) : Type 0 where
  pub plan : List Op
  pub is : IsPlan profile memory virtual plan
  pub begins : begun ≡ take (length begun) plan

-- An update whose write failed. It began the first operations of a plan; the write that failed was that of the last of
-- them or, if none was begun, of what was owed before. The rest of that text is owed.
pub record IsCutShort (profile : ProfileView) (memory : MemoryView) (virtual : VirtualView) (owed : List ℕ) (old new : WriterView) (begun : List Op) (count : ℕ) (rest : List ℕ) : Type 0 where
  pub sent : IsSent profile memory owed old new begun count rest
  pub begins : BeginsPlan profile memory virtual begun
  pub something : rest ≢ []
  pub puts : new.failed_puts ≡ counted true old.failed_puts
  pub finishes : new.finishes ≡ old.finishes

-- An update that sent a whole plan, but whose flush failed.
pub record IsUnfinished (profile : ProfileView) (memory : MemoryView) (virtual : VirtualView) (owed : List ℕ) (old new : WriterView) (begun : List Op) (count : ℕ) (rest : List ℕ) : Type 0 where
  pub sent : IsSent profile memory owed old new begun count rest
  pub plan : IsPlan profile memory virtual begun
  pub nothing : rest ≡ []
  pub puts : new.failed_puts ≡ old.failed_puts
  pub finished : IsFinishFailed old new

-- What each error says about what was sent; if memory ran out, nothing was.
abbrev pub AfterFault : ProfileView → MemoryView → VirtualView → List ℕ → WriterView → WriterView → UpdateFault → List ℕ → Type 0
AfterFault profile memory virtual owed old new NoMemory rest = (rest ≡ owed) × (new ≡ old)
AfterFault profile memory virtual owed old new (Write begun sent kind) rest = IsCutShort profile memory virtual owed old new begun sent rest
AfterFault profile memory virtual owed old new (Flush begun sent kind) rest = IsUnfinished profile memory virtual owed old new begun sent rest

-- The operations begun before the error.
abbrev pub begun_before : UpdateFault → List Op
begun_before NoMemory = []
begun_before (Write begun sent kind) = begun
begun_before (Flush begun sent kind) = begun

-- If a repaint of the whole screen was requested, the operations begun are defined from every state of the profile.
abbrev pub IsDefinedAnew : ProfileView → VirtualView → List Op → Type 0
IsDefinedAnew profile virtual begun = virtual.repaint ≡ true → (state : TerminalState) → IsState (abilities profile) state → IsDefined profile state begun

-- What is known of the terminal after an error: nothing, unless memory ran out, which leaves it as it was.
abbrev pub memory_after : UpdateFault → MemoryView → MemoryView
memory_after NoMemory memory = memory
memory_after (Write begun sent kind) memory = forgotten memory
memory_after (Flush begun sent kind) memory = forgotten memory

-- ---- of a screen

-- A successful update of a screen: windows and picture stay, nothing is marked for repainting any more, and what is
-- known of the terminal has followed the operations.
pub record IsShown (old new : ScreenState) (before after : WriterView) (sent : Sent) : Type 0 where
  pub updated : IsUpdated old.profile old.memory old.virtual old.owed before after sent.begun sent.bytes new.owed
  pub screen : new ≡ record old { virtual = settled old.virtual; memory = all_followed old.profile sent.begun old.memory; owed = [] }

-- A failed update: windows and virtual screen stay as they were. Only what is known of the terminal and what is owed
-- may change.
pub record IsFailed (old new : ScreenState) (before after : WriterView) (fault : UpdateFault) : Type 0 where
  pub fault_told : AfterFault old.profile old.memory old.virtual old.owed before after fault new.owed
  pub screen : new ≡ record old { memory = memory_after fault old.memory; owed = new.owed }
