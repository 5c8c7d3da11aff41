-- Beginning and ending a program's use of a screen: what is sent, and what an error leaves. X/Open Curses Issue 7,
-- initscr(), endwin(); terminfo(5), 'Cursor Motions' and 'Keypad and Function Keys'.
use Rattle.std.specs.Prelude.{ℕ, ◌≡◌, ◌≢◌, ◌≤◌, ◌-◌, ◌⊎◌, true, List, [], ◌∷◌, ◌++◌, length, take, Some}
use Rattle.scr_cells.specs.PenViews.{plain_pen}
use Rattle.scr_term.specs.declared.operations.operation.Op.{Op}
use Rattle.scr_term.specs.declared.operations.operation.Op.TheVariants.{Move}
use Rattle.scr_term.specs.declared.operations.operation.Spot.TheVariants.{At}
use Rattle.scr_term.specs.Ecma.Meanings.{Leads}
use Rattle.scr_term.specs.Operations.Admission.{IsEcma48}
use Rattle.scr_term.specs.Operations.Profiles.{ProfileView, IsProfile, abilities}
use Rattle.scr_term.specs.Operations.States.{TerminalState, IsState, negative_state}
use Rattle.scr_term.specs.Operations.Steps.{runs}
use Rattle.scr_term.specs.Operations.Texts.{all_bytes}
use Rattle.scr_memory.specs.Memories.{forgotten}
use Rattle.scr_plan.specs.Scratch.{resets}
use Rattle.curses.specs.Cuts.{IsCut}
use Rattle.curses.specs.declared.faults.SendFault.{SendFault}
use Rattle.curses.specs.declared.faults.SendFault.TheVariants.{Flush, Write}
use Rattle.curses.specs.ScreenStates.{ScreenState}
use Rattle.curses.specs.Updates.{IsDefined, IsOfOneText}
use Rattle.curses.specs.Writers.{IsFinishFailed, IsFinished, WriterView, counted}

-- ---- the operations in front of the closing text

-- Attributes off and default colours, then the cursor to the start of the last line.
abbrev pub closing_ops : ProfileView → List Op
closing_ops profile = resets profile ++ Move (profile.rows - 1) 0 ∷ []

-- The state of the terminal after them.
abbrev pub closed_state : ProfileView → TerminalState → TerminalState
closed_state profile state = record state { spot = At (profile.rows - 1) 0; pen = plain_pen }

-- From this state the operations are defined and lead to `closed_state`, and each beginning of them is defined too. On
-- the bundled ECMA-48 entry their bytes lead there.
pub record ClosesPlain (profile : ProfileView) (state : TerminalState) : Type 0 where
  pub run : runs profile state (closing_ops profile) ≡ Some (closed_state profile state)
  pub beginnings : (k : ℕ) → IsDefined profile state (take k (closing_ops profile))
  pub leads : IsEcma48 profile → Leads profile.charset profile.rows profile.columns (negative_state state) (all_bytes profile (closing_ops profile)) (negative_state (closed_state profile state))

-- This holds from every state of a profile.
abbrev pub AlwaysClosesPlain : ProfileView → Type 0
AlwaysClosesPlain profile = (state : TerminalState) → IsState (abilities profile) state → ClosesPlain profile state

-- This holds for every profile.
abbrev pub ClosingLaws : Type 0
ClosingLaws = (profile : ProfileView) → IsProfile profile → AlwaysClosesPlain profile

-- ---- operations, and a text after them

-- What was owed, the texts of the operations and the text were all accepted.
pub record AreSent (profile : ProfileView) (ops : List Op) (text owed : List ℕ) (old new : WriterView) (count : ℕ) (rest : List ℕ) : Type 0 where
  pub cut : IsCut owed (all_bytes profile ops ++ text) old.taken new.taken count rest
  pub nothing : rest ≡ []
  pub puts : new.failed_puts ≡ old.failed_puts

-- A write failed: that of the last of the first `begun` operations or, if `begun` is 0, of what was owed before.
-- Nothing after it was begun.
pub record IsCutInOps (profile : ProfileView) (ops : List Op) (owed : List ℕ) (old new : WriterView) (count : ℕ) (rest : List ℕ) : Type 0 where
  pub begun : ℕ
  pub cut : IsCut owed (all_bytes profile (take begun ops)) old.taken new.taken count rest
  pub one : IsOfOneText profile owed (take begun ops) rest

-- The write of the text failed.
pub record IsCutInText (profile : ProfileView) (ops : List Op) (text owed : List ℕ) (old new : WriterView) (count : ℕ) (rest : List ℕ) : Type 0 where
  pub cut : IsCut owed (all_bytes profile ops ++ text) old.taken new.taken count rest
  pub one : length rest ≤ length text

-- In both cases the rest of the text being written is owed, and one more failed put is counted.
pub record IsStopped (profile : ProfileView) (ops : List Op) (text owed : List ℕ) (old new : WriterView) (count : ℕ) (rest : List ℕ) : Type 0 where
  pub place : IsCutInOps profile ops owed old new count rest ⊎ IsCutInText profile ops text owed old new count rest
  pub something : rest ≢ []
  pub puts : new.failed_puts ≡ counted true old.failed_puts
  pub finishes : new.finishes ≡ old.finishes

-- What was sent, if the call succeeded.
abbrev pub AfterSending : ProfileView → List Op → List ℕ → List ℕ → WriterView → WriterView → ℕ → List ℕ → Type 0
AfterSending profile ops text owed old new count rest =
    AreSent profile ops text owed old new count rest × IsFinished count old new

-- What was sent, if a write or the flush failed.
abbrev pub AfterSendFault : ProfileView → List Op → List ℕ → List ℕ → WriterView → WriterView → SendFault → List ℕ → Type 0
AfterSendFault profile ops text owed old new (Write sent kind) rest = IsStopped profile ops text owed old new sent rest
AfterSendFault profile ops text owed old new (Flush sent kind) rest =
    AreSent profile ops text owed old new sent rest × IsFinishFailed old new

-- ---- of a screen

-- Operations and a text were sent whole, `count` bytes with what was owed before. Nothing is owed, nothing is known of
-- the terminal any more, and everything else of the screen stays.
pub record HasSent (ops : List Op) (text : List ℕ) (old new : ScreenState) (before after : WriterView) (count : ℕ) : Type 0 where
  pub sent : AfterSending old.profile ops text old.owed before after count new.owed
  pub screen : new ≡ record old { memory = forgotten old.memory; owed = [] }

-- The sending failed: the rest of a failed write is owed, nothing is known of the terminal any more, and everything
-- else of the screen stays.
pub record HasNotSent (ops : List Op) (text : List ℕ) (old new : ScreenState) (before after : WriterView) (fault : SendFault) : Type 0 where
  pub fault_told : AfterSendFault old.profile ops text old.owed before after fault new.owed
  pub screen : new ≡ record old { memory = forgotten old.memory; owed = new.owed }

-- The opening text was sent.
abbrev pub IsStarted : ScreenState → ScreenState → WriterView → WriterView → ℕ → Type 0
IsStarted old new before after count = HasSent [] old.opening old new before after count

-- Sending the opening text failed.
abbrev pub IsNotStarted : ScreenState → ScreenState → WriterView → WriterView → SendFault → Type 0
IsNotStarted old new before after fault = HasNotSent [] old.opening old new before after fault

-- The closing operations and then the closing text were sent.
abbrev pub IsClosed : ScreenState → ScreenState → WriterView → WriterView → ℕ → Type 0
IsClosed old new before after count = HasSent (closing_ops old.profile) old.closing old new before after count

-- Sending the closing operations or the closing text failed.
abbrev pub IsNotClosed : ScreenState → ScreenState → WriterView → WriterView → SendFault → Type 0
IsNotClosed old new before after fault = HasNotSent (closing_ops old.profile) old.closing old new before after fault
