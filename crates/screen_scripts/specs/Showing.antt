-- What a run keeps true between lines, and what each line does. Definitions that only private functions use.
use Rattle.std.specs.Prelude.{ℕ, ◌≡◌, ◌≢◌, ◌++◌, not, Bool, true, false, List, [], ◌∷◌, map, option_map, Option, Some, None}
use Rattle.std.specs.List.{flat_map}
use Rattle.scr_cells.specs.declared.charsets.Charset.{Charset}
use Rattle.scr_cells.specs.PictureViews.{PictureView}
use Rattle.scr_term.specs.declared.operations.operation.Op.{Op}
use Rattle.scr_term.specs.Operations.Admission.{IsEcma48}
use Rattle.scr_term.specs.Operations.Ecma48.{ecma48_profile}
use Rattle.scr_term.specs.Operations.Profiles.{ProfileView, abilities}
use Rattle.scr_term.specs.Operations.States.{TerminalState, IsState, negative_state}
use Rattle.scr_term.specs.Operations.Steps.{runs}
use Rattle.scr_term.specs.Operations.Texts.{all_bytes}
use Rattle.scr_terminal.specs.Ecma.Screens.{ScreenView, IsScreen}
use Rattle.scr_memory.specs.Memories.{Agrees, MemoryView, all_followed, unknown}
use Rattle.scr_plan.specs.Plans.{IsPlan}
use Rattle.scr_plan.specs.Scratch.{RunsToShow}
use Rattle.scr_virtual.specs.VirtualViews.{VirtualView}
use Rattle.scr_windows.specs.declared.faults.WinFault.{WinFault}
use Rattle.scr_windows.specs.declared.faults.WinFault.TheVariants as faults
use Rattle.screen_sessions.specs.declared.answers.Answer.{Answer}
use Rattle.screen_sessions.specs.declared.answers.Answer.TheVariants as answers
use Rattle.screen_calls.specs.declared.calls.Call.{Call}
use Rattle.screen_sessions.specs.Making.{drawn_of}
use Rattle.curses.specs.ScreenStates.{ScreenState}
use Rattle.screen_sessions.specs.Sessions.{begun_of, marked_by, memory_marked}
use Rattle.screen_scripts.specs.Commands.{command_of}
use Rattle.screen_scripts.specs.declared.commands.Command.{Command}
use Rattle.screen_scripts.specs.declared.effects.Effects.{Effects}
use Rattle.screen_scripts.specs.declared.effects.Note.{Note}
use Rattle.screen_scripts.specs.declared.effects.Note.TheVariants as notes
use Rattle.screen_scripts.specs.declared.stages.Stage.{Stage as Playing}
use Rattle.screen_scripts.specs.Stories.{Event, Pressed, Refused, Shown, Stage, Outcome, continued, fault_name, first_stage, key_fault_name, line_outcome, made, mark_of, opened, refusal_of, size_in, updated}
use Rattle.screen_scripts.specs.Printing.{ArePlans, ArePrinted, IsScreenOf, key_line, pictures_of, refusal_line, refusals_of}

-- ---- what the run keeps true

-- The stage that corresponds to a screen.
abbrev pub stage_of : ScreenState → Stage
stage_of screen = record { drawn = drawn_of screen; keys = screen.keys }

-- A screen on the terminal of the bundled entry that owes nothing.
pub record IsReady (screen : ScreenState) : Type 0 where
  pub entry : IsEcma48 screen.profile
  pub nothing : screen.owed ≡ []

-- An emulated screen of the terminal's size that waits for nothing. It shows the negative of a terminal state that
-- agrees with what is known of the terminal.
pub record IsTerminalFor (profile : ProfileView) (memory : MemoryView) (screen : ScreenView) : Type 0 where
  pub rows : screen.rows ≡ profile.rows
  pub columns : screen.columns ≡ profile.columns
  pub charset : screen.charset ≡ profile.charset
  pub valid : IsScreen screen
  pub state : TerminalState
  pub agrees : Agrees (abilities profile) memory state
  pub negative : screen.state ≡ negative_state state
  pub nothing_waits : screen.waiting ≡ []
  pub defined : screen.undefined ≡ false

-- ---- what is sent to a terminal of which something is remembered

-- There is one update for each picture. From this state their operations are all defined, in order, and each update
-- leads to a state that shows its picture; the last state meets `After`.
abbrev pub RunToEnd : ProfileView → (TerminalState → Type 0) → TerminalState → List (List Op) → List PictureView → Type 0
RunToEnd profile After state [] [] = After state
RunToEnd profile After state [] (picture ∷ pictures) = ⊥
RunToEnd profile After state (ops ∷ updates) [] = ⊥
RunToEnd profile After state (ops ∷ updates) (picture ∷ pictures) = (first : RunsToShow profile state ops picture) × RunToEnd profile After first.new updates pictures

-- The bytes of one update for each virtual screen shown, each a plan for what was known of the terminal at that point;
-- `new` is what is known at the end. They show the pictures from every state in which the terminal may have been, and
-- lead to one in which it may be.
pub record AreSentOn (profile : ProfileView) (Before After : TerminalState → Type 0) (old new : MemoryView) (events : List Event) (text : List ℕ) : Type 0 where
  pub updates : List (List Op)
  pub bytes : text ≡ flat_map (all_bytes profile) updates
  pub plans : ArePlans profile old events updates new
  pub show : (state : TerminalState) → Before state → RunToEnd profile After state updates (pictures_of events)

-- The output for these events: printed or, in raw mode, the bytes sent.
abbrev pub IsOutputOn : Bool → ProfileView → (TerminalState → Type 0) → (TerminalState → Type 0) → MemoryView → MemoryView → List Event → List ℕ → Type 0
IsOutputOn true profile Before After old new events text = AreSentOn profile Before After old new events text
IsOutputOn false profile Before After old new events text = ArePrinted profile.charset events text

-- The same, if the terminal may be in any state that agrees with what is known of it.
abbrev pub IsOutputBetween : Bool → ProfileView → MemoryView → MemoryView → List Event → List ℕ → Type 0
IsOutputBetween raw profile old new events text = IsOutputOn raw profile (Agrees (abilities profile) old) (Agrees (abilities profile) new) old new events text

-- Nothing was sent; every state that agreed before agrees now.
pub record StillAgrees (profile : ProfileView) (old new : MemoryView) : Type 0 where
  pub still : (state : TerminalState) → Agrees (abilities profile) old state → Agrees (abilities profile) new state

-- The bytes of a plan, which was followed. The states that it leads to agree with what is known then.
pub record IsUpdateOf (profile : ProfileView) (old new : MemoryView) (virtual : VirtualView) (bytes : List ℕ) : Type 0 where
  pub ops : List Op
  pub bytes_are : bytes ≡ all_bytes profile ops
  pub plan : IsPlan profile old virtual ops
  pub left : new ≡ all_followed profile ops old
  pub agrees : (state next : TerminalState) → Agrees (abilities profile) old state → runs profile state ops ≡ Some next → Agrees (abilities profile) new next

-- An update with these bytes was sent; or nothing was.
abbrev pub IsSentIf : ProfileView → MemoryView → MemoryView → VirtualView → Option (List ℕ) → Type 0
IsSentIf profile old new virtual None = new ≡ old
IsSentIf profile old new virtual (Some bytes) = IsUpdateOf profile old new virtual bytes

-- An update of a virtual screen with this picture was sent, or nothing.
pub record IsSending (profile : ProfileView) (old new : MemoryView) (virtual : VirtualView) (picture : PictureView) (update : Option (List ℕ)) : Type 0 where
  pub shown : virtual.picture ≡ picture
  pub sent : IsSentIf profile old new virtual update

-- ---- what a line does

-- The event of a note.
abbrev pub event_of : Note → Event
event_of (notes.Refused fault) = Refused (fault_name fault)
event_of (notes.NotTaken fault) = Refused (key_fault_name fault)
event_of (notes.Pressed key) = Pressed key

-- The events of several notes.
abbrev pub events_in : List Note → List Event
events_in all = map event_of all

-- A refused call is an event.
abbrev pub event_if : Option WinFault → List Event
event_if None = []
event_if (Some fault) = Refused (fault_name fault) ∷ []

-- An update, if there was one, is an event.
abbrev pub shown_if : {A : Type 0} → Option A → VirtualView → List Event
shown_if None virtual = []
shown_if (Some update) virtual = Shown virtual ∷ []

-- The bytes of a line's update, if it had one.
abbrev pub update_in : Effects → Option (List ℕ)
update_in effects = option_map (λ bytes. bytes.items) effects.update

-- The events of a line: its notes, then its update of this virtual screen.
abbrev pub events_of : Effects → VirtualView → List Event
events_of effects virtual = events_in effects.notes.items ++ shown_if effects.update virtual

-- A call that is not an update was made: its refusal, if any, is this one, and rows that it marked are forgotten.
pub record IsQuiet (old new : ScreenState) (call : Call) (fault : Option WinFault) : Type 0 where
  pub stage : (made (stage_of old) call).stage ≡ stage_of new
  pub events : (made (stage_of old) call).events ≡ mark_of (marked_by old.desk call) ++ event_if fault
  pub profile : new.profile ≡ old.profile
  pub memory : new.memory ≡ memory_marked old.memory (marked_by old.desk call)
  pub agrees : StillAgrees new.profile old.memory new.memory
  pub ready : IsReady new

-- An update was made and sent these bytes.
pub record Updates (old new : ScreenState) (bytes : List ℕ) : Type 0 where
  pub stage : (updated (stage_of old)).stage ≡ stage_of new
  pub picture : new.virtual.picture ≡ old.virtual.picture
  pub update : IsUpdateOf new.profile old.memory new.memory old.virtual bytes
  pub profile : new.profile ≡ old.profile
  pub ready : IsReady new

-- A command was obeyed; its outcome is the screen after it, the rows that it marked, if any, and these effects.
pub record Obeys (old new : ScreenState) (effects : Effects) (outcome : Outcome) : Type 0 where
  pub rows : Option (ℕ × ℕ)
  pub virtual : VirtualView
  pub is : outcome ≡ record { stage = stage_of new; events = mark_of rows ++ events_of effects virtual }
  pub marked : StillAgrees new.profile old.memory (memory_marked old.memory rows)
  pub update : IsSending new.profile (memory_marked old.memory rows) new.memory virtual new.virtual.picture (update_in effects)
  pub profile : new.profile ≡ old.profile
  pub ready : IsReady new

-- The same, if the command has an outcome.
abbrev pub ObeysSome : ScreenState → ScreenState → Effects → Option Outcome → Type 0
ObeysSome old new effects None = ⊥
ObeysSome old new effects (Some outcome) = Obeys old new effects outcome

-- The answer is this refusal, or none; memory did not run out, and no update began anything.
pub record IsRefusalOf (answer : Answer) (fault : Option WinFault) : Type 0 where
  pub events : refusal_of answer ≡ event_if fault
  pub memory : answer ≢ answers.Refused faults.NoMemory
  pub nothing : begun_of answer ≡ []

-- ---- stages

-- A screen that is ready, with a terminal for it if updates are sent to one.
pub record IsReadyStage (fed : Bool) (stage : Playing) : Type 0 where
  pub screen : IsReady stage.screen
  pub terminal : fed ≡ true → IsTerminalFor stage.screen.profile stage.screen.memory stage.terminal

-- A screen that is ready and has sent an update, or nothing, that its terminal has not received yet.
pub record IsAhead (fed : Bool) (stage : Playing) (update : Option (List ℕ)) : Type 0 where
  pub before : MemoryView
  pub virtual : VirtualView
  pub screen : IsReady stage.screen
  pub terminal : fed ≡ true → IsTerminalFor stage.screen.profile before stage.terminal
  pub sending : IsSending stage.screen.profile before stage.screen.memory virtual stage.screen.virtual.picture update

-- A new stage of this size, for a terminal with this charset, on which nothing was done; nothing is known of the
-- terminal, so every state agrees.
pub record IsFirst (charset : Charset) (rows columns : ℕ) (stage : Playing) : Type 0 where
  pub is : stage_of stage.screen ≡ first_stage rows columns
  pub profile : stage.screen.profile ≡ ecma48_profile charset rows columns
  pub memory : stage.screen.memory ≡ unknown stage.screen.profile.rows stage.screen.profile.columns
  pub agrees : (state : TerminalState) → IsState (abilities stage.screen.profile) state → Agrees (abilities stage.screen.profile) stage.screen.memory state

-- A command opened this stage for a terminal with this charset; nothing is known of the terminal, so every state
-- agrees.
pub record Opens (charset : Charset) (command : Command) (stage : Playing) : Type 0 where
  pub is : opened command ≡ Some (record { stage = stage_of stage.screen; events = [] })
  pub profile : stage.screen.profile ≡ ecma48_profile charset (size_in (Some command)).0 (size_in (Some command)).1
  pub ready : IsReadyStage true stage
  pub memory : stage.screen.memory ≡ unknown stage.screen.profile.rows stage.screen.profile.columns
  pub agrees : (state : TerminalState) → IsState (abilities stage.screen.profile) state → Agrees (abilities stage.screen.profile) stage.screen.memory state

-- The stage, if one is open.
abbrev pub stages_of : Option Playing → Option Stage
stages_of None = None
stages_of (Some stage) = Some (stage_of stage.screen)

-- The states that the terminal may be in: any at first, later those that agree with what is known.
abbrev pub MayBeIn : ProfileView → Option Playing → TerminalState → Type 0
MayBeIn profile None = IsState (abilities profile)
MayBeIn profile (Some stage) = Agrees (abilities profile) stage.screen.memory

-- What is known of the terminal; before the first line, nothing.
abbrev pub memory_in : ProfileView → Option Playing → MemoryView
memory_in profile None = unknown profile.rows profile.columns
memory_in profile (Some stage) = stage.screen.memory

-- ---- what is written

-- What is written for the events between two lines.
abbrev pub IsOutputOfLines : Bool → ProfileView → Option Playing → Option Playing → List Event → List ℕ → Type 0
IsOutputOfLines raw profile old new events text =
    IsOutputOn raw profile (MayBeIn profile old) (MayBeIn profile new) (memory_in profile old) (memory_in profile new) events text

-- The line of a note.
abbrev pub note_line : Note → List ℕ
note_line (notes.Refused fault) = refusal_line (fault_name fault)
note_line (notes.NotTaken fault) = refusal_line (key_fault_name fault)
note_line (notes.Pressed key) = key_line key

-- The lines of several notes.
abbrev pub notes_lines : List Note → List ℕ
notes_lines all = flat_map note_line all

-- The lines of a picture's screen were appended.
pub record AddsScreen (charset : Charset) (picture : PictureView) (before after : List ℕ) : Type 0 where
  pub lines : List ℕ
  pub is : IsScreenOf charset picture lines
  pub added : after ≡ before ++ lines

-- What a command did on an open stage, and what is written for it.
pub record CommandWrites (raw : Bool) (old : Playing) (command : Command) (text : List ℕ) (new : Playing) : Type 0 where
  pub outcome : Outcome
  pub is : continued (stage_of old.screen) command ≡ Some outcome
  pub left : outcome.stage ≡ stage_of new.screen
  pub ready : IsReadyStage (not raw) new
  pub profile : new.screen.profile ≡ old.screen.profile
  pub written : IsOutputOfLines raw new.screen.profile (Some old) (Some new) outcome.events text

-- The profile after a line: the one of the size that the line gives, if it opened the stage.
abbrev pub profile_then : Charset → Option Playing → List ℕ → ProfileView
profile_then charset None line = ecma48_profile charset (size_in (command_of line)).0 (size_in (command_of line)).1
profile_then charset (Some stage) line = stage.screen.profile

-- What a line did, and what is written for it.
pub record LineWrites (charset : Charset) (raw : Bool) (old : Option Playing) (line text : List ℕ) (new : Option Playing) : Type 0 where
  pub outcome : Outcome
  pub is : line_outcome (stages_of old) line ≡ Some outcome
  pub stage : Playing
  pub left : new ≡ Some stage
  pub same : outcome.stage ≡ stage_of stage.screen
  pub ready : IsReadyStage (not raw) stage
  pub profile : stage.screen.profile ≡ profile_then charset old line
  pub written : IsOutputOfLines raw stage.screen.profile old new outcome.events text

-- What a line did, and the refusals that it adds.
pub record AddsRefusals (old : Option Playing) (line before after : List ℕ) (new : Option Playing) : Type 0 where
  pub outcome : Outcome
  pub is : line_outcome (stages_of old) line ≡ Some outcome
  pub stage : Playing
  pub left : new ≡ Some stage
  pub same : outcome.stage ≡ stage_of stage.screen
  pub ready : IsReadyStage false stage
  pub added : after ≡ before ++ refusals_of outcome.events
