-- What a script means: which calls are refused, what is shown and which keys are pressed, in order, up to the first bad
-- line.
use Rattle.std.specs.Prelude.{ℕ, ◌+◌, ◌-◌, ◌^◌, ◌==◌, ◌&&◌, nat_le, List, [], ◌∷◌, ◌++◌, length, map, Option, Some, None, option_and_then, Result, Ok, Err, min, codes, if◌then◌else◌}
use Rattle.std.specs.List.{range_with_len}
use Rattle.std.specs.Str.{chars, is_utf8}
use Rattle.scr_keys.specs.Keys.{Keys}
use Rattle.scr_keys.specs.Readers.{ReaderView, byte_read, idle_read}
use Rattle.scr_keys.specs.declared.sets.KeySet.TheVariants.{Table}
use Rattle.scr_keys.specs.Tables.{keys_of}
use Rattle.scr_keys.specs.declared.faults.KeyFault.{KeyFault}
use Rattle.scr_keys.specs.declared.faults.KeyFault.TheVariants as key_faults
use Rattle.scr_keys.specs.declared.keys.Key.{Key}
use Rattle.scr_virtual.specs.VirtualViews.{VirtualView, settled}
use Rattle.scr_windows.specs.declared.faults.Win.{Win}
use Rattle.scr_windows.specs.declared.faults.WinFault.{WinFault}
use Rattle.scr_windows.specs.declared.faults.WinFault.TheVariants as faults
use Rattle.ti_caps.specs.Bundled.{bundled_names, bundled_texts, listed}
use Rattle.ti_caps.specs.Description.{Description, bare}
use Rattle.screen_sessions.specs.declared.answers.Answer.{Answer}
use Rattle.screen_sessions.specs.declared.answers.Answer.TheVariants as answers
use Rattle.screen_calls.specs.declared.calls.Call.{Call}
use Rattle.screen_calls.specs.declared.calls.Call.TheVariants.{AddText, MoveCursor, Noutrefresh}
use Rattle.screen_sessions.specs.Calls.{told}
use Rattle.screen_sessions.specs.Sessions.{Drawn, first_drawn, is_update, marked_by, screen_call, windows_told}
use Rattle.scr_windows.specs.Calls.Adding.{add_str_call}
use Rattle.screen_scripts.specs.Commands.{command_of}
use Rattle.screen_scripts.specs.Lines.{lines_of}
use Rattle.screen_scripts.specs.declared.commands.Command.{Command}
use Rattle.screen_scripts.specs.declared.commands.Command.TheVariants as commands

-- ---- events

-- An event: a refused call, by its error's name; n rows from `first` on that were marked because others wrote there; an
-- update that shows a virtual screen; a key that was pressed.
pub data Event : Type 0 where
  Refused : (name : List ℕ) → Event
  Marked : (first : ℕ) → (n : ℕ) → Event
  Shown : (virtual : VirtualView) → Event
  Pressed : (key : Key) → Event

-- What a script's commands act on: windows and virtual screen, and the key reader.
pub record Stage : Type 0 where
  pub drawn : Drawn
  pub keys : ReaderView

-- What a command leaves, and the events that it causes.
pub record Outcome : Type 0 where
  pub stage : Stage
  pub events : List Event

-- The name of each window error.
abbrev pub fault_name : WinFault → List ℕ
fault_name faults.NoWindow = codes "NoWindow"
fault_name faults.IsPad = codes "IsPad"
fault_name faults.NotPad = codes "NotPad"
fault_name faults.IsSub = codes "IsSub"
fault_name faults.HasChildren = codes "HasChildren"
fault_name faults.NotAscii = codes "NotAscii"
fault_name faults.OutOfWindow = codes "OutOfWindow"
fault_name faults.OffScreen = codes "OffScreen"
fault_name faults.NotInParent = codes "NotInParent"
fault_name faults.BadRegion = codes "BadRegion"
fault_name faults.NoScroll = codes "NoScroll"
fault_name faults.TooBig = codes "TooBig"
fault_name faults.TooMany = codes "TooMany"
fault_name faults.NoMemory = codes "NoMemory"
fault_name faults.BadPair = codes "BadPair"
fault_name faults.BadColour = codes "BadColour"
fault_name faults.NotOneColumn = codes "NotOneColumn"

-- The name of each key error.
abbrev pub key_fault_name : KeyFault → List ℕ
key_fault_name (key_faults.KeyTooLong slot) = codes "KeyTooLong"
key_fault_name key_faults.QueueFull = codes "QueueFull"
key_fault_name key_faults.NoMemory = codes "NoMemory"

-- ---- calls

-- A refusal is an event; no other answer is.
abbrev pub refusal_of : Answer → List Event
refusal_of (answers.Refused fault) = Refused (fault_name fault) ∷ []
refusal_of answer = []

-- Marked rows are an event.
abbrev pub mark_of : Option (ℕ × ℕ) → List Event
mark_of None = []
mark_of (Some rows) = Marked rows.0 rows.1 ∷ []

-- The stage after a call that is not an update, and the events of its marks and its refusal.
abbrev pub called : Stage → Option (ℕ × ℕ) → Drawn × Answer → Outcome
called stage rows call = record { stage = record stage { drawn = call.0 }; events = mark_of rows ++ refusal_of call.1 }

-- An update shows the virtual screen, after which nothing is left to repaint.
abbrev pub updated : Stage → Outcome
updated stage = record {
  stage = record stage { drawn = record stage.drawn { virtual = settled stage.drawn.virtual } };
  events = Shown stage.drawn.virtual ∷ [];
}

-- What a call does.
unfoldable pub made : Stage → Call → Outcome
made stage call = if is_update call then updated stage else called stage (marked_by stage.drawn.desk call) (screen_call stage.drawn call)

-- ---- commands

-- The next step continues from what an outcome left.
abbrev pub followed : Outcome → (Stage → Outcome) → Outcome
followed outcome next = record { stage = (next outcome.stage).stage; events = outcome.events ++ (next outcome.stage).events }

-- The next step is only made if nothing was refused.
abbrev pub unless_refused : Outcome → (Stage → Outcome) → Outcome
unless_refused outcome next = if length outcome.events == 0 then next outcome.stage else outcome

-- The window that exists from the start, over the whole screen.
abbrev pub first_window : Win
first_window = record { 0 = 0 }

-- Writes a text at a place of the first window.
abbrev pub added : Stage → ℕ → ℕ → List ℕ → Outcome
added stage row column text = unless_refused (made stage (MoveCursor first_window row column)) (λ moved. made moved (AddText first_window text))

-- Copies the first window to the virtual screen and shows it.
abbrev pub shown : Stage → Outcome
shown stage = followed (made stage (Noutrefresh first_window)) updated

-- Writes characters at the cursor of a window.
unfoldable pub strung : Stage → ℕ → List ℕ → Outcome
strung stage w text =
    called stage None (windows_told stage.drawn.virtual (told (λ all. answers.Added all) (add_str_call stage.drawn.desk w (chars text))))

-- ---- keys

-- A refusal by the key reader is an event.
abbrev pub key_refusal : Result (Unit {0}) KeyFault → List Event
key_refusal (Ok done) = []
key_refusal (Err fault) = Refused (key_fault_name fault) ∷ []

-- What the key reader does with input.
abbrev pub after_read : Stage → ReaderView × Result (Unit {0}) KeyFault → Outcome
after_read stage read = record { stage = record stage { keys = read.0 }; events = key_refusal read.1 }

-- Bytes are read one after another, even if some are refused.
abbrev pub after_bytes : Stage → List ℕ → Outcome
after_bytes stage [] = record { stage = stage; events = [] }
after_bytes stage (byte ∷ bytes) = followed (after_read stage (byte_read stage.keys byte)) (λ next. after_bytes next bytes)

-- All queued keys are taken.
abbrev pub keys_taken : Stage → Outcome
keys_taken stage = record { stage = record stage { keys = record stage.keys { queue = [] } }; events = map Pressed stage.keys.queue }

-- Bytes are read from the keyboard, and then all keys are taken.
abbrev pub pressed : Stage → List ℕ → Outcome
pressed stage bytes = followed (after_bytes stage bytes) keys_taken

-- No byte comes for a while, and then all keys are taken.
abbrev pub idled : Stage → Outcome
idled stage = followed (after_read stage (idle_read stage.keys)) keys_taken

-- ---- lines

-- The bundled entry: its texts.
abbrev pub bundled_description : Description
bundled_description = record (bare bundled_names) { texts = map (listed bundled_texts) (range_with_len 0 512) }

-- The keys of the bundled entry, by the names of the capability table.
unfoldable pub bundled_keys : Keys
bundled_keys = keys_of Table bundled_description

-- The stage that a size opens: one blank window over the whole screen, and no key pressed.
abbrev pub first_stage : ℕ → ℕ → Stage
first_stage rows columns = record { drawn = first_drawn rows columns; keys = record { keys = bundled_keys; queue = []; waiting = [] } }

-- A size of 1 to 500 rows and columns opens the stage; any other first command is bad.
abbrev pub opened : Command → Option Outcome
opened (commands.Size rows columns) =
    if nat_le 1 rows && nat_le rows 500 && nat_le 1 columns && nat_le columns 500
    then Some (record { stage = first_stage rows columns; events = [] })
    else None
opened command = None

-- What a command does on an open stage; a second size is bad, and so is a text that is not UTF-8.
abbrev pub continued : Stage → Command → Option Outcome
continued stage (commands.Size rows columns) = None
continued stage (commands.Add row column text) = Some (added stage row column text)
continued stage commands.Show = Some (shown stage)
continued stage (commands.Make call) = Some (made stage call)
continued stage (commands.Key bytes) = Some (pressed stage bytes)
continued stage (commands.Text w text) = if is_utf8 text then Some (strung stage w text) else None
continued stage commands.Idle = Some (idled stage)

-- What a command does, on an open stage or as the first one.
abbrev pub outcome_of : Option Stage → Command → Option Outcome
outcome_of None command = opened command
outcome_of (Some stage) command = continued stage command

-- What a line does; none if it is bad.
abbrev pub line_outcome : Option Stage → List ℕ → Option Outcome
line_outcome stage line = option_and_then (outcome_of stage) (command_of line)

-- ---- stories

-- A story: the events of a script, and the number of the first bad line, if there is one. Line numbers stop at
-- 4,294,967,295.
pub record Story : Type 0 where
  pub events : List Event
  pub bad_line : Option ℕ

-- The number of the next line.
abbrev pub next_number : ℕ → ℕ
next_number n = min (n + 1) (2 ^ 32 - 1)

-- A bad line ends the story; otherwise the story continues after the outcome.
abbrev pub story_from : ℕ → Option Outcome → (Outcome → Story) → Story
story_from n None rest = record { events = []; bad_line = Some n }
story_from n (Some outcome) rest = record { events = outcome.events ++ (rest outcome).events; bad_line = (rest outcome).bad_line }

-- The story of the lines from line n on.
abbrev pub story_on : ℕ → Option Stage → List (List ℕ) → Story
story_on n stage [] = record { events = []; bad_line = None }
story_on n stage (line ∷ lines) =
    story_from n (line_outcome stage line) (λ outcome. story_on (next_number n) (Some outcome.stage) lines)

-- The story of a whole script.
abbrev pub story_of : List ℕ → Story
story_of script = story_on 1 None (lines_of script)

-- The rows and columns in a command that sets the size. If there is none, nothing is shown and the value is irrelevant.
abbrev pub size_in : Option Command → ℕ × ℕ
size_in (Some (commands.Size rows columns)) = (rows, columns)
size_in command = (1, 1)

-- The size that the first of these lines gives.
abbrev pub size_on : List (List ℕ) → ℕ × ℕ
size_on [] = (1, 1)
size_on (line ∷ lines) = size_in (command_of line)

-- The size that a script gives.
abbrev pub size_of : List ℕ → ℕ × ℕ
size_of script = size_on (lines_of script)
