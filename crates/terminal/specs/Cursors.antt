-- The cursor of a terminal: what a program asks of it, what is known of it, and what is sent for that.
use Rattle.std.specs.Prelude.{◌≡◌, ℕ, ◌<◌, ◌||◌, not, Bool, true, false, List, [], length, take, Option, Some, None}
use Rattle.std.specs.Io.KnownBytes.{Appends}
use Rattle.curses.specs.Writers.{IsFinishFailed, IsFinished, WriterView, counted}
use Rattle.curses.specs.declared.faults.SendFault.{SendFault}
use Rattle.curses.specs.declared.faults.SendFault.TheVariants.{Flush, Write}
use Rattle.ti_caps.specs.Description.{Description}
use Rattle.scr_term.specs.Operations.Admission.{sent_at}
use Rattle.terminal.specs.declared.cursors.TheConstants.{CIVIS, CNORM}

-- The texts that hide the cursor and show it, where the entry has both; whether it is shown, if that is known; whether
-- the program asks that it is; and whether the screen is started, so that this counts.
pub record CursorView : Type 0 where
  pub texts : Option (List ℕ × List ℕ)
  pub shown : Option Bool
  pub asked : Bool
  pub is_started : Bool

-- Both of two texts.
abbrev pub both : Option (List ℕ) → Option (List ℕ) → Option (List ℕ × List ℕ)
both (Some hide) (Some show) = Some (hide, show)
both hide show = None

-- The texts of an entry without padding, where it has both: those of `civis` and `cnorm`, the strings 13 and 16.
abbrev pub cursor_texts : Description → Option (List ℕ × List ℕ)
cursor_texts entry = both (sent_at entry CIVIS) (sent_at entry CNORM)

-- Whether the cursor is to be shown: as asked while the screen is started, and else in any case.
abbrev pub is_wanted : CursorView → Bool
is_wanted cursor = cursor.asked || not cursor.is_started

-- Whether a text has to be sent, so that the cursor is as wanted: not where it is known to be so.
abbrev pub is_due : Option Bool → Bool → Bool
is_due (Some true) true = false
is_due (Some false) false = false
is_due shown wanted = true

-- The text that is sent now; nothing where the entry has none.
abbrev pub text_due : Option (List ℕ × List ℕ) → Bool → Bool → List ℕ
text_due None due wanted = []
text_due (Some texts) false wanted = []
text_due (Some texts) true true = texts.1
text_due (Some texts) true false = texts.0

abbrev pub due : CursorView → List ℕ
due cursor = text_due cursor.texts (is_due cursor.shown (is_wanted cursor)) (is_wanted cursor)

-- What is known then; where the entry has no texts, what was known.
abbrev pub shown_after : Option (List ℕ × List ℕ) → Option Bool → Bool → Option Bool
shown_after None shown wanted = shown
shown_after (Some texts) shown wanted = Some wanted

-- A writer took a text whole and was finished after it, and no failure was counted; of an empty text it was asked
-- nothing.
pub record IsSent (old new : WriterView) (text : List ℕ) : Type 0 where
  pub taken : Appends old.taken new.taken text
  pub puts : new.failed_puts ≡ old.failed_puts
  pub finished : IsFinished (length text) old new

-- How many bytes a fault says that the writer took.
abbrev pub sent_by : SendFault → ℕ
sent_by (Write sent kind) = sent
sent_by (Flush sent kind) = sent

-- The failure of a fault was counted: that of a put, which left some of so many bytes, or that of the finish after all
-- of them.
abbrev pub IsCounted : WriterView → WriterView → ℕ → SendFault → Type 0
IsCounted old new size (Write sent kind) =
    (sent < size) × (new.failed_puts ≡ counted true old.failed_puts) × (new.finishes ≡ old.finishes)
IsCounted old new size (Flush sent kind) =
    (sent ≡ size) × (new.failed_puts ≡ old.failed_puts) × IsFinishFailed old new

-- A writer took as many bytes of a text as the fault says, and that failure was counted.
pub record IsFailed (old new : WriterView) (text : List ℕ) (fault : SendFault) : Type 0 where
  pub taken : Appends old.taken new.taken (take (sent_by fault) text)
  pub failed : IsCounted old new (length text) fault
