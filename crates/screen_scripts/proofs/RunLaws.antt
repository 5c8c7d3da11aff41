-- How a script's story goes on from line to line, and what is written of it.
use Rattle.std.proofs.Common.{◌≡◌, ◌==◌, arith, length, ℕ, Bool, true, false, refl, inl, inr, sym, ◌∙◌, ap, subst, List, [], ◌∷◌, ◌++◌, append_assoc, not, Option, Some, None, Result, Ok, Err, IfOk, OnOk, option_and_then}
use Rattle.std.specs.Io.KnownBytes.{Appends, Keeps}
use Rattle.std.specs.Option.{ForSome}
use Rattle.std.proofs.lemmas.Bool.Decides.{nat_tests}
use Rattle.std.proofs.lemmas.List.{append-nil}
use Rattle.scr_cells.specs.declared.charsets.Charset.{Charset}
use Rattle.scr_term.specs.Operations.Ecma48.{ecma48_profile}
use Rattle.scr_memory.specs.Memories.{MemoryView}
use Rattle.scr_virtual.specs.VirtualViews.{VirtualView}
use Rattle.screen_scripts.specs.Commands.{command_of}
use Rattle.screen_scripts.specs.Lines.{lines_of}
use Rattle.screen_scripts.specs.declared.commands.Command.{Command}
use Rattle.curses.specs.ScreenStates.{ScreenState}
use Rattle.screen_sessions.specs.Sessions.{memory_marked}
use Rattle.screen_scripts.specs.declared.effects.Effects.{Effects}
use Rattle.screen_scripts.specs.declared.stages.Stage.{Stage as Playing}
use Rattle.screen_scripts.specs.Stories.{Event, Outcome, Stage, Story, continued, line_outcome, next_number, opened, outcome_of, size_in, size_on, story_from, story_of, story_on}
use Rattle.screen_scripts.specs.Printing.{Begins, GrewByBeginning, Writes, profile_of, refusals_of}
use Rattle.screen_scripts.specs.Running.{BeginsLine, CommandRefuses, LineWritten, OpensOn}
use Rattle.screen_scripts.specs.Showing.{AddsRefusals, CommandWrites, IsAhead, IsOutputBetween, IsOutputOfLines, IsReadyStage, IsSending, IsTerminalFor, LineWrites, MayBeIn, Obeys, ObeysSome, Opens, events_in, events_of, memory_in, profile_then, shown_if, stage_of, stages_of, update_in}
use Rattle.screen_scripts.proofs.OutputLaws.{mark_refuses_none, output_at_last, output_join, output_marked, output_none, refusals_join, shown_refuses_none, still_terminal}
use Rattle.screen_scripts.proofs.WriteLaws.{appends_kept, appends_more, appends_none}

none_is_none : {A : Type 0} (x : A) → None ≡ Some x → ⊥
none_is_none x e = (cc)

some_same : {A : Type 0} (x y : A) → Some x ≡ Some y → x ≡ y
some_same x y e = (cc)

-- ---- one line

-- what a line does is what its command does
outcome_at : (stage : Option Stage) (line : List ℕ) (command : Command) → command_of line ≡ Some command → line_outcome stage line ≡ outcome_of stage command
outcome_at stage line command e = ap (option_and_then (outcome_of stage)) e

pub no_command : (stage : Option Stage) (line : List ℕ) → command_of line ≡ None → line_outcome stage line ≡ None
no_command stage line e = ap (option_and_then (outcome_of stage)) e

pub bad_opening : (line : List ℕ) (command : Command) → command_of line ≡ Some command → opened command ≡ None → line_outcome None line ≡ None
bad_opening line command e bad = outcome_at None line command e ∙ bad

pub bad_command : (stage : Stage) (line : List ℕ) (command : Command) → command_of line ≡ Some command → continued stage command ≡ None → line_outcome (Some stage) line ≡ None
bad_command stage line command e bad = outcome_at (Some stage) line command e ∙ bad

opening_writes : (charset : Charset) (raw : Bool) (line text : List ℕ) (command : Command) (stage : Playing) → command_of line ≡ Some command → Opens charset command stage → text ≡ []
    → LineWrites charset raw None line text (Some stage)
opening_writes charset raw line text command stage e is none = record {
  outcome = record { stage = stage_of stage.screen; events = [] };
  is = outcome_at None line command e ∙ is.is;
  stage = stage;
  left = refl;
  same = refl;
  ready = record { screen = is.ready.screen; terminal = λ fed. is.ready.terminal refl };
  profile = is.profile ∙ ap (λ c. ecma48_profile charset (size_in c).0 (size_in c).1) (sym e);
  written = subst (λ t. IsOutputOfLines raw stage.screen.profile None (Some stage) [] t) (sym none)
      (output_none raw stage.screen.profile (MayBeIn stage.screen.profile None) (MayBeIn stage.screen.profile (Some stage)) (memory_in stage.screen.profile None)
      (memory_in stage.screen.profile (Some stage)) is.memory is.agrees);
}

pub opened_writes : (charset : Charset) (raw : Bool) (line text : List ℕ) (command : Command) (new : Option Playing) → command_of line ≡ Some command → OpensOn charset command new → text ≡ []
    → LineWrites charset raw None line text new
opened_writes charset raw line text command new e is none =
    subst (λ stage. LineWrites charset raw None line text stage) (sym is.left) (opening_writes charset raw line text command is.stage e is.is none)

pub command_writes : (charset : Charset) (raw : Bool) (old new : Playing) (line text : List ℕ) (command : Command) → command_of line ≡ Some command → CommandWrites raw old command text new
    → LineWrites charset raw (Some old) line text (Some new)
command_writes charset raw old new line text command e is = record {
  outcome = is.outcome;
  is = outcome_at (Some (stage_of old.screen)) line command e ∙ is.is;
  stage = new;
  left = refl;
  same = is.left;
  ready = is.ready;
  profile = is.profile;
  written = is.written;
}

pub command_writes_if : {A E : Type 0} → (items : A → List ℕ) (charset : Charset) (raw : Bool) (old new : Playing) (line : List ℕ) (command : Command) (result : Result A E) → command_of line ≡ Some command
    → IfOk result (λ text. CommandWrites raw old command (items text) new) → IfOk result (λ text. LineWrites charset raw (Some old) line (items text) (Some new))
command_writes_if items charset raw old new line command (Ok text) e is = command_writes charset raw old new line (items text) command e is
command_writes_if items charset raw old new line command (Err error) e is = tt

-- where all went well, that is so too
pub on_ok : {A E P Q : Type 0} → (result : Result A E) → (P → Q) → OnOk result P → OnOk result Q
on_ok (Ok done) so p = so p
on_ok (Err error) so p = tt

pub line_written : (charset : Charset) (raw : Bool) (old new : Option Playing) (line text : List ℕ) (held holds : Option (List ℕ)) → LineWrites charset raw old line text new → Appends held holds text
    → LineWritten charset raw old line held holds new
line_written charset raw old new line text held holds is written = record { text = text; is = is; written = written }

pub line_begun : (charset : Charset) (raw : Bool) (old new : Option Playing) (line text : List ℕ) (held holds : Option (List ℕ)) → LineWrites charset raw old line text new → GrewByBeginning held holds text
    → BeginsLine charset raw old line held holds new
line_begun charset raw old new line text held holds is grew = inr (record { text = text; is = is; grew = grew })

-- ---- the refusals of one line

obeyed : (old new : ScreenState) (effects : Effects) (outcome : Option Outcome) → ObeysSome old new effects outcome → (o : Outcome) × (outcome ≡ Some o) × Obeys old new effects o
obeyed old new effects None h = absurd h
obeyed old new effects (Some o) h = (o, refl, h)

-- what a command leaves is to be fed to the terminal that is there
pub ahead_after : (raw : Bool) (old : Playing) (screen : ScreenState) (effects : Effects) (outcome : Option Outcome) → IsReadyStage (not raw) old → ObeysSome old.screen screen effects outcome
    → IsAhead (not raw) (record { screen = screen; terminal = old.terminal }) (update_in effects)
ahead_after raw old screen effects outcome ready obeys =
    let o = obeyed old.screen screen effects outcome obeys in
    record {
      before = memory_marked old.screen.memory o.2.rows;
      virtual = o.2.virtual;
      screen = o.2.ready;
      terminal = λ fed. still_terminal screen.profile old.screen.memory (memory_marked old.screen.memory o.2.rows) old.terminal o.2.marked
          (subst (λ p. IsTerminalFor p old.screen.memory old.terminal) (sym o.2.profile) (ready.terminal fed));
      sending = o.2.update;
    }

pub command_written : (raw : Bool) (old new : Playing) (screen : ScreenState) (effects : Effects) (command : Command) (text : List ℕ)
    → ObeysSome old.screen screen effects (continued (stage_of old.screen) command) → new.screen ≡ screen → IsReadyStage (not raw) new
    → ((before : MemoryView) (virtual : VirtualView) → IsSending screen.profile before screen.memory virtual screen.virtual.picture (update_in effects)
    → IsOutputBetween raw screen.profile before screen.memory (events_of effects virtual) text)
    → CommandWrites raw old command text new
command_written raw old new screen effects command text obeys same ready written =
    let o = obeyed old.screen screen effects (continued (stage_of old.screen) command) obeys in
    record {
      outcome = o.0;
      is = o.1;
      left = ap (λ x. x.stage) o.2.is ∙ ap stage_of (sym same);
      ready = ready;
      profile = ap (λ s. s.profile) same ∙ o.2.profile;
      written = subst (λ s. IsOutputBetween raw s.profile old.screen.memory s.memory o.0.events text) (sym same)
          (subst (λ events. IsOutputBetween raw screen.profile old.screen.memory screen.memory events text) (sym (ap (λ x. x.events) o.2.is))
          (output_marked raw screen.profile old.screen.memory screen.memory o.2.rows (events_of effects o.2.virtual) text o.2.marked
          (written (memory_marked old.screen.memory o.2.rows) o.2.virtual o.2.update)));
    }

opening_adds : (charset : Charset) (line text : List ℕ) (command : Command) (stage : Playing) → command_of line ≡ Some command → Opens charset command stage → AddsRefusals None line text text (Some stage)
opening_adds charset line text command stage e is = record {
  outcome = record { stage = stage_of stage.screen; events = [] };
  is = outcome_at None line command e ∙ is.is;
  stage = stage;
  left = refl;
  same = refl;
  ready = record { screen = is.ready.screen; terminal = λ fed. is.ready.terminal refl };
  added = sym (append-nil text);
}

pub opened_adds : (charset : Charset) (line text : List ℕ) (command : Command) (new : Option Playing) → command_of line ≡ Some command → OpensOn charset command new → AddsRefusals None line text text new
opened_adds charset line text command new e is = subst (λ stage. AddsRefusals None line text text stage) (sym is.left) (opening_adds charset line text command is.stage e is.is)

not_fed : false ≡ true → ⊥
not_fed e = (cc)

pub obeying_refuses : (before after : List ℕ) (command : Command) (old screen : ScreenState) (effects : Effects)
    → ObeysSome old screen effects (continued (stage_of old) command) → after ≡ before ++ refusals_of (events_in effects.notes.items)
    → CommandRefuses old command before after screen
obeying_refuses before after command old screen effects obeys is =
    let o = obeyed old screen effects (continued (stage_of old) command) obeys in
    record {
      outcome = o.0;
      is = o.1;
      left = ap (λ x. x.stage) o.2.is;
      ready = o.2.ready;
      added = is ∙ ap (λ t. before ++ t) (sym (append-nil (refusals_of (events_in effects.notes.items))))
          ∙ ap (λ t. before ++ (refusals_of (events_in effects.notes.items) ++ t)) (sym (shown_refuses_none effects.update o.2.virtual))
          ∙ ap (λ t. before ++ t) (sym (refusals_join (events_in effects.notes.items) (shown_if effects.update o.2.virtual)))
          ∙ ap (λ t. before ++ t) (sym (mark_refuses_none o.2.rows (events_of effects o.2.virtual)))
          ∙ ap (λ x. before ++ refusals_of x.events) (sym o.2.is);
    }

pub refusing_adds : (line before after : List ℕ) (command : Command) (old : Playing) (screen : ScreenState) → command_of line ≡ Some command
    → CommandRefuses old.screen command before after screen → AddsRefusals (Some old) line before after (Some (record { screen = screen; terminal = old.terminal }))
refusing_adds line before after command old screen e is = record {
  outcome = is.outcome;
  is = outcome_at (Some (stage_of old.screen)) line command e ∙ is.is;
  stage = record { screen = screen; terminal = old.terminal };
  left = refl;
  same = is.left;
  ready = record { screen = is.ready; terminal = λ fed. absurd (not_fed fed) };
  added = is.added;
}

-- ---- stories

story_step : (n : ℕ) (stage : Option Stage) (rest line after : List ℕ) (outcome : Outcome) (new : Option Playing) (playing : Playing) → lines_of rest ≡ line ∷ lines_of after
    → line_outcome stage line ≡ Some outcome → new ≡ Some playing → outcome.stage ≡ stage_of playing.screen
    → story_on n stage (lines_of rest) ≡ story_from n (Some outcome) (λ o. story_on (next_number n) (stages_of new) (lines_of after))
story_step n stage rest line after outcome new playing e is left same =
    ap (story_on n stage) e
    ∙ ap (λ o. story_from n o (λ o. story_on (next_number n) (Some o.stage) (lines_of after))) is
    ∙ ap (λ s. story_from n (Some outcome) (λ o. story_on (next_number n) s (lines_of after))) (ap {A = Stage} {B = Option Stage} (λ s. Some s) same ∙ ap stages_of (sym left))

story_ends : (n : ℕ) (stage : Option Stage) (rest line after : List ℕ) → lines_of rest ≡ line ∷ lines_of after → line_outcome stage line ≡ None
    → story_on n stage (lines_of rest) ≡ record { events = []; bad_line = Some n }
story_ends n stage rest line after e bad =
    ap (story_on n stage) e ∙ ap (λ o. story_from n o (λ o. story_on (next_number n) (Some o.stage) (lines_of after))) bad

-- ---- a run, line by line

-- the profile is that of the script's size
profile_after : (charset : Charset) (script rest line after : List ℕ) (old : Option Playing) → (old ≡ None → rest ≡ script) → ForSome old (λ s. s.screen.profile ≡ profile_of charset script)
    → lines_of rest ≡ line ∷ lines_of after → profile_then charset old line ≡ profile_of charset script
profile_after charset script rest line after None first is e = ap (λ lines. ecma48_profile charset (size_on lines).0 (size_on lines).1) (sym e ∙ ap lines_of (first refl))
profile_after charset script rest line after (Some stage) first is e = is stage refl

-- what is written so far is an output of what happened so far, and that and what the rest tells are the script's story
pub record SoFar (charset : Charset) (raw : Bool) (script : List ℕ) (old now : Option (List ℕ)) (number : ℕ) (stage : Option Playing) (rest : List ℕ) : Type 0 where
  pub ready : ForSome stage (IsReadyStage (not raw))
  pub profile : ForSome stage (λ s. s.screen.profile ≡ profile_of charset script)
  pub first : stage ≡ None → rest ≡ script
  pub before : List Event
  pub text : List ℕ
  pub output : IsOutputOfLines raw (profile_of charset script) None stage before text
  pub written : Appends old now text
  pub events : before ++ (story_on number (stages_of stage) (lines_of rest)).events ≡ (story_of script).events
  pub bad_line : (story_on number (stages_of stage) (lines_of rest)).bad_line ≡ (story_of script).bad_line

so_far_first : (charset : Charset) (raw : Bool) (script : List ℕ) (now : Option (List ℕ)) → SoFar charset raw script now now 1 None script
so_far_first charset raw script now = record {
  ready = λ s e. absurd (none_is_none s e);
  profile = λ s e. absurd (none_is_none s e);
  first = λ e. refl;
  before = [];
  text = [];
  output = output_none raw (profile_of charset script) (MayBeIn (profile_of charset script) None) (MayBeIn (profile_of charset script) None) (memory_in (profile_of charset script) None) (memory_in (profile_of charset script) None) refl
      (λ state is. is);
  written = appends_none now;
  events = refl;
  bad_line = refl;
}

pub so_far_opened : (charset : Charset) (raw : Bool) (script : List ℕ) (now : Option (List ℕ)) (stage : Option Playing) → stage ≡ None → SoFar charset raw script now now 1 stage script
so_far_opened charset raw script now stage none = subst (λ stage. SoFar charset raw script now now 1 stage script) (sym none) (so_far_first charset raw script now)

-- an output of one line more
output_more : (charset : Charset) (raw : Bool) (script : List ℕ) (old now : Option (List ℕ)) (number : ℕ) (stage new : Option Playing) (rest line after text : List ℕ)
    → (so : SoFar charset raw script old now number stage rest) → lines_of rest ≡ line ∷ lines_of after → (writes : LineWrites charset raw stage line text new)
    → IsOutputOfLines raw (profile_of charset script) None new (so.before ++ writes.outcome.events) (so.text ++ text)
output_more charset raw script old now number stage new rest line after text so e writes =
    output_join raw (profile_of charset script) (MayBeIn (profile_of charset script) None) (MayBeIn (profile_of charset script) stage) (MayBeIn (profile_of charset script) new)
    (memory_in (profile_of charset script) None) (memory_in (profile_of charset script) stage) (memory_in (profile_of charset script) new) so.before writes.outcome.events so.text text so.output
    (subst (λ p. IsOutputOfLines raw p stage new writes.outcome.events text) (writes.profile ∙ profile_after charset script rest line after stage so.first so.profile e) writes.written)

-- the story with one line more
story_more : (charset : Charset) (raw : Bool) (script : List ℕ) (old now : Option (List ℕ)) (number : ℕ) (stage new : Option Playing) (rest line after text : List ℕ)
    → (so : SoFar charset raw script old now number stage rest) → lines_of rest ≡ line ∷ lines_of after → (writes : LineWrites charset raw stage line text new)
    → (so.before ++ writes.outcome.events) ++ (story_on (next_number number) (stages_of new) (lines_of after)).events ≡ (story_of script).events
story_more charset raw script old now number stage new rest line after text so e writes =
    append_assoc so.before writes.outcome.events (story_on (next_number number) (stages_of new) (lines_of after)).events
    ∙ ap (λ s. so.before ++ s.events) (sym (story_step number (stages_of stage) rest line after writes.outcome new writes.stage e writes.is writes.left writes.same))
    ∙ so.events

left_is : (playing s : Playing) (new : Option Playing) → new ≡ Some playing → new ≡ Some s → playing ≡ s
left_is playing s new left e = some_same playing s (sym left ∙ e)

pub so_far_more : (charset : Charset) (raw : Bool) (script : List ℕ) (old now next : Option (List ℕ)) (number : ℕ) (stage new : Option Playing) (rest line after text : List ℕ)
    → SoFar charset raw script old now number stage rest → lines_of rest ≡ line ∷ lines_of after → LineWrites charset raw stage line text new → Appends now next text
    → SoFar charset raw script old next (next_number number) new after
so_far_more charset raw script old now next number stage new rest line after text so e writes appends = record {
  ready = λ s is. subst (IsReadyStage (not raw)) (left_is writes.stage s new writes.left is) writes.ready;
  profile = λ s is. subst (λ p. p.screen.profile ≡ profile_of charset script) (left_is writes.stage s new writes.left is) (writes.profile ∙ profile_after charset script rest line after stage so.first so.profile e);
  first = λ none. absurd (none_is_none writes.stage (sym none ∙ writes.left));
  before = so.before ++ writes.outcome.events;
  text = so.text ++ text;
  output = output_more charset raw script old now number stage new rest line after text so e writes;
  written = appends_more old now next so.text text so.written appends;
  events = story_more charset raw script old now number stage new rest line after text so e writes;
  bad_line = sym (ap (λ s. s.bad_line) (story_step number (stages_of stage) rest line after writes.outcome new writes.stage e writes.is writes.left writes.same)) ∙ so.bad_line;
}

-- ---- its ends

-- all that happened so far is written
pub so_far_begins : (charset : Charset) (raw : Bool) (script : List ℕ) (old now new : Option (List ℕ)) (number : ℕ) (stage : Option Playing) (rest : List ℕ) → SoFar charset raw script old now number stage rest → Keeps now new
    → Begins charset raw script old new
so_far_begins charset raw script old now new number stage rest so kept = record {
  first = so.before;
  later = (story_on number (stages_of stage) (lines_of rest)).events;
  story = sym so.events;
  text = so.text;
  output = output_at_last raw (profile_of charset script) (MayBeIn (profile_of charset script) stage) (memory_in (profile_of charset script) stage) so.before so.text so.output;
  grew = record { beginning = so.text; rest = []; whole = sym (append-nil so.text); written = appends_kept old now new so.text so.written kept };
}

-- a beginning of one line more is written
so_far_begun : (charset : Charset) (raw : Bool) (script : List ℕ) (old now next : Option (List ℕ)) (number : ℕ) (stage new : Option Playing) (rest line after text : List ℕ)
    → SoFar charset raw script old now number stage rest → lines_of rest ≡ line ∷ lines_of after → LineWrites charset raw stage line text new → GrewByBeginning now next text → Begins charset raw script old next
so_far_begun charset raw script old now next number stage new rest line after text so e writes grew = record {
  first = so.before ++ writes.outcome.events;
  later = (story_on (next_number number) (stages_of new) (lines_of after)).events;
  story = sym (story_more charset raw script old now number stage new rest line after text so e writes);
  text = so.text ++ text;
  output = output_at_last raw (profile_of charset script) (MayBeIn (profile_of charset script) new) (memory_in (profile_of charset script) new) (so.before ++ writes.outcome.events) (so.text ++ text)
      (output_more charset raw script old now number stage new rest line after text so e writes);
  grew = record {
    beginning = so.text ++ grew.beginning;
    rest = grew.rest;
    whole = ap (λ t. so.text ++ t) grew.whole ∙ sym (append_assoc so.text grew.beginning grew.rest);
    written = appends_more old now next so.text grew.beginning so.written grew.written;
  };
}

-- a line was begun, or nothing of it was written
pub so_far_cut : (charset : Charset) (raw : Bool) (script : List ℕ) (old now next : Option (List ℕ)) (number : ℕ) (stage new : Option Playing) (rest line after : List ℕ)
    → SoFar charset raw script old now number stage rest → lines_of rest ≡ line ∷ lines_of after → BeginsLine charset raw stage line now next new → Begins charset raw script old next
so_far_cut charset raw script old now next number stage new rest line after so e (inl kept) = so_far_begins charset raw script old now next number stage rest so kept
so_far_cut charset raw script old now next number stage new rest line after so e (inr begun) =
    so_far_begun charset raw script old now next number stage new rest line after begun.text so e begun.is begun.grew

-- where nothing is left, all is written
writes_all : (charset : Charset) (raw : Bool) (script : List ℕ) (old now new : Option (List ℕ)) (number : ℕ) (stage : Option Playing) (rest : List ℕ) → (so : SoFar charset raw script old now number stage rest) → Keeps now new
    → (story_on number (stages_of stage) (lines_of rest)).events ≡ [] → Writes charset raw script (story_of script).events old new
writes_all charset raw script old now new number stage rest so kept none =
    subst (λ events. Writes charset raw script events old new) (sym (append-nil so.before) ∙ ap (λ t. so.before ++ t) (sym none) ∙ so.events)
    (record {
      text = so.text;
      output = output_at_last raw (profile_of charset script) (MayBeIn (profile_of charset script) stage) (memory_in (profile_of charset script) stage) so.before so.text so.output;
      written = appends_kept old now new so.text so.written kept;
    })

pub so_far_whole : (charset : Charset) (raw : Bool) (script : List ℕ) (old now new : Option (List ℕ)) (number : ℕ) (stage : Option Playing) (rest : List ℕ) → SoFar charset raw script old now number stage rest → rest ≡ []
    → Keeps now new → ((story_of script).bad_line ≡ None) × Writes charset raw script (story_of script).events old new
so_far_whole charset raw script old now new number stage rest so ended kept =
    let story : story_on number (stages_of stage) (lines_of rest) ≡ record { events = []; bad_line = None } = ap (λ r. story_on number (stages_of stage) (lines_of r)) ended in
    (sym so.bad_line ∙ ap (λ s. s.bad_line) story, writes_all charset raw script old now new number stage rest so kept (ap (λ s. s.events) story))

zero_of : (n : ℕ) → (n == 0) ≡ true → n ≡ 0
zero_of n h = grind (arith, nat_tests)

without_length : (rest : List ℕ) → length rest ≡ 0 → rest ≡ []
without_length [] h = refl
without_length (b ∷ rest) h = absurd (omega (arith, h))

pub nothing_left : (rest : List ℕ) → (length rest == 0) ≡ true → rest ≡ []
nothing_left rest h = without_length rest (zero_of (length rest) h)

pub when_ok : {A E P : Type 0} → (result : Result A E) → P → OnOk result P
when_ok (Ok done) p = p
when_ok (Err error) p = tt

so_far_ends : (charset : Charset) (raw : Bool) (script : List ℕ) (old now new : Option (List ℕ)) (number : ℕ) (stage : Option Playing) (rest line after : List ℕ) → SoFar charset raw script old now number stage rest
    → lines_of rest ≡ line ∷ lines_of after → line_outcome (stages_of stage) line ≡ None → Keeps now new
    → ((story_of script).bad_line ≡ Some number) × Writes charset raw script (story_of script).events old new
so_far_ends charset raw script old now new number stage rest line after so e bad kept =
    let story = story_ends number (stages_of stage) rest line after e bad in
    (sym so.bad_line ∙ ap (λ s. s.bad_line) story, writes_all charset raw script old now new number stage rest so kept (ap (λ s. s.events) story))

-- the same for any number that is the line's
pub so_far_bad : (charset : Charset) (raw : Bool) (script : List ℕ) (old now new : Option (List ℕ)) (number n : ℕ) (stage : Option Playing) (rest line after : List ℕ) → SoFar charset raw script old now number stage rest
    → lines_of rest ≡ line ∷ lines_of after → (number ≡ n) × (line_outcome (stages_of stage) line ≡ None) × Keeps now new
    → ((story_of script).bad_line ≡ Some n) × Writes charset raw script (story_of script).events old new
so_far_bad charset raw script old now new number n stage rest line after so e bad =
    let ends = so_far_ends charset raw script old now new number stage rest line after so e bad.1 bad.2 in
    (ends.0 ∙ ap {A = ℕ} {B = Option ℕ} (λ m. Some m) bad.0, ends.1)

-- ---- refusals

-- the refusals so far and those of what is left are those of the script, whatever number the line has
pub record RefusedSoFar (script : List ℕ) (number : ℕ) (stage : Option Playing) (rest text : List ℕ) : Type 0 where
  pub ready : ForSome stage (IsReadyStage false)
  pub refused : text ++ refusals_of (story_on number (stages_of stage) (lines_of rest)).events ≡ refusals_of (story_of script).events

refused_none : (script text : List ℕ) → text ≡ [] → RefusedSoFar script 1 None script text
refused_none script text none = record {
  ready = λ s e. absurd (none_is_none s e);
  refused = ap (λ t. t ++ refusals_of (story_of script).events) none;
}

pub refused_first : (script text : List ℕ) (stage : Option Playing) → stage ≡ None → text ≡ [] → RefusedSoFar script 1 stage script text
refused_first script text stage opens none = subst (λ stage. RefusedSoFar script 1 stage script text) (sym opens) (refused_none script text none)

pub refused_more : (script : List ℕ) (number : ℕ) (stage new : Option Playing) (rest line after before text : List ℕ) → RefusedSoFar script number stage rest before
    → lines_of rest ≡ line ∷ lines_of after → AddsRefusals stage line before text new → RefusedSoFar script (next_number number) new after text
refused_more script number stage new rest line after before text so e adds =
    let left : Story = story_on (next_number number) (stages_of new) (lines_of after) in
    record {
      ready = λ s is. subst (IsReadyStage false) (left_is adds.stage s new adds.left is) adds.ready;
      refused = ap (λ t. t ++ refusals_of left.events) adds.added ∙ append_assoc before (refusals_of adds.outcome.events) (refusals_of left.events)
          ∙ ap (λ t. before ++ t) (sym (refusals_join adds.outcome.events left.events))
          ∙ ap (λ s. before ++ refusals_of s.events) (sym (story_step number (stages_of stage) rest line after adds.outcome new adds.stage e adds.is adds.left adds.same))
          ∙ so.refused;
    }

pub refused_all : (script : List ℕ) (number : ℕ) (stage : Option Playing) (rest text : List ℕ) → RefusedSoFar script number stage rest text → rest ≡ [] → text ≡ refusals_of (story_of script).events
refused_all script number stage rest text so ended =
    sym (append-nil text) ∙ ap (λ r. text ++ refusals_of (story_on number (stages_of stage) (lines_of r)).events) (sym ended) ∙ so.refused

pub refused_end : (script : List ℕ) (number : ℕ) (stage : Option Playing) (rest line after text : List ℕ) → RefusedSoFar script number stage rest text
    → lines_of rest ≡ line ∷ lines_of after → line_outcome (stages_of stage) line ≡ None → text ≡ refusals_of (story_of script).events
refused_end script number stage rest line after text so e bad =
    sym (append-nil text) ∙ ap (λ s. text ++ refusals_of s.events) (sym (story_ends number (stages_of stage) rest line after e bad)) ∙ so.refused
