-- What a call of a script does to its screen.
use Rattle.std.proofs.Common.{rules, ◌≡◌, ◌≢◌, ℕ, Bool, true, false, refl, sym, ◌∙◌, ap, subst, List, [], ◌∷◌, ◌++◌, Option, Some, None, Result, Ok, Err, IfOk, Vec, Global, inl, inr, length, ◌==◌, option_map, if◌then◌else◌}
use Rattle.std.proofs.lemmas.List.{append-nil}
use Rattle.std.specs.Io.KnownBytes.{Appends}
use Rattle.std.specs.Option.{is_some}
use Rattle.std.specs.Str.{IsUtf8, chars, is_utf8}
use Rattle.std.specs.Prelude.{String, string_bytes}
use Rattle.std.proofs.lemmas.Str.{IsUtf8-from_is_utf8, is_utf8-from_IsUtf8}
use Rattle.scr_term.specs.declared.operations.operation.Op.{Op}
use Rattle.scr_term.specs.Operations.Admission.{IsEcma48}
use Rattle.scr_term.specs.Operations.Ecma48.{Ecma48Laws}
use Rattle.scr_term.specs.Operations.Profiles.{ProfileView, abilities}
use Rattle.scr_term.specs.Operations.Steps.{runs}
use Rattle.scr_term.specs.Operations.Texts.{all_bytes}
use Rattle.scr_memory.specs.Memories.{Agrees, MemoryView}
use Rattle.scr_memory.specs.MemoryRuns.{MemoryRuns}
use Rattle.scr_windows.specs.Calls.Adding.{add_str_call}
use Rattle.scr_windows.specs.declared.faults.WinFault.{WinFault}
use Rattle.scr_windows.specs.declared.faults.WinFault.TheVariants as faults
use Rattle.screen_sessions.specs.declared.answers.Answer.{Answer}
use Rattle.screen_sessions.specs.declared.answers.Answer.TheVariants.{Refused}
use Rattle.screen_sessions.specs.declared.answers.Answer.TheVariants as answers
use Rattle.screen_calls.specs.declared.calls.Call.{Call}
use Rattle.screen_calls.specs.declared.calls.Call.TheVariants.{AddStr, AddText, MoveCursor, Noutrefresh}
use Rattle.curses.specs.declared.faults.Sent.{Sent as SentView}
use Rattle.screen_sessions.specs.Calls.{told}
use Rattle.screen_sessions.specs.Making.{IsMade, drawn_of}
use Rattle.curses.specs.ScreenStates.{ScreenState}
use Rattle.screen_sessions.specs.Sessions.{Drawn, RightAnswer, begun_of, count_of, is_update, left_by, marked_by, memory_marked, memory_updated, ran_out, screen_call, windows_told}
use Rattle.curses.specs.Updates.{IsSent, IsShown}
use Rattle.curses.specs.Writers.{WriterView}
use Rattle.screen_scripts.specs.declared.effects.Effects.{Effects}
use Rattle.screen_scripts.specs.declared.commands.Command.TheVariants.{Text}
use Rattle.screen_scripts.specs.Stories.{Event, Outcome, Shown, Stage, added, called, continued, fault_name, first_window, followed, made, mark_of, refusal_of, shown, strung, unless_refused, updated}
use Rattle.screen_scripts.specs.Stories.{Refused as RefusedEvent}
use Rattle.screen_scripts.specs.Showing.{IsQuiet, IsReady, IsRefusalOf, IsSending, IsSentIf, IsUpdateOf, Obeys, ObeysSome, StillAgrees, Updates, event_if, events_in, events_of, shown_if, stage_of, update_in}

-- ---- calls that are no updates

-- an answer that is no want of memory says nothing of memory
not_short : (own answer : Answer) → answer ≢ Refused faults.NoMemory → ran_out own answer ≡ false
not_short own answer other = search rules

-- the answer is then the call's own
own_answer : (profile : ProfileView) (memory : MemoryView) (drawn : Drawn) (call : Call) (answer : Answer) → is_update call ≡ false → RightAnswer (is_update call) profile memory drawn call answer → answer ≢ Refused faults.NoMemory
    → answer ≡ (screen_call drawn call).1
own_answer profile memory drawn call answer update right other = by_right (subst (λ b. RightAnswer b profile memory drawn call answer) update right)
  where
    by_right : RightAnswer false profile memory drawn call answer → answer ≡ (screen_call drawn call).1
    by_right (inl same) = same
    by_right (inr short) = absurd (other short.0)

-- nothing was owed and nothing is sent, so nothing is owed
none_left : (taken rest : List ℕ) → [] ≡ taken ++ rest → rest ≡ []
none_left [] rest e = sym e
none_left (b ∷ taken) rest e = absurd (some e)
  where
    some : [] ≡ b ∷ (taken ++ rest) → ⊥
    some e = (cc)

still_none : (owed taken rest : List ℕ) → owed ≡ [] → owed ++ [] ≡ taken ++ rest → rest ≡ []
still_none owed taken rest none whole = none_left taken rest (sym (append-nil owed ∙ none) ∙ whole)

owes_nothing : (old new : ScreenState) (before after : WriterView) (begun : List Op) (count : ℕ) → old.owed ≡ [] → begun ≡ []
    → IsSent old.profile old.memory old.owed before after begun count new.owed → new.owed ≡ []
owes_nothing old new before after begun count none nothing sent =
    still_none old.owed sent.cut.taken new.owed none (ap (λ ops. old.owed ++ all_bytes old.profile ops) (sym nothing) ∙ sent.cut.whole)

made_called : (stage : Stage) (call : Call) → is_update call ≡ false → made stage call ≡ called stage (marked_by stage.drawn.desk call) (screen_call stage.drawn call)
unfolding made
made_called stage call update = ap {A = Bool} {B = Outcome} (λ b. if b then updated stage else called stage (marked_by stage.drawn.desk call) (screen_call stage.drawn call)) update

pub made_updated : (stage : Stage) (call : Call) → is_update call ≡ true → made stage call ≡ updated stage
unfolding made
made_updated stage call update = ap {A = Bool} {B = Outcome} (λ b. if b then updated stage else called stage (marked_by stage.drawn.desk call) (screen_call stage.drawn call)) update

pub quietly : (old new : ScreenState) (call : Call) (answer : Answer) (fault : Option WinFault) (before after : WriterView) → is_update call ≡ false → IsReady old
    → IsMade old new call answer before after → IsRefusalOf answer fault → IsQuiet old new call fault
quietly old new call answer fault before after update ready is refusal = record {
  stage = ap (λ o. o.stage) (made_called (stage_of old) call update) ∙ same_stage;
  events = ap (λ o. o.events) (made_called (stage_of old) call update) ∙ ap (λ e. mark_of (marked_by old.desk call) ++ e) (ap refusal_of (sym own) ∙ refusal.events);
  profile = is.profile;
  memory = is.memory ∙ ap (λ b. if b then memory_updated old.profile old.memory answer else memory_marked old.memory (marked_by old.desk call)) update;
  agrees = subst (λ p. StillAgrees p old.memory new.memory) (sym is.profile)
      (record { still = λ state agrees. is.agrees state state agrees (ap (runs old.profile state) refusal.nothing) });
  ready = record {
    entry = subst IsEcma48 (sym is.profile) ready.entry;
    nothing = owes_nothing old new before after (begun_of answer) (count_of answer) ready.nothing refusal.nothing is.sent;
  };
}
  where
    own : answer ≡ (screen_call (drawn_of old) call).1
    own = own_answer old.profile old.memory (drawn_of old) call answer update is.right refusal.memory

    drawn : drawn_of new ≡ (screen_call (drawn_of old) call).0
    drawn =
        is.drawn ∙ ap (λ b. left_by b (drawn_of old) (screen_call (drawn_of old) call) answer) update
        ∙ ap {A = Bool} {B = Drawn} (λ b. if b then drawn_of old else (screen_call (drawn_of old) call).0) (not_short (screen_call (drawn_of old) call).1 answer refusal.memory)

    same_stage : (called (stage_of old) (marked_by old.desk call) (screen_call (drawn_of old) call)).stage ≡ stage_of new
    same_stage = λ i. record { drawn = sym drawn i; keys = sym is.keys i }

-- ---- updates

sent_all : (owed taken sent rest : List ℕ) → owed ≡ [] → rest ≡ [] → owed ++ sent ≡ taken ++ rest → taken ≡ sent
sent_all owed taken sent rest none nothing whole = sym (append-nil taken) ∙ ap (λ r. taken ++ r) (sym nothing) ∙ sym whole ∙ ap (λ o. o ++ sent) none

pub updates : Ecma48Laws → MemoryRuns → (old new : ScreenState) (before after : WriterView) (sent : SentView) (bytes : List ℕ) → IsReady old → IsShown old new before after sent
    → before.taken ≡ Some [] → after.taken ≡ Some bytes → Updates old new bytes
updates laws runs_on old new before after sent bytes ready is first last = record {
  stage = ap stage_of (sym is.screen);
  picture = ap (λ s. s.virtual.picture) is.screen;
  update = subst (λ p. IsUpdateOf p old.memory new.memory old.virtual bytes) (sym profile) (record {
    ops = sent.begun;
    bytes_are = wrote first last is.updated.sent.cut.writer ∙ sent_all old.owed is.updated.sent.cut.taken (all_bytes old.profile sent.begun) new.owed ready.nothing is.updated.nothing is.updated.sent.cut.whole;
    plan = is.updated.plan;
    left = ap (λ s. s.memory) is.screen;
    agrees = λ state next agrees run. subst (λ m. Agrees (abilities old.profile) m next) (sym (ap (λ s. s.memory) is.screen))
        (runs_on.follows old.profile (laws.is_profile old.profile ready.entry) old.memory is.updated.possible state next sent.begun agrees run);
  });
  profile = profile;
  ready = record { entry = subst IsEcma48 (sym profile) ready.entry; nothing = is.updated.nothing };
}
  where
    profile : new.profile ≡ old.profile
    profile = ap (λ s. s.profile) is.screen

    from_empty : (taken all : List ℕ) → Appends (Some []) (Some all) taken → all ≡ taken
    from_empty taken all e = e

    wrote : before.taken ≡ Some [] → after.taken ≡ Some bytes → Appends before.taken after.taken is.updated.sent.cut.taken → bytes ≡ is.updated.sent.cut.taken
    wrote b a grew = from_empty is.updated.sent.cut.taken bytes (subst (λ t. Appends (Some []) t is.updated.sent.cut.taken) a (subst (λ t. Appends t after.taken is.updated.sent.cut.taken) b grew))

-- ---- one thing after another

followed_is : (first : Outcome) (next : Stage → Outcome) (mid new : ScreenState) (a b : List Event) → first.stage ≡ stage_of mid → first.events ≡ a → (next (stage_of mid)).stage ≡ stage_of new
    → (next (stage_of mid)).events ≡ b → followed first next ≡ record { stage = stage_of new; events = a ++ b }
followed_is first next mid new a b s e t f = λ i. record {
  stage = (ap (λ o. (next o).stage) s ∙ t) i;
  events = (ap (λ o. first.events ++ (next o).events) s ∙ ap (λ x. first.events ++ x) f ∙ ap (λ x. x ++ b) e) i;
}

is_outcome : (outcome : Outcome) (new : ScreenState) (a : List Event) → outcome.stage ≡ stage_of new → outcome.events ≡ a → outcome ≡ record { stage = stage_of new; events = a }
is_outcome outcome new a s e = λ i. record { stage = s i; events = e i }

-- no update came after these events
no_more : (events : List Event) → events ≡ events ++ []
no_more events = sym (append-nil events)

-- no row was marked
unmarked : (profile : ProfileView) (memory : MemoryView) → StillAgrees profile memory memory
unmarked profile memory = record { still = λ state agrees. agrees }

-- what a screen is after a call that sent nothing and was refused so, if it was
pub quiet_obeys : (old new : ScreenState) (call : Call) (fault : Option WinFault) (effects : Effects) → IsQuiet old new call fault → events_in effects.notes.items ≡ event_if fault
    → effects.update ≡ None → Obeys old new effects (made (stage_of old) call)
quiet_obeys old new call fault effects quiet notes none = record {
  rows = marked_by old.desk call;
  virtual = new.virtual;
  is = is_outcome (made (stage_of old) call) new (mark_of (marked_by old.desk call) ++ events_of effects new.virtual) quiet.stage
      (quiet.events ∙ ap (λ e. mark_of (marked_by old.desk call) ++ e)
      (sym notes ∙ no_more (events_in effects.notes.items) ∙ ap (λ u. events_in effects.notes.items ++ shown_if u new.virtual) (sym none)));
  marked = subst (λ m. StillAgrees new.profile old.memory m) quiet.memory quiet.agrees;
  update = record {
    shown = refl;
    sent = subst (λ u. IsSentIf new.profile (memory_marked old.memory (marked_by old.desk call)) new.memory new.virtual (option_map (λ bytes. bytes.items) u)) (sym none) quiet.memory;
  };
  profile = quiet.profile;
  ready = quiet.ready;
}

-- and after an update
pub update_obeys : (old new : ScreenState) (noted effects : Effects) (bytes : Vec ℕ Global) → Updates old new bytes.items → noted.notes.items ≡ [] → effects ≡ record noted { update = Some bytes }
    → Obeys old new effects (updated (stage_of old))
update_obeys old new noted effects bytes sent none same = subst (λ e. Obeys old new e (updated (stage_of old))) (sym same) (record {
  rows = None;
  virtual = old.virtual;
  is = is_outcome (updated (stage_of old)) new (events_in noted.notes.items ++ Shown old.virtual ∷ []) sent.stage (ap (λ n. events_in n ++ Shown old.virtual ∷ []) (sym none));
  marked = unmarked new.profile old.memory;
  update = record { shown = sym sent.picture; sent = sent.update };
  profile = sent.profile;
  ready = sent.ready;
})

-- a call that sent and marked nothing, and then one that was obeyed
pub obeys_after : (old mid new : ScreenState) (effects : Effects) (outcome : Outcome) → mid.profile ≡ old.profile → mid.memory ≡ old.memory → Obeys mid new effects outcome
    → Obeys old new effects outcome
obeys_after old mid new effects outcome profile memory obeys = record {
  rows = obeys.rows;
  virtual = obeys.virtual;
  is = obeys.is;
  marked = subst (λ m. StillAgrees new.profile m (memory_marked m obeys.rows)) memory obeys.marked;
  update = subst (λ m. IsSending new.profile (memory_marked m obeys.rows) new.memory obeys.virtual new.virtual.picture (update_in effects)) memory obeys.update;
  profile = obeys.profile ∙ profile;
  ready = obeys.ready;
}

-- what was obeyed changed the keys alone
pub keys_obey : (old new : ScreenState) (effects : Effects) (outcome : Outcome) → IsReady old → new ≡ record old { keys = new.keys } → outcome.stage ≡ stage_of new
    → outcome.events ≡ events_in effects.notes.items → effects.update ≡ None → Obeys old new effects outcome
keys_obey old new effects outcome ready rest stage events none = record {
  rows = None;
  virtual = new.virtual;
  is = is_outcome outcome new (events_of effects new.virtual) stage
      (events ∙ no_more (events_in effects.notes.items) ∙ ap (λ u. events_in effects.notes.items ++ shown_if u new.virtual) (sym none));
  marked = unmarked new.profile old.memory;
  update = record {
    shown = refl;
    sent = subst (λ u. IsSentIf new.profile old.memory new.memory new.virtual (option_map (λ bytes. bytes.items) u)) (sym none) (ap (λ s. s.memory) rest);
  };
  profile = ap (λ s. s.profile) rest;
  ready = record { entry = subst IsEcma48 (sym (ap (λ s. s.profile) rest)) ready.entry; nothing = ap (λ s. s.owed) rest ∙ ready.nothing };
}

-- a text is added where the cursor was moved, and nothing where that was refused
added_on : (stage mid : Stage) (row column : ℕ) (text : List ℕ) → (made stage (MoveCursor first_window row column)).stage ≡ mid
    → (made stage (MoveCursor first_window row column)).events ≡ [] → added stage row column text ≡ made mid (AddText first_window text)
added_on stage mid row column text left none =
    ap {A = Outcome} {B = Outcome} (λ o. unless_refused o (λ moved. made moved (AddText first_window text))) (λ i. record { stage = left i; events = none i })

added_refused : (stage : Stage) (row column : ℕ) (text : List ℕ) (event : Event) → (made stage (MoveCursor first_window row column)).events ≡ event ∷ []
    → added stage row column text ≡ made stage (MoveCursor first_window row column)
added_refused stage row column text event some =
    ap {A = List Event} {B = Outcome}
    (λ events. if length events == 0 then made (made stage (MoveCursor first_window row column)).stage (AddText first_window text) else made stage (MoveCursor first_window row column)) some

pub add_refused : {E : Type 0} → (old new : ScreenState) (row column : ℕ) (text : List ℕ) (fault : Option WinFault) (result : Result Effects E) → is_some fault ≡ true
    → IsQuiet old new (MoveCursor first_window row column) fault → IfOk result (λ effects. events_in effects.notes.items ≡ event_if fault) → IfOk result (λ effects. effects.update ≡ None)
    → IfOk result (λ effects. Obeys old new effects (added (stage_of old) row column text))
add_refused old new row column text None result some quiet notes none = absurd (not_true some)
  where
    not_true : false ≡ true → ⊥
    not_true e = (cc)
add_refused old new row column text (Some fault) (Err error) some quiet notes none = tt
add_refused old new row column text (Some fault) (Ok effects) some quiet notes none =
    subst (Obeys old new effects) (sym (added_refused (stage_of old) row column text (RefusedEvent (fault_name fault)) quiet.events))
    (quiet_obeys old new (MoveCursor first_window row column) (Some fault) effects quiet notes none)

pub add_goes_on : {E : Type 0} → (old mid new : ScreenState) (row column : ℕ) (text : List ℕ) (fault : Option WinFault) (result : Result Effects E) → is_some fault ≡ false
    → IsQuiet old mid (MoveCursor first_window row column) fault → IfOk result (λ effects. Obeys mid new effects (made (stage_of mid) (AddText first_window text)))
    → IfOk result (λ effects. Obeys old new effects (added (stage_of old) row column text))
add_goes_on old mid new row column text (Some fault) result none quiet obeys = absurd (not_false none)
  where
    not_false : true ≡ false → ⊥
    not_false e = (cc)
add_goes_on old mid new row column text None (Err error) none quiet obeys = tt
add_goes_on old mid new row column text None (Ok effects) none quiet obeys =
    subst (Obeys old new effects) (sym (added_on (stage_of old) (stage_of mid) row column text quiet.stage quiet.events))
    (obeys_after old mid new effects (made (stage_of mid) (AddText first_window text)) quiet.profile quiet.memory obeys)

-- a window is taken, and then an update shows the picture
pub shows_taken : (old mid new : ScreenState) (fault : Option WinFault) (noted effects : Effects) (bytes : Vec ℕ Global) → IsQuiet old mid (Noutrefresh first_window) fault
    → events_in noted.notes.items ≡ event_if fault → Updates mid new bytes.items → effects ≡ record noted { update = Some bytes } → Obeys old new effects (shown (stage_of old))
shows_taken old mid new fault noted effects bytes quiet notes sent same = subst (λ e. Obeys old new e (shown (stage_of old))) (sym same) (record {
  rows = None;
  virtual = mid.virtual;
  is = followed_is (made (stage_of old) (Noutrefresh first_window)) updated mid new (event_if fault) (Shown mid.virtual ∷ []) quiet.stage quiet.events sent.stage refl
      ∙ (λ i. record { stage = stage_of new; events = sym notes i ++ Shown mid.virtual ∷ [] });
  marked = unmarked new.profile old.memory;
  update = record { shown = sym sent.picture; sent = subst (λ m. IsUpdateOf new.profile m new.memory mid.virtual bytes.items) quiet.memory sent.update };
  profile = sent.profile ∙ quiet.profile;
  ready = sent.ready;
})

-- ---- results

pub quiet_obeys_if : {E : Type 0} → (old new : ScreenState) (call : Call) (fault : Option WinFault) (result : Result Effects E) → IsQuiet old new call fault
    → IfOk result (λ effects. events_in effects.notes.items ≡ event_if fault) → IfOk result (λ effects. effects.update ≡ None)
    → IfOk result (λ effects. Obeys old new effects (made (stage_of old) call))
quiet_obeys_if old new call fault (Ok effects) quiet notes none = quiet_obeys old new call fault effects quiet notes none
quiet_obeys_if old new call fault (Err error) quiet notes none = tt

pub quietly_if : {E : Type 0} → (old new : ScreenState) (call : Call) (answer : Answer) (result : Result (Option WinFault) E) (before after : WriterView) → is_update call ≡ false → IsReady old
    → IsMade old new call answer before after → IfOk result (λ fault. IsRefusalOf answer fault) → IfOk result (λ fault. IsQuiet old new call fault)
quietly_if old new call answer (Ok fault) before after update ready is refusal = quietly old new call answer fault before after update ready is refusal
quietly_if old new call answer (Err error) before after update ready is refusal = tt

-- ---- texts of characters

-- characters are added to a window as the call does it, whatever holds the bytes of the text
string_made : (stage : Stage) (w : ℕ) (text : List ℕ) (string : String Global) → string_bytes string ≡ text → made stage (AddStr (record { 0 = w }) string) ≡ strung stage w text
unfolding made strung
string_made stage w text string is =
    ap (λ t. called stage None (windows_told stage.drawn.virtual (told (λ all. answers.Added all) (add_str_call stage.drawn.desk w (chars t))))) is

pub string_added : (old new : ScreenState) (w : ℕ) (text : List ℕ) (string : String Global) (effects : Effects) → IsUtf8 text → string_bytes string ≡ text
    → Obeys old new effects (made (stage_of old) (AddStr (record { 0 = w }) string)) → ObeysSome old new effects (continued (stage_of old) (Text w text))
string_added old new w text string effects valid is obeys =
    subst (λ b. ObeysSome old new effects (if b then Some (strung (stage_of old) w text) else None)) (sym (is_utf8-from_IsUtf8 text valid))
    (subst (λ o. Obeys old new effects o) (string_made (stage_of old) w text string is) obeys)

pub string_refused : (stage : Stage) (w : ℕ) (text : List ℕ) → (IsUtf8 text → ⊥) → continued stage (Text w text) ≡ None
string_refused stage w text bad = by_test (is_utf8 text) refl
  where
    by_test : (b : Bool) → is_utf8 text ≡ b → continued stage (Text w text) ≡ None
    by_test true e = absurd (bad (IsUtf8-from_is_utf8 text e))
    by_test false e = ap {A = Bool} {B = Option Outcome} (λ b. if b then Some (strung stage w text) else None) e
