-- Outputs of events, one after another.
use Rattle.std.proofs.Common.{◌≡◌, ℕ, Bool, true, false, refl, sym, ◌∙◌, ap, subst, List, [], ◌∷◌, ◌++◌, append_assoc, option_map, Option, Some, None, Result, Ok, Err, OnOk, unwrap_or}
use Rattle.std.specs.List.{flat_map}
use Rattle.std.proofs.lemmas.List.{append-nil}
use Rattle.std.proofs.lemmas.List.Concat.{flat_map-append}
use Rattle.scr_cells.specs.declared.charsets.Charset.{Charset}
use Rattle.scr_cells.specs.LookViews.{negative_grid}
use Rattle.scr_cells.specs.PictureViews.{PictureView}
use Rattle.scr_term.specs.declared.operations.operation.Op.{Op}
use Rattle.scr_term.specs.Operations.Admission.{IsEcma48}
use Rattle.scr_term.specs.Operations.Ecma48.{Ecma48Laws}
use Rattle.scr_term.specs.Operations.Laws.{BytesActAsTheirOperations}
use Rattle.scr_term.specs.Operations.Painted.{Shows, ShowsNegative}
use Rattle.scr_term.specs.Operations.Profiles.{ProfileView, abilities}
use Rattle.scr_term.specs.Operations.States.{TerminalState, IsState, negative_state}
use Rattle.scr_term.specs.Operations.Texts.{all_bytes}
use Rattle.scr_terminal.specs.Ecma.Laws.{ScreensFollowTexts}
use Rattle.scr_term.specs.Ecma.Meanings.{Leads}
use Rattle.scr_terminal.specs.Ecma.Screens.{ScreenView, IsScreen, IsFed}
use Rattle.scr_memory.specs.Memories.{Agrees, MemoryView, all_followed, disturbed, unknown}
use Rattle.scr_plan.specs.Scratch.{RunsToShow}
use Rattle.scr_virtual.specs.VirtualViews.{VirtualView}
use Rattle.screen_sessions.specs.Sessions.{memory_marked}
use Rattle.screen_scripts.specs.declared.effects.Note.{Note}
use Rattle.screen_scripts.specs.declared.effects.Note.TheVariants.{Refused, NotTaken, Pressed}
use Rattle.screen_scripts.specs.declared.stages.Stage.{Stage as Playing}
use Rattle.screen_scripts.specs.Stories.{Event, Marked, Shown, mark_of}
use Rattle.screen_scripts.specs.Stories.{Pressed as PressedEvent, Refused as RefusedEvent}
use Rattle.screen_scripts.specs.Printing.{ArePlans, ArePrinted, IsOutput, IsPrinted, IsScreenOf, RunToShow, abilities_for, pictures_of, refused_event, refusals_of, screen_lines, shown_by}
use Rattle.screen_scripts.specs.Showing.{AddsScreen, AreSentOn, IsAhead, IsOutputBetween, IsOutputOn, IsReadyStage, IsSending, IsSentIf, IsTerminalFor, IsUpdateOf, RunToEnd, StillAgrees, event_of, events_in, note_line, notes_lines, shown_if}

-- ---- joined

printed_join : (charset : Charset) (xs ys : List Event) (a b : List ℕ) → ArePrinted charset xs a → ArePrinted charset ys b → ArePrinted charset (xs ++ ys) (a ++ b)
printed_join charset [] ys a b first next = subst (λ t. ArePrinted charset ys (t ++ b)) (sym first) next
printed_join charset (x ∷ xs) ys a b first next =
    (first.0, first.1 ++ b, ap (λ t. t ++ b) first.2 ∙ append_assoc first.0 first.1 b, first.3, printed_join charset xs ys first.1 b first.4 next)

runs_join : (profile : ProfileView) (Between After : TerminalState → Type 0) (state : TerminalState) (us vs : List (List Op)) (ps qs : List PictureView) → RunToEnd profile Between state us ps
    → ((next : TerminalState) → Between next → RunToEnd profile After next vs qs) → RunToEnd profile After state (us ++ vs) (ps ++ qs)
runs_join profile Between After state [] vs [] qs first next = next state first
runs_join profile Between After state [] vs (p ∷ ps) qs first next = absurd first
runs_join profile Between After state (u ∷ us) vs [] qs first next = absurd first
runs_join profile Between After state (u ∷ us) vs (p ∷ ps) qs first next = (first.0, runs_join profile Between After first.0.new us vs ps qs first.1 next)

plans_join : (profile : ProfileView) (old mid new : MemoryView) (xs ys : List Event) (us vs : List (List Op)) → ArePlans profile old xs us mid → ArePlans profile mid ys vs new
    → ArePlans profile old (xs ++ ys) (us ++ vs) new
plans_join profile old mid new [] ys [] vs first next = subst (λ m. ArePlans profile m ys vs new) first next
plans_join profile old mid new [] ys (u ∷ us) vs first next = absurd first
plans_join profile old mid new (RefusedEvent name ∷ xs) ys us vs first next = plans_join profile old mid new xs ys us vs first next
plans_join profile old mid new (Marked row n ∷ xs) ys us vs first next = plans_join profile (disturbed row n old) mid new xs ys us vs first next
plans_join profile old mid new (Shown virtual ∷ xs) ys [] vs first next = absurd first
plans_join profile old mid new (Shown virtual ∷ xs) ys (u ∷ us) vs first next = (first.0, plans_join profile (all_followed profile u old) mid new xs ys us vs first.1 next)
plans_join profile old mid new (PressedEvent key ∷ xs) ys us vs first next = plans_join profile old mid new xs ys us vs first next

sent_join : (profile : ProfileView) (Before Between After : TerminalState → Type 0) (old mid new : MemoryView) (xs ys : List Event) (a b : List ℕ)
    → AreSentOn profile Before Between old mid xs a → AreSentOn profile Between After mid new ys b → AreSentOn profile Before After old new (xs ++ ys) (a ++ b)
sent_join profile Before Between After old mid new xs ys a b first next = record {
  updates = first.updates ++ next.updates;
  bytes = ap (λ t. t ++ b) first.bytes ∙ ap (λ t. flat_map (all_bytes profile) first.updates ++ t) next.bytes ∙ sym (flat_map-append (all_bytes profile) first.updates next.updates);
  plans = plans_join profile old mid new xs ys first.updates next.updates first.plans next.plans;
  show = λ state is. subst (RunToEnd profile After state (first.updates ++ next.updates)) (sym (flat_map-append shown_by xs ys))
      (runs_join profile Between After state first.updates next.updates (pictures_of xs) (pictures_of ys) (first.show state is) next.show);
}

pub output_join : (raw : Bool) (profile : ProfileView) (Before Between After : TerminalState → Type 0) (old mid new : MemoryView) (xs ys : List Event) (a b : List ℕ)
    → IsOutputOn raw profile Before Between old mid xs a → IsOutputOn raw profile Between After mid new ys b → IsOutputOn raw profile Before After old new (xs ++ ys) (a ++ b)
output_join true profile Before Between After old mid new xs ys a b first next = sent_join profile Before Between After old mid new xs ys a b first next
output_join false profile Before Between After old mid new xs ys a b first next = printed_join profile.charset xs ys a b first next

-- nothing happened, and the terminal may be in no more states than before
pub output_none : (raw : Bool) (profile : ProfileView) (Before After : TerminalState → Type 0) (old new : MemoryView) → new ≡ old → ((state : TerminalState) → Before state → After state)
    → IsOutputOn raw profile Before After old new [] []
output_none true profile Before After old new same still = record { updates = []; bytes = refl; plans = same; show = still }
output_none false profile Before After old new same still = refl

-- rows were marked, if any
output_mark : (raw : Bool) (profile : ProfileView) (memory : MemoryView) (rows : Option (ℕ × ℕ)) → StillAgrees profile memory (memory_marked memory rows)
    → IsOutputBetween raw profile memory (memory_marked memory rows) (mark_of rows) []
output_mark true profile memory None still = record { updates = []; bytes = refl; plans = refl; show = still.still }
output_mark true profile memory (Some rows) still = record { updates = []; bytes = refl; plans = refl; show = still.still }
output_mark false profile memory None still = refl
output_mark false profile memory (Some rows) still = ([], [], refl, refl, refl)

pub output_marked : (raw : Bool) (profile : ProfileView) (old new : MemoryView) (rows : Option (ℕ × ℕ)) (events : List Event) (text : List ℕ) → StillAgrees profile old (memory_marked old rows)
    → IsOutputBetween raw profile (memory_marked old rows) new events text → IsOutputBetween raw profile old new (mark_of rows ++ events) text
output_marked raw profile old new rows events text still next =
    output_join raw profile (Agrees (abilities profile) old) (Agrees (abilities profile) (memory_marked old rows)) (Agrees (abilities profile) new) old (memory_marked old rows) new
    (mark_of rows) events [] text (output_mark raw profile old rows still) next

-- where the terminal was in any state of its profile, this is what the run promises
runs_show : (profile : ProfileView) (After : TerminalState → Type 0) (state : TerminalState) (us : List (List Op)) (ps : List PictureView) → RunToEnd profile After state us ps
    → RunToShow profile state us ps
runs_show profile After state [] [] run = tt
runs_show profile After state [] (p ∷ ps) run = absurd run
runs_show profile After state (u ∷ us) [] run = absurd run
runs_show profile After state (u ∷ us) (p ∷ ps) run = (run.0, runs_show profile After run.0.new us ps run.1)

pub output_at_last : (raw : Bool) (profile : ProfileView) (After : TerminalState → Type 0) (last : MemoryView) (events : List Event) (text : List ℕ)
    → IsOutputOn raw profile (IsState (abilities profile)) After (unknown profile.rows profile.columns) last events text → IsOutput raw profile events text
output_at_last true profile After last events text sent = record {
  updates = sent.updates;
  bytes = sent.bytes;
  last = last;
  plans = sent.plans;
  show = λ state is. runs_show profile After state sent.updates (pictures_of events) (sent.show state is);
}
output_at_last false profile After last events text printed = printed

-- ---- a line's notes and its update

note_shows_none : (note : Note) → shown_by (event_of note) ≡ []
note_shows_none (Refused fault) = refl
note_shows_none (NotTaken fault) = refl
note_shows_none (Pressed key) = refl

notes_show_none : (notes : List Note) (events : List Event) → pictures_of (events_in notes ++ events) ≡ pictures_of events
notes_show_none [] events = refl
notes_show_none (note ∷ notes) events = ap (λ p. p ++ pictures_of (events_in notes ++ events)) (note_shows_none note) ∙ notes_show_none notes events

notes_are_no_plans : (profile : ProfileView) (old new : MemoryView) (notes : List Note) (events : List Event) (us : List (List Op)) → ArePlans profile old events us new
    → ArePlans profile old (events_in notes ++ events) us new
notes_are_no_plans profile old new [] events us plans = plans
notes_are_no_plans profile old new (Refused fault ∷ notes) events us plans = notes_are_no_plans profile old new notes events us plans
notes_are_no_plans profile old new (NotTaken fault ∷ notes) events us plans = notes_are_no_plans profile old new notes events us plans
notes_are_no_plans profile old new (Pressed key ∷ notes) events us plans = notes_are_no_plans profile old new notes events us plans

note_printed : (charset : Charset) (note : Note) → IsPrinted charset (event_of note) (note_line note)
note_printed charset (Refused fault) = refl
note_printed charset (NotTaken fault) = refl
note_printed charset (Pressed key) = refl

notes_printed : (charset : Charset) (notes : List Note) (events : List Event) (text : List ℕ) → ArePrinted charset events text → ArePrinted charset (events_in notes ++ events) (notes_lines notes ++ text)
notes_printed charset [] events text is = is
notes_printed charset (note ∷ notes) events text is =
    (note_line note, notes_lines notes ++ text, append_assoc (note_line note) (notes_lines notes) text, note_printed charset note, notes_printed charset notes events text is)

pub printed_alone : (raw : Bool) (profile : ProfileView) (old new : MemoryView) (notes : List Note) (text : List ℕ) → raw ≡ false → text ≡ notes_lines notes
    → IsOutputBetween raw profile old new (events_in notes ++ []) text
printed_alone raw profile old new notes text mode is =
    subst (λ r. IsOutputBetween r profile old new (events_in notes ++ []) text) (sym mode)
    (subst (λ t. ArePrinted profile.charset (events_in notes ++ []) t) (append-nil (notes_lines notes) ∙ sym is) (notes_printed profile.charset notes [] [] refl))

pub printed_shown : (raw : Bool) (profile : ProfileView) (old new : MemoryView) (virtual : VirtualView) (picture : PictureView) (notes : List Note) (lines text : List ℕ) → raw ≡ false
    → virtual.picture ≡ picture → IsScreenOf profile.charset picture lines → text ≡ notes_lines notes ++ lines → IsOutputBetween raw profile old new (events_in notes ++ Shown virtual ∷ []) text
printed_shown raw profile old new virtual picture notes lines text mode shown screen is =
    subst (λ r. IsOutputBetween r profile old new (events_in notes ++ Shown virtual ∷ []) text) (sym mode)
    (subst (λ t. ArePrinted profile.charset (events_in notes ++ Shown virtual ∷ []) t) (sym is)
    (notes_printed profile.charset notes (Shown virtual ∷ []) lines (lines, [], sym (append-nil lines), subst (λ p. IsScreenOf profile.charset p lines) (sym shown) screen, refl)))

-- an update alone
sent_one : (profile : ProfileView) (old new : MemoryView) (virtual : VirtualView) (bytes : List ℕ) → IsUpdateOf profile old new virtual bytes
    → IsOutputBetween true profile old new (Shown virtual ∷ []) bytes
sent_one profile old new virtual bytes update = record {
  updates = update.ops ∷ [];
  bytes = update.bytes_are ∙ sym (append-nil (all_bytes profile update.ops));
  plans = (update.plan, update.left);
  show = λ state agrees.
      let shown = update.plan.shows state (record { state = agrees.is_state; agrees = λ _. agrees }) in
      (shown, update.agrees state shown.new agrees shown.run);
}

-- the notes of a line are nothing that is sent
notes_sent : (raw : Bool) (profile : ProfileView) (old new : MemoryView) (notes : List Note) (events : List Event) (text : List ℕ) → raw ≡ true
    → IsOutputBetween true profile old new events text → IsOutputBetween raw profile old new (events_in notes ++ events) text
notes_sent raw profile old new notes events text mode sent = subst (λ r. IsOutputBetween r profile old new (events_in notes ++ events) text) (sym mode) (record {
  updates = sent.updates;
  bytes = sent.bytes;
  plans = notes_are_no_plans profile old new notes events sent.updates sent.plans;
  show = λ state agrees. subst (RunToEnd profile (Agrees (abilities profile) new) state sent.updates) (sym (notes_show_none notes events)) (sent.show state agrees);
})

-- ---- refusals

pub refusals_join : (xs ys : List Event) → refusals_of (xs ++ ys) ≡ refusals_of xs ++ refusals_of ys
refusals_join xs ys = flat_map-append refused_event xs ys

pub shown_refuses_none : {A : Type 0} → (update : Option A) (virtual : VirtualView) → refusals_of (shown_if update virtual) ≡ []
shown_refuses_none None virtual = refl
shown_refuses_none (Some u) virtual = refl

pub mark_refuses_none : (rows : Option (ℕ × ℕ)) (events : List Event) → refusals_of (mark_of rows ++ events) ≡ refusals_of events
mark_refuses_none None events = refl
mark_refuses_none (Some rows) events = refl

-- ---- the terminal after an update

pub record IsAfter (profile : ProfileView) (memory : MemoryView) (picture : PictureView) (new : ScreenView) : Type 0 where
  pub shows : ShowsNegative (abilities_for profile.charset picture) new.state picture
  pub ready : IsTerminalFor profile memory new

negative_shown : Ecma48Laws → (profile : ProfileView) (picture : PictureView) (state : TerminalState) → IsEcma48 profile → Shows (abilities profile) state picture
    → ShowsNegative (abilities_for profile.charset picture) (negative_state state) picture
negative_shown laws profile picture state ecma shows =
    let full = subst (λ a. Shows a state picture) (ap abilities (laws.made profile ecma) ∙ laws.can_show profile.charset profile.rows profile.columns) shows in
    record { grid = ap negative_grid full.grid; spot = full.spot }

pub after_feeding : Ecma48Laws → BytesActAsTheirOperations → ScreensFollowTexts → (profile : ProfileView) → IsEcma48 profile → (before after : MemoryView) (virtual : VirtualView) (picture : PictureView)
    (old new : ScreenView) (bytes : List ℕ) → IsTerminalFor profile before old → IsSending profile before after virtual picture (Some bytes) → IsFed old bytes new → IsScreen new
    → IsAfter profile after picture new
after_feeding laws acts follow profile ecma before after virtual picture old new bytes terminal sending fed valid =
    let update : IsUpdateOf profile before after virtual bytes = sending.sent in
    let shown : RunsToShow profile terminal.state update.ops picture =
    subst (RunsToShow profile terminal.state update.ops) sending.shown (update.plan.shows terminal.state (record { state = terminal.agrees.is_state; agrees = λ _. terminal.agrees })) in
    let leads : Leads old.charset old.rows old.columns old.state bytes (negative_state shown.new) =
    subst (λ s. Leads s old.rows old.columns old.state bytes (negative_state shown.new)) (sym terminal.charset)
    (subst (λ r. Leads profile.charset r old.columns old.state bytes (negative_state shown.new)) (sym terminal.rows)
    (subst (λ c. Leads profile.charset profile.rows c old.state bytes (negative_state shown.new)) (sym terminal.columns)
    (subst (λ s. Leads profile.charset profile.rows profile.columns s bytes (negative_state shown.new)) (sym terminal.negative)
    (subst (λ b. Leads profile.charset profile.rows profile.columns (negative_state terminal.state) b (negative_state shown.new)) (sym update.bytes_are)
    (acts profile ecma terminal.state shown.new terminal.agrees.is_state update.ops shown.run))))) in
    let same : new ≡ record old { state = negative_state shown.new } =
    follow old new bytes (negative_state shown.new) terminal.valid terminal.defined terminal.nothing_waits leads fed in
    record {
      shows = subst (λ s. ShowsNegative (abilities_for profile.charset picture) s picture) (sym (ap (λ s. s.state) same)) (negative_shown laws profile picture shown.new ecma shown.shows);
      ready = record {
        rows = ap (λ s. s.rows) same ∙ terminal.rows;
        charset = ap (λ s. s.charset) same ∙ terminal.charset;
        columns = ap (λ s. s.columns) same ∙ terminal.columns;
        valid = valid;
        state = shown.new;
        agrees = update.agrees terminal.state shown.new terminal.agrees shown.run;
        negative = ap (λ s. s.state) same;
        nothing_waits = ap (λ s. s.waiting) same ∙ terminal.nothing_waits;
        defined = ap (λ s. s.undefined) same ∙ terminal.defined;
      };
    }

-- the lines of a screen that shows a picture
pub adds_screen : {A E : Type 0} → (result : Result A E) (charset : Charset) (picture : PictureView) (state : TerminalState) (before after : List ℕ) → ShowsNegative (abilities_for charset picture) state picture
    → OnOk result (after ≡ before ++ screen_lines state.grid state.spot) → OnOk result (AddsScreen charset picture before after)
adds_screen (Ok done) charset picture state before after shows is = record {
  lines = screen_lines state.grid state.spot;
  is = record { spot = state.spot; wished = shows.spot; lines = ap (λ g. screen_lines g state.spot) shows.grid };
  added = is;
}
adds_screen (Err error) charset picture state before after shows is = tt

-- rows were marked or not, and nothing was fed
pub still_terminal : (profile : ProfileView) (old new : MemoryView) (screen : ScreenView) → StillAgrees profile old new → IsTerminalFor profile old screen → IsTerminalFor profile new screen
still_terminal profile old new screen agrees terminal = record {
  rows = terminal.rows;
  columns = terminal.columns;
  charset = terminal.charset;
  valid = terminal.valid;
  state = terminal.state;
  agrees = agrees.still terminal.state terminal.agrees;
  negative = terminal.negative;
  nothing_waits = terminal.nothing_waits;
  defined = terminal.defined;
}

-- ---- with or without an update

pub sent_by : {A : Type 0} → (items : A → List ℕ) (raw : Bool) (profile : ProfileView) (old new : MemoryView) (virtual : VirtualView) (notes : List Note) (update : Option A) (none result : A)
    → raw ≡ true → IsSentIf profile old new virtual (option_map items update) → items none ≡ [] → result ≡ unwrap_or update none
    → IsOutputBetween raw profile old new (events_in notes ++ shown_if update virtual) (items result)
sent_by items raw profile old new virtual notes None none result mode sent e is = notes_sent raw profile old new notes [] (items result) mode (record {
  updates = [];
  bytes = ap items is ∙ e;
  plans = sent;
  show = λ state agrees. subst (λ m. Agrees (abilities profile) m state) (sym sent) agrees;
})
sent_by items raw profile old new virtual notes (Some b) none result mode sent e is =
    notes_sent raw profile old new notes (Shown virtual ∷ []) (items result) mode
    (sent_one profile old new virtual (items result) (subst (IsUpdateOf profile old new virtual) (sym (ap items is)) sent))

pub printed_some : {A : Type 0} → (raw : Bool) (profile : ProfileView) (old new : MemoryView) (virtual : VirtualView) (picture : PictureView) (notes : List Note) (update : Option A) (b : A)
    (before text : List ℕ) → raw ≡ false → virtual.picture ≡ picture → update ≡ Some b → before ≡ notes_lines notes → AddsScreen profile.charset picture before text
    → IsOutputBetween raw profile old new (events_in notes ++ shown_if update virtual) text
printed_some raw profile old new virtual picture notes update b before text mode shown e is adds =
    subst (λ u. IsOutputBetween raw profile old new (events_in notes ++ shown_if u virtual) text) (sym e)
    (printed_shown raw profile old new virtual picture notes adds.lines text mode shown adds.is (adds.added ∙ ap (λ t. t ++ adds.lines) is))

pub printed_none : {A : Type 0} → (raw : Bool) (profile : ProfileView) (old new : MemoryView) (virtual : VirtualView) (notes : List Note) (update : Option A) (text : List ℕ)
    → raw ≡ false → update ≡ None → text ≡ notes_lines notes → IsOutputBetween raw profile old new (events_in notes ++ shown_if update virtual) text
printed_none raw profile old new virtual notes update text mode e is =
    subst (λ u. IsOutputBetween raw profile old new (events_in notes ++ shown_if u virtual) text) (sym e) (printed_alone raw profile old new notes text mode is)

-- ---- stages

-- a terminal that is to be fed an update, or has nothing to be fed
pub ahead_some : {A : Type 0} → (items : A → List ℕ) (fed : Bool) (stage : Playing) (update : Option A) (b : A) (bytes : List ℕ) → fed ≡ true → update ≡ Some b → bytes ≡ items b
    → IsAhead fed stage (option_map items update) → IsAhead true stage (Some bytes)
ahead_some items fed stage update b bytes on e is ahead =
    subst (λ t. IsAhead true stage (Some t)) (sym is) (subst (λ u. IsAhead true stage (option_map items u)) e (subst (λ f. IsAhead f stage (option_map items update)) on ahead))

pub ahead_none : {A : Type 0} → (items : A → List ℕ) (fed : Bool) (stage : Playing) (update : Option A) → update ≡ None → IsAhead fed stage (option_map items update) → IsReadyStage fed stage
ahead_none items fed stage update e ahead = of_none (subst (λ u. IsAhead fed stage (option_map items u)) e ahead)
  where
    of_none : IsAhead fed stage None → IsReadyStage fed stage
    of_none none = record {
      screen = none.screen;
      terminal = λ on. subst (λ m. IsTerminalFor stage.screen.profile m stage.terminal) (sym none.sending.sent) (none.terminal on);
    }
