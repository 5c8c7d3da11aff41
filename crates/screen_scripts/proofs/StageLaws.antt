-- The stage that a script opens.
use Rattle.std.proofs.Common.{◌≡◌, ℕ, zero, suc, ◌<◌, ◌≤◌, ◌&&◌, nat_le, Bool, true, refl, sym, ◌∙◌, ap, subst, arith, [], Option, Some, None, if◌then◌else◌}
use Rattle.std.proofs.lemmas.Bool.Decides.{nat_tests}
use Rattle.std.proofs.lemmas.List.FromFn.{get_or-map-range_with_len}
use Rattle.scr_term.specs.Operations.Bundled.{BundledIsEcma48}
use Rattle.scr_cells.specs.declared.charsets.Charset.{Charset}
use Rattle.scr_cells.specs.PictureViews.{IsSize}
use Rattle.scr_cells.specs.declared.sizes.Size.{Size}
use Rattle.ti_caps.specs.Bundled.{IsBundled, bundled_texts, listed}
use Rattle.ti_caps.specs.Description.{Description, text_at}
use Rattle.scr_keys.specs.declared.sets.KeySet.TheVariants.{Table}
use Rattle.scr_keys.specs.Tables.{is_key, keys_below, keys_of, text_of_key, with_key, without_padding}
use Rattle.scr_term.specs.Operations.Admission.{IsAdmittedAs, IsEcma48, admitted}
use Rattle.scr_term.specs.Operations.Ecma48.{Ecma48Laws, ecma48_profile}
use Rattle.scr_term.specs.Operations.Laws.{BlankLaws}
use Rattle.scr_term.specs.Operations.Profiles.{ProfileView, abilities}
use Rattle.scr_term.specs.Operations.States.{TerminalState, IsState, blank_state}
use Rattle.scr_terminal.specs.Ecma.Screens.{ScreenView, IsScreen, blank_screen}
use Rattle.scr_memory.specs.Memories.{Agrees, MemoryView, unknown}
use Rattle.scr_memory.specs.MemoryRuns.{MemoryRuns}
use Rattle.scr_windows.specs.DeskViews.{first_desk}
use Rattle.scr_virtual.specs.VirtualViews.{blank_virtual}
use Rattle.curses.specs.ScreenStates.{ScreenState}
use Rattle.screen_scripts.specs.declared.commands.Command.TheVariants.{Size as SizeCommand}
use Rattle.screen_scripts.specs.declared.stages.Stage.{Stage as Playing}
use Rattle.screen_scripts.specs.Stories.{Outcome, Stage, bundled_description, bundled_keys, first_stage}
use Rattle.screen_scripts.specs.Running.{IsOpenedOn}
use Rattle.screen_scripts.specs.Showing.{IsFirst, IsReadyStage, IsTerminalFor, Opens}

-- ---- the keys of the bundled entry

texts_are : (slot : ℕ) → slot < 512 → text_at bundled_description slot ≡ listed bundled_texts slot
texts_are slot few = get_or-map-range_with_len (listed bundled_texts) 0 512 slot slot None few (omega arith)

same_below : (a b : Description) (n : ℕ) → ((slot : ℕ) → slot < n → text_at a slot ≡ text_at b slot) → keys_below Table a n ≡ keys_below Table b n
same_below a b zero same = refl
same_below a b (suc n) same =
    ap (λ keys. with_key keys (text_of_key Table a n) n) (same_below a b n (λ slot few. same slot (omega (arith, few))))
    ∙ ap (λ text. with_key (keys_below Table b n) (if is_key Table n then without_padding text else []) n) (same n (omega arith))

keys_are : (entry : Description) → IsBundled entry → keys_of Table entry ≡ bundled_keys
unfolding keys_of bundled_keys
keys_are entry is = same_below entry bundled_description 512 (λ slot few. is.texts slot ∙ sym (texts_are slot few))

-- ---- its profile

rows_are : (charset : Charset) (entry : Description) (size : Size) (profile : ProfileView) → IsAdmittedAs charset entry (Some size) profile → profile.rows ≡ size.rows
unfolding admitted
rows_are charset entry size profile is = ap {A = ProfileView} (λ p. p.rows) is.made

columns_are : (charset : Charset) (entry : Description) (size : Size) (profile : ProfileView) → IsAdmittedAs charset entry (Some size) profile → profile.columns ≡ size.columns
unfolding admitted
columns_are charset entry size profile is = ap {A = ProfileView} (λ p. p.columns) is.made

charset_is : (charset : Charset) (entry : Description) (size : Size) (profile : ProfileView) → IsAdmittedAs charset entry (Some size) profile → profile.charset ≡ charset
unfolding admitted
charset_is charset entry size profile is = ap {A = ProfileView} (λ p. p.charset) is.made

-- ---- a blank stage

-- where nothing is remembered, every state agrees
agrees_at_first : Ecma48Laws → MemoryRuns → (profile : ProfileView) (memory : MemoryView) → IsEcma48 profile → memory ≡ unknown profile.rows profile.columns
    → (state : TerminalState) → IsState (abilities profile) state → Agrees (abilities profile) memory state
agrees_at_first laws memories profile memory ecma is state valid =
    subst (λ m. Agrees (abilities profile) m state) (sym is) (memories.at_first profile (laws.is_profile profile ecma) state valid)

blank_terminal : Ecma48Laws → BlankLaws → MemoryRuns → (charset : Charset) (rows columns : ℕ) (profile : ProfileView) (memory : MemoryView) (terminal : ScreenView) → IsEcma48 profile → profile.charset ≡ charset
    → memory ≡ unknown profile.rows profile.columns → profile.rows ≡ rows → profile.columns ≡ columns → terminal ≡ blank_screen charset rows columns → IsScreen terminal
    → IsTerminalFor profile memory terminal
blank_terminal laws blanks memories charset rows columns profile memory terminal ecma spoken nothing r c is valid = record {
  rows = ap (λ t. t.rows) is ∙ sym r;
  columns = ap (λ t. t.columns) is ∙ sym c;
  charset = ap (λ t. t.charset) is ∙ sym spoken;
  valid = valid;
  state = blank_state profile.rows profile.columns;
  agrees = agrees_at_first laws memories profile memory ecma nothing (blank_state profile.rows profile.columns) (blanks.state profile (laws.is_profile profile ecma));
  negative = ap (λ t. t.state) is ∙ (λ i. blank_state (sym r i) (sym c i)) ∙ sym (blanks.negative profile.rows profile.columns);
  nothing_waits = ap (λ t. t.waiting) is;
  defined = ap (λ t. t.undefined) is;
}

pub blank_ready : BundledIsEcma48 → Ecma48Laws → BlankLaws → MemoryRuns → (charset : Charset) (size : Size) (screen : ScreenState) → IsOpenedOn charset size screen
    → (terminal : ScreenView) → terminal ≡ blank_screen charset size.rows size.columns → IsScreen terminal → IsReadyStage true (record { screen = screen; terminal = terminal })
blank_ready bundled_laws laws blanks memories charset size screen opened terminal blank valid =
    let entry = opened.entry in
    let is = opened.is in
    let ecma = bundled_laws charset entry (Some size) screen.profile opened.bundled is.profile in
    record {
      screen = record { entry = ecma; nothing = is.owed };
      terminal = λ on. blank_terminal laws blanks memories charset size.rows size.columns screen.profile screen.memory terminal ecma (charset_is charset entry size screen.profile is.profile) is.memory (rows_are charset entry size screen.profile is.profile)
          (columns_are charset entry size screen.profile is.profile) blank valid;
    }

pub blank_first : BundledIsEcma48 → Ecma48Laws → MemoryRuns → (charset : Charset) (size : Size) (screen : ScreenState) → IsOpenedOn charset size screen
    → (terminal : ScreenView) → IsFirst charset size.rows size.columns (record { screen = screen; terminal = terminal })
blank_first bundled_laws laws memories charset size screen opened terminal =
    let entry = opened.entry in
    let bundled = opened.bundled in
    let is = opened.is in
    let rows = rows_are charset entry size screen.profile is.profile in
    let columns = columns_are charset entry size screen.profile is.profile in
    record {
      is = λ i. record {
        drawn = record {
          desk = (is.desk ∙ (λ j. first_desk (rows j) (columns j))) i;
          virtual = (is.virtual ∙ (λ j. blank_virtual (rows j) (columns j))) i;
        };
        keys = record { keys = (is.keys.all ∙ keys_are entry bundled) i; queue = is.queue i; waiting = is.waiting i };
      };
      profile = laws.made screen.profile (bundled_laws charset entry (Some size) screen.profile bundled is.profile) ∙ (λ i. ecma48_profile (charset_is charset entry size screen.profile is.profile i) (rows i) (columns i));
      memory = is.memory;
      agrees = agrees_at_first laws memories screen.profile screen.memory (bundled_laws charset entry (Some size) screen.profile bundled is.profile) is.memory;
    }

-- ---- the first command

size_test : (rows columns : ℕ) → IsSize rows columns → (nat_le 1 rows && nat_le rows 500 && nat_le 1 columns && nat_le columns 500) ≡ true
size_test rows columns size = by_parts size.some_rows size.few_rows size.some_columns size.few_columns
  where
    by_parts : 1 ≤ rows → rows ≤ 500 → 1 ≤ columns → columns ≤ 500 → (nat_le 1 rows && nat_le rows 500 && nat_le 1 columns && nat_le columns 500) ≡ true
    by_parts a b c d = grind (arith, nat_tests)

pub opens : (charset : Charset) (rows columns : ℕ) (stage : Playing) → IsSize rows columns → IsReadyStage true stage → IsFirst charset rows columns stage → Opens charset (SizeCommand rows columns) stage
opens charset rows columns stage size ready first = record {
  is = ap {A = Bool} {B = Option Outcome} (λ b. if b then Some (record { stage = first_stage rows columns; events = [] }) else None) (size_test rows columns size)
      ∙ ap {A = Stage} {B = Option Outcome} (λ s. Some (record { stage = s; events = [] })) (sym first.is);
  profile = first.profile;
  ready = ready;
  memory = first.memory;
  agrees = first.agrees;
}
