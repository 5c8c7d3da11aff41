-- What a screen sends at the beginning and at the end of a program's use of it.
use Rattle.std.proofs.Common.{◌≡◌, ◌≢◌, ℕ, ◌+◌, ◌-◌, ◌<◌, ◌&&◌, nat_lt, Bool, true, false, refl, sym, ◌∙◌, ap, subst, arith, take, length, bit_and, List, [], ◌∷◌, ◌++◌, Some, None, inr, option_and_then, if◌then◌else◌}
use Rattle.std.specs.Io.KnownBytes.{Keeps}
use Rattle.std.proofs.Math.Bool.{or-true}
use Rattle.std.proofs.lemmas.Bool.Decides.{nat_tests}
use Rattle.std.proofs.lemmas.List.{take_all}
use Rattle.std.proofs.lemmas.Nat.{and_le_l}
use Rattle.scr_cells.specs.PenViews.{PenView, plain_pen}
use Rattle.scr_term.specs.declared.operations.capability.Capability.TheVariants.{Sgr0}
use Rattle.scr_term.specs.declared.operations.operation.Op.{Op}
use Rattle.scr_term.specs.declared.operations.operation.Op.TheVariants.{Move, Reset}
use Rattle.scr_term.specs.Operations.Laws.{BytesActAsTheirOperations, HasLaws, ProfilesHave, RunLaws}
use Rattle.scr_term.specs.Operations.Profiles.{ProfileView, IsProfile, abilities, is_there}
use Rattle.scr_term.specs.Operations.States.{TerminalState, AreShownColours, IsShownPen, IsState, moved_to}
use Rattle.scr_term.specs.Operations.Steps.{act, runs}
use Rattle.scr_term.specs.Operations.Texts.{all_bytes, has}
use Rattle.scr_plan.specs.Scratch.{resets}
use Rattle.curses.specs.Cuts.{IsCut}
use Rattle.curses.specs.Starting.{AreSent, ClosingLaws, IsStopped, closed_state, closing_ops}
use Rattle.curses.specs.Writers.{WriterView, counted}
use Rattle.curses.proofs.CutLaws.{cut_kept, cuts_join, rest_of_text}
use Rattle.curses.proofs.UpdateLaws.{beginning}

-- ---- nothing on, and the cursor on the last line

-- one operation that the profile has
one_run : (profile : ProfileView) (old new : TerminalState) (op : Op) → has profile op ≡ true → act profile old op ≡ Some new → runs profile old (op ∷ []) ≡ Some new
one_run profile old new op had acts = ap (option_and_then (λ next. runs profile next [])) (ap (λ b. if b then act profile old op else None) had ∙ acts)

-- a terminal that cannot turn attributes off has none on
always_plain : (profile : ProfileView) → HasLaws profile → is_there profile Sgr0 ≡ false → (pen : PenView) → IsShownPen (abilities profile) pen → pen ≡ plain_pen
always_plain profile can none pen shown =
    let nothing : bit_and 0 pen.attrs ≡ pen.attrs = ap (λ set. bit_and set pen.attrs) (sym (can.plain_set none)) ∙ shown.attrs in
    let attrs : pen.attrs ≡ 0 = omega (arith, nothing, and_le_l 0 pen.attrs) in
    let colours : AreShownColours false pen.foreground pen.background = subst (λ b. AreShownColours b pen.foreground pen.background) (can.plain_colours none) shown.colours in
    λ i. record { attrs = attrs i; foreground = colours.0 i; background = colours.1 i }

-- all is turned off
abbrev with_pen : PenView → TerminalState → TerminalState
with_pen pen state = record { grid = state.grid; spot = state.spot; pen = pen }

turned_off : (profile : ProfileView) → HasLaws profile → (old : TerminalState) → IsShownPen (abilities profile) old.pen → (b : Bool) → is_there profile Sgr0 ≡ b
    → runs profile old (if b then Reset ∷ [] else []) ≡ Some (with_pen plain_pen old)
turned_off profile can old shown true there = one_run profile old (with_pen plain_pen old) Reset (can.reset there) refl
turned_off profile can old shown false there = ap (λ pen. Some (with_pen pen old)) (always_plain profile can there old.pen shown)

-- and then the cursor moves
moved_off : (profile : ProfileView) → IsProfile profile → HasLaws profile → (old : TerminalState) → runs profile (with_pen plain_pen old) (Move (profile.rows - 1) 0 ∷ []) ≡ Some (closed_state profile old)
moved_off profile p can old =
    let low : profile.rows - 1 < profile.rows = omega (arith, p.size.some_rows) in
    let left : 0 < profile.columns = omega (arith, p.size.some_columns) in
    let here : (nat_lt (profile.rows - 1) profile.rows && nat_lt 0 profile.columns) ≡ true = grind (arith, nat_tests, low, left) in
    one_run profile (with_pen plain_pen old) (closed_state profile old) (Move (profile.rows - 1) 0) (can.move (profile.rows - 1) 0 low left)
    (ap (λ b. if b then moved_to profile.rows profile.columns (with_pen plain_pen old) (profile.rows - 1) 0 else None) (or-true profile.msgr)
    ∙ ap (λ b. if b then Some (closed_state profile old) else None) here)

closing_run : RunLaws → (profile : ProfileView) → IsProfile profile → HasLaws profile → (old : TerminalState) → IsState (abilities profile) old → runs profile old (closing_ops profile) ≡ Some (closed_state profile old)
closing_run laws profile p can old state =
    laws.joined profile old (with_pen plain_pen old) (resets profile) (Move (profile.rows - 1) 0 ∷ []) (turned_off profile can old state.pen (is_there profile Sgr0) refl)
    ∙ moved_off profile p can old

pub closes_plain : ProfilesHave → RunLaws → BytesActAsTheirOperations → ClosingLaws
closes_plain have laws acts profile p state is =
    let run = closing_run laws profile p (have profile p) state is in
    record {
      run = run;
      beginnings = λ k. beginning laws profile p state (closed_state profile state) is (closing_ops profile) k run;
      leads = λ bundled. acts profile bundled state (closed_state profile state) is (closing_ops profile) run;
    }

-- ---- operations, and a text behind them

-- operations were sent whole, and then a text
text_behind : (profile : ProfileView) (ops : List Op) (begun : ℕ) (text owed between rest : List ℕ) (old mid new : WriterView) (n m : ℕ) → begun ≡ length ops → between ≡ []
    → IsCut owed (all_bytes profile (take begun ops)) old.taken mid.taken n between → IsCut [] text mid.taken new.taken m rest → IsCut owed (all_bytes profile ops ++ text) old.taken new.taken (n + m) rest
text_behind profile ops begun text owed between rest old mid new n m whole none first second =
    cuts_join owed [] rest (all_bytes profile ops) text old.taken mid.taken new.taken n m
    (subst (λ t. IsCut owed (all_bytes profile ops) old.taken mid.taken n t) none
    (subst (λ t. IsCut owed (all_bytes profile t) old.taken mid.taken n between) (ap (λ k. take k ops) whole ∙ take_all (length ops) ops (omega arith)) first))
    second

-- the whole of it reached its end, or not
pub sent_whole : (profile : ProfileView) (ops : List Op) (begun : ℕ) (text owed between rest : List ℕ) (old mid late new : WriterView) (n m : ℕ) → begun ≡ length ops → between ≡ [] → rest ≡ []
    → IsCut owed (all_bytes profile (take begun ops)) old.taken mid.taken n between → IsCut [] text mid.taken late.taken m rest → Keeps late.taken new.taken → new.failed_puts ≡ old.failed_puts
    → AreSent profile ops text owed old new (n + m) rest
sent_whole profile ops begun text owed between rest old mid late new n m whole none nothing first second keeps puts = record {
  cut = cut_kept owed (all_bytes profile ops ++ text) rest old.taken late.taken new.taken (n + m) (text_behind profile ops begun text owed between rest old mid late n m whole none first second) keeps;
  nothing = nothing;
  puts = puts;
}

-- a write of the text failed
pub stopped_in_text : (profile : ProfileView) (ops : List Op) (begun : ℕ) (text owed between rest : List ℕ) (old mid new : WriterView) (n m : ℕ) → begun ≡ length ops → between ≡ [] → rest ≢ []
    → IsCut owed (all_bytes profile (take begun ops)) old.taken mid.taken n between → IsCut [] text mid.taken new.taken m rest → new.failed_puts ≡ counted true old.failed_puts
    → new.finishes ≡ old.finishes → IsStopped profile ops text owed old new (n + m) rest
stopped_in_text profile ops begun text owed between rest old mid new n m whole none something first second puts finishes = record {
  place = inr (record {
    cut = text_behind profile ops begun text owed between rest old mid new n m whole none first second;
    one = rest_of_text text rest mid.taken new.taken m second;
  });
  something = something;
  puts = puts;
  finishes = finishes;
}
