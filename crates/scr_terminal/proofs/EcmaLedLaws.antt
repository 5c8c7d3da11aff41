-- A screen follows a text that leads from its state to another.
use Rattle.std.proofs.Common.{◌≡◌, ℕ, false, List, [], ◌++◌, inl, refl, sym, ap, ◌∙◌}
use Rattle.std.specs.List.{flat_map}
use Rattle.scr_term.specs.Operations.States.{TerminalState}
use Rattle.scr_term.specs.Ecma.Units.{spelling}
use Rattle.scr_terminal.specs.Ecma.Screens.{ScreenView, IsFed}
use Rattle.scr_term.specs.Ecma.Meanings.{Leads}
use Rattle.scr_terminal.specs.Ecma.Laws.{ScreensFollowTexts}
use Rattle.scr_terminal.proofs.EcmaDivisionLaws.{fed_once}

fed_led : (old : ScreenView) (text : List ℕ) (state : TerminalState) → old.undefined ≡ false → old.waiting ≡ []
    → Leads old.charset old.rows old.columns old.state text state → IsFed old text (record old { state = state })
fed_led old text state defined none leads = record {
  rows = refl;
  columns = refl;
  charset = refl;
  stays = λ u. cc;
  acts = λ d. inl (record {
    units = leads.units;
    division = record {
      whole = ap (λ w. w ++ text) none ∙ leads.division.whole ∙ ap (λ w. flat_map spelling leads.units ++ w) (sym none);
      each = leads.division.each;
    };
    meaning = leads.meaning;
    waiting = inl none;
    defined = d;
  });
}

pub screens_follow_texts_holds : ScreensFollowTexts
screens_follow_texts_holds old new text state valid defined none leads fed =
    fed_once old new (record old { state = state }) text fed (fed_led old text state defined none leads)
