-- It does not matter how a text was cut into pieces.
use Rattle.std.proofs.Common.{◌≡◌, ℕ, true, List, [], ◌∷◌, ◌++◌, Some, ◌⊎◌, inl, inr, refl, sym, ap, ◌∙◌, subst, append_assoc}
use Rattle.std.specs.Prelude.{option_and_then}
use Rattle.std.specs.List.{AllByRecursion, flat_map}
use Rattle.std.proofs.lemmas.List.Concat.{flat_map-append}
use Rattle.scr_cells.specs.declared.charsets.Charset.{Charset}
use Rattle.scr_term.specs.Operations.States.{TerminalState}
use Rattle.scr_term.specs.Ecma.Units.{EcmaUnit, spelling, IsUnit, IsDivision, IsWaiting, BeginsNoUnit}
use Rattle.scr_term.specs.Ecma.Meanings.{meanings}
use Rattle.scr_terminal.specs.Ecma.Screens.{ScreenView, GoesOn, Stops, IsUndefinedAt, IsFed}
use Rattle.scr_terminal.specs.Ecma.Laws.{PiecesDoNotMatter}
use Rattle.scr_terminal.proofs.EcmaDivisionLaws.{meanings_first, fed_once}

each_append : (charset : Charset) (us vs : List EcmaUnit) → AllByRecursion (IsUnit charset) us → AllByRecursion (IsUnit charset) vs → AllByRecursion (IsUnit charset) (us ++ vs)
each_append charset [] vs h k = k
each_append charset (u ∷ us) vs h k = (h.0, each_append charset us vs h.1 k)

meanings_go_on : (rows columns : ℕ) (s t : TerminalState) (us vs : List EcmaUnit) → meanings rows columns s us ≡ Some t
    → meanings rows columns s (us ++ vs) ≡ meanings rows columns t vs
meanings_go_on rows columns s t [] vs e = let same : s ≡ t = cc in ap (λ (z : TerminalState). meanings rows columns z vs) same
meanings_go_on rows columns s t (u ∷ us) vs e =
    let step = meanings_first rows columns s t u us e in
    ap (option_and_then (λ (next : TerminalState). meanings rows columns next (us ++ vs))) step.1
    ∙ meanings_go_on rows columns step.0 t us vs step.2

-- a division of a text whose rest is divided further
division_append : (charset : Charset) (text rest next : List ℕ) (us vs : List EcmaUnit) → IsDivision charset text us rest
    → (more : List ℕ) → IsDivision charset (rest ++ more) vs next → IsDivision charset (text ++ more) (us ++ vs) next
division_append charset text rest next us vs d more e = record {
  whole =
      ap (λ t. t ++ more) d.whole ∙ append_assoc (flat_map spelling us) rest more ∙ ap (λ t. flat_map spelling us ++ t) e.whole
      ∙ sym (append_assoc (flat_map spelling us) (flat_map spelling vs) next)
      ∙ ap (λ t. t ++ next) (sym (flat_map-append spelling us vs));
  each = each_append charset us vs d.each e.each;
}

-- the text before a cut and the piece after it
cut_text : (waiting piece next : List ℕ) → waiting ++ (piece ++ next) ≡ (waiting ++ piece) ++ next
cut_text waiting piece next = sym (append_assoc waiting piece next)

undefined_at_like : (a b : ScreenView) (rest : List ℕ) → a.rows ≡ b.rows → a.columns ≡ b.columns → a.charset ≡ b.charset → a.state ≡ b.state
    → IsUndefinedAt a rest → IsUndefinedAt b rest
undefined_at_like a b rest r c k s (inl (u, more, h, e, none)) = inl (u, more, subst (λ z. IsUnit z u) k h, e, (cc))
undefined_at_like a b rest r c k s (inr begins_none) = inr (subst (λ z. BeginsNoUnit z rest) k begins_none)

begins_no_unit_more : (charset : Charset) (rest next : List ℕ) → BeginsNoUnit charset rest → BeginsNoUnit charset (rest ++ next)
begins_no_unit_more charset [] next h = absurd (h.0 refl)
begins_no_unit_more charset (x ∷ rest) next h = (
  λ (e : x ∷ rest ++ next ≡ []). cc,
  λ u more others k e. h.1 u (next ++ more) others k (sym (append_assoc (x ∷ rest) next more) ∙ e),
)

undefined_at_more : (screen : ScreenView) (rest next : List ℕ) → IsUndefinedAt screen rest → IsUndefinedAt screen (rest ++ next)
undefined_at_more screen rest next (inl (u, more, h, e, none)) =
    inl (u, more ++ next, h, ap (λ t. t ++ next) e ∙ append_assoc (spelling u) more next, none)
undefined_at_more screen rest next (inr begins_none) = inr (begins_no_unit_more screen.charset rest next begins_none)

stops_more : (old new : ScreenView) (text next : List ℕ) → Stops old text new → Stops old (text ++ next) new
stops_more old new text next a = record {
  units = a.units;
  rest = a.rest ++ next;
  division = record {
    whole = ap (λ t. t ++ next) a.division.whole ∙ append_assoc (flat_map spelling a.units) a.rest next;
    each = a.division.each;
  };
  meaning = a.meaning;
  undefined_at = undefined_at_more (record old { state = new.state }) a.rest next a.undefined_at;
  waiting = a.waiting;
  undefined = a.undefined;
}

goes_on_further : (old between new : ScreenView) (text next : List ℕ) → between.rows ≡ old.rows → between.columns ≡ old.columns → between.charset ≡ old.charset
    → GoesOn old text between → GoesOn between (between.waiting ++ next) new → GoesOn old (text ++ next) new
goes_on_further old between new text next r c k a b =
    let before : meanings old.rows old.columns old.state (a.units ++ b.units) ≡ meanings old.rows old.columns between.state b.units =
    meanings_go_on old.rows old.columns old.state between.state a.units b.units a.meaning in
    let after : meanings between.rows between.columns between.state b.units ≡ Some new.state = b.meaning in
    record {
      units = a.units ++ b.units;
      division = division_append old.charset text between.waiting new.waiting a.units b.units a.division next
          (subst (λ z. IsDivision z (between.waiting ++ next) b.units new.waiting) k b.division);
      meaning = (cc);
      waiting = subst (λ z. (new.waiting ≡ []) ⊎ IsWaiting z new.waiting) k b.waiting;
      defined = b.defined;
    }

stops_further : (old between new : ScreenView) (text next : List ℕ) → between.rows ≡ old.rows → between.columns ≡ old.columns → between.charset ≡ old.charset
    → GoesOn old text between → Stops between (between.waiting ++ next) new → Stops old (text ++ next) new
stops_further old between new text next r c k a b =
    let before : meanings old.rows old.columns old.state (a.units ++ b.units) ≡ meanings old.rows old.columns between.state b.units =
    meanings_go_on old.rows old.columns old.state between.state a.units b.units a.meaning in
    let after : meanings between.rows between.columns between.state b.units ≡ Some new.state = b.meaning in
    record {
      units = a.units ++ b.units;
      rest = b.rest;
      division = division_append old.charset text between.waiting b.rest a.units b.units a.division next
          (subst (λ z. IsDivision z (between.waiting ++ next) b.units b.rest) k b.division);
      meaning = (cc);
      undefined_at =
          undefined_at_like (record between { state = new.state }) (record old { state = new.state }) b.rest r c k refl b.undefined_at;
      waiting = b.waiting;
      undefined = b.undefined;
    }

acts_further : (old between new : ScreenView) (text next : List ℕ) → GoesOn old text between ⊎ Stops old text between → IsFed between next new
    → between.rows ≡ old.rows → between.columns ≡ old.columns → between.charset ≡ old.charset
    → GoesOn old (text ++ next) new ⊎ Stops old (text ++ next) new
acts_further old between new text next (inl a) b r c k =
    elim (b.acts a.defined) [
      | inl go ↦ inl (goes_on_further old between new text next r c k a go)
      | inr stop ↦ inr (stops_further old between new text next r c k a stop)
    ]
acts_further old between new text next (inr a) b r c k =
    inr (subst (λ (s : ScreenView). Stops old (text ++ next) s) (sym (b.stays a.undefined)) (stops_more old between text next a))

pub fed_cut : (old between new : ScreenView) (piece next : List ℕ) → IsFed old piece between → IsFed between next new
    → IsFed old (piece ++ next) new
fed_cut old between new piece next a b = record {
  rows = b.rows ∙ a.rows;
  columns = b.columns ∙ a.columns;
  charset = b.charset ∙ a.charset;
  stays = λ u.
      let first : between ≡ old = a.stays u in
      let still : between.undefined ≡ true = ap (λ (s : ScreenView). s.undefined) first ∙ u in
      b.stays still ∙ first;
  acts = λ d.
      subst (λ t. GoesOn old t new ⊎ Stops old t new) (append_assoc old.waiting piece next)
      (acts_further old between new (old.waiting ++ piece) next (a.acts d) b a.rows a.columns a.charset);
}

pub pieces_do_not_matter_holds : PiecesDoNotMatter
pieces_do_not_matter_holds = record {
  one = λ old new other piece valid a b. fed_once old new other piece a b;
  cut = λ old between new piece next valid a b. fed_cut old between new piece next a b;
}
