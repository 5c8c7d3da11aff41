-- A text has one division, what it does is determined, and it does not matter how it was cut.
use Rattle.std.proofs.Common.{◌≡◌, ℕ, Bool, true, false, List, [], ◌∷◌, ◌++◌, Option, Some, None, ◌⊎◌, inl, inr, refl, sym, ap, ◌∙◌, subst, append_assoc}
use Rattle.std.specs.Prelude.{option_and_then}
use Rattle.std.specs.List.{AllByRecursion, flat_map}
use Rattle.std.proofs.lemmas.List.{append-nil}
use Rattle.scr_cells.specs.declared.charsets.Charset.{Charset}
use Rattle.scr_term.specs.Operations.States.{TerminalState}
use Rattle.scr_term.specs.Ecma.Units.{EcmaUnit, spelling, IsUnit, IsWaiting}
use Rattle.scr_term.specs.Ecma.Meanings.{meaning, meanings}
use Rattle.scr_terminal.specs.Ecma.Screens.{ScreenView, GoesOn, Stops, IsUndefinedAt, IsFed}
use Rattle.scr_terminal.specs.Ecma.Laws.{HasOneDivision}
use Rattle.scr_terminal.proofs.EcmaUnitLaws.{first_of_unit, one_unit, waiting_has_no_unit, waiting_begins_unit}

-- how a text ends where it is defined
abbrev pub Ends : Charset → List ℕ → Type 0
Ends charset rest = (rest ≡ []) ⊎ IsWaiting charset rest

unit_is_some : (charset : Charset) (u : EcmaUnit) (more : List ℕ) → IsUnit charset u → [] ≡ spelling u ++ more → ⊥
unit_is_some charset u more h e =
    let first = first_of_unit charset u h in
    let whole : [] ≡ first.0 ∷ (first.1 ++ more) = e ∙ ap (λ t. t ++ more) first.2 in
    cc

ending_has_no_unit : (charset : Charset) (rest more : List ℕ) (u : EcmaUnit) → Ends charset rest → IsUnit charset u → rest ≡ spelling u ++ more → ⊥
ending_has_no_unit charset rest more u (inl nil) h e = unit_is_some charset u more h (sym nil ∙ e)
ending_has_no_unit charset rest more u (inr waits) h e = waiting_has_no_unit charset rest more u waits h e

-- the tails of two texts that begin with units
first_units : (charset : Charset) (u v : EcmaUnit) (us vs : List EcmaUnit) (x y : List ℕ) → IsUnit charset u → IsUnit charset v
    → flat_map spelling (u ∷ us) ++ x ≡ flat_map spelling (v ∷ vs) ++ y
    → (u ≡ v) × (flat_map spelling us ++ x ≡ flat_map spelling vs ++ y)
first_units charset u v us vs x y h k e =
    one_unit charset u v (flat_map spelling us ++ x) (flat_map spelling vs ++ y) h k
    (sym (append_assoc (spelling u) (flat_map spelling us) x) ∙ e ∙ append_assoc (spelling v) (flat_map spelling vs) y)

one_ending : (charset : Charset) (us vs : List EcmaUnit) (x y : List ℕ) → AllByRecursion (IsUnit charset) us → AllByRecursion (IsUnit charset) vs → Ends charset x → Ends charset y
    → flat_map spelling us ++ x ≡ flat_map spelling vs ++ y → (us ≡ vs) × (x ≡ y)
one_ending charset [] [] x y h k m n e = (refl, e)
one_ending charset [] (v ∷ vs) x y h k m n e =
    absurd (ending_has_no_unit charset x (flat_map spelling vs ++ y) v m k.0 (e ∙ append_assoc (spelling v) (flat_map spelling vs) y))
one_ending charset (u ∷ us) [] x y h k m n e =
    absurd (ending_has_no_unit charset y (flat_map spelling us ++ x) u n h.0 (sym e ∙ append_assoc (spelling u) (flat_map spelling us) x))
one_ending charset (u ∷ us) (v ∷ vs) x y h k m n e =
    let tails = first_units charset u v us vs x y h.0 k.0 e in
    let rest = one_ending charset us vs x y h.1 k.1 m n tails.1 in
    let heads : u ≡ v = tails.0 in
    let others : us ≡ vs = rest.0 in
    (cc, rest.1)

pub one_division_holds : HasOneDivision
one_division_holds charset text units others rest other d ends e ends2 =
    one_ending charset units others rest other d.each e.each ends ends2 (sym d.whole ∙ e.whole)

some_first : (o : Option TerminalState) (f : TerminalState → Option TerminalState) (t : TerminalState) → option_and_then f o ≡ Some t
    → (next : TerminalState) × (o ≡ Some next) × (f next ≡ Some t)
some_first None f t e = cc
some_first (Some next) f t e = (next, refl, e)

pub meanings_first : (rows columns : ℕ) (s t : TerminalState) (u : EcmaUnit) (us : List EcmaUnit) → meanings rows columns s (u ∷ us) ≡ Some t
    → (next : TerminalState) × (meaning rows columns s u ≡ Some next) × (meanings rows columns next us ≡ Some t)
meanings_first rows columns s t u us e =
    some_first (meaning rows columns s u) (λ next. meanings rows columns next us) t e

-- what is defined is not undefined
defined_at : (screen : ScreenView) (next : TerminalState) (u : EcmaUnit) (rest more : List ℕ) → IsUnit screen.charset u → rest ≡ spelling u ++ more
    → meaning screen.rows screen.columns screen.state u ≡ Some next → IsUndefinedAt screen rest → ⊥
defined_at screen next u rest more h e m (inl (v, others, k, f, none)) =
    let same = one_unit screen.charset u v more others h k (sym e ∙ f) in
    let units : u ≡ v = same.0 in
    let both : meaning screen.rows screen.columns screen.state u ≡ None = ap (meaning screen.rows screen.columns screen.state) units ∙ none in
    cc
defined_at screen next u rest more h e m (inr begins_none) = begins_none.1 u [] more h (append-nil rest ∙ e)

ending_is_defined : (screen : ScreenView) (rest : List ℕ) → Ends screen.charset rest → IsUndefinedAt screen rest → ⊥
ending_is_defined screen rest ends (inl (v, others, k, f, none)) = ending_has_no_unit screen.charset rest others v ends k f
ending_is_defined screen rest (inl nil) (inr begins_none) = begins_none.0 nil
ending_is_defined screen rest (inr waits) (inr begins_none) = waiting_begins_unit screen.charset rest waits begins_none

-- a text that is defined to its end is nowhere undefined
not_both : (old : ScreenView) (s t₁ t₂ : TerminalState) (us vs : List EcmaUnit) (x y : List ℕ)
    → AllByRecursion (IsUnit old.charset) us → AllByRecursion (IsUnit old.charset) vs
    → meanings old.rows old.columns s us ≡ Some t₁ → meanings old.rows old.columns s vs ≡ Some t₂
    → Ends old.charset x → IsUndefinedAt (record old { state = t₂ }) y
    → flat_map spelling us ++ x ≡ flat_map spelling vs ++ y → ⊥
not_both old s t₁ t₂ [] [] x y h k m n ends off e =
    ending_is_defined (record old { state = t₂ }) y (subst (Ends old.charset) e ends) off
not_both old s t₁ t₂ [] (v ∷ vs) x y h k m n ends off e =
    ending_has_no_unit old.charset x (flat_map spelling vs ++ y) v ends k.0 (e ∙ append_assoc (spelling v) (flat_map spelling vs) y)
not_both old s t₁ t₂ (u ∷ us) [] x y h k m n ends off e =
    let step = meanings_first old.rows old.columns s t₁ u us m in
    let same : s ≡ t₂ = cc in
    defined_at (record old { state = t₂ }) step.0 u y (flat_map spelling us ++ x) h.0
    (sym e ∙ append_assoc (spelling u) (flat_map spelling us) x)
    (subst (λ (z : TerminalState). meaning old.rows old.columns z u ≡ Some step.0) same step.1) off
not_both old s t₁ t₂ (u ∷ us) (v ∷ vs) x y h k m n ends off e =
    let tails = first_units old.charset u v us vs x y h.0 k.0 e in
    let a = meanings_first old.rows old.columns s t₁ u us m in
    let b = meanings_first old.rows old.columns s t₂ v vs n in
    let heads : u ≡ v = tails.0 in
    let left : meaning old.rows old.columns s u ≡ Some a.0 = a.1 in
    let right : meaning old.rows old.columns s v ≡ Some b.0 = b.1 in
    let nexts : b.0 ≡ a.0 = cc in
    not_both old a.0 t₁ t₂ us vs x y h.1 k.1 a.2
    (subst (λ (z : TerminalState). meanings old.rows old.columns z vs ≡ Some t₂) nexts b.2) ends off tails.1

-- a text is undefined in one state
one_stop : (old : ScreenView) (s t₁ t₂ : TerminalState) (us vs : List EcmaUnit) (x y : List ℕ)
    → AllByRecursion (IsUnit old.charset) us → AllByRecursion (IsUnit old.charset) vs
    → meanings old.rows old.columns s us ≡ Some t₁ → meanings old.rows old.columns s vs ≡ Some t₂
    → IsUndefinedAt (record old { state = t₁ }) x → IsUndefinedAt (record old { state = t₂ }) y
    → flat_map spelling us ++ x ≡ flat_map spelling vs ++ y → t₁ ≡ t₂
one_stop old s t₁ t₂ [] [] x y h k m n on off e = cc
one_stop old s t₁ t₂ [] (v ∷ vs) x y h k m n on off e =
    let step = meanings_first old.rows old.columns s t₂ v vs n in
    let same : s ≡ t₁ = cc in
    absurd (defined_at (record old { state = t₁ }) step.0 v x (flat_map spelling vs ++ y) k.0
    (e ∙ append_assoc (spelling v) (flat_map spelling vs) y)
    (subst (λ (z : TerminalState). meaning old.rows old.columns z v ≡ Some step.0) same step.1) on)
one_stop old s t₁ t₂ (u ∷ us) [] x y h k m n on off e =
    let step = meanings_first old.rows old.columns s t₁ u us m in
    let same : s ≡ t₂ = cc in
    absurd (defined_at (record old { state = t₂ }) step.0 u y (flat_map spelling us ++ x) h.0
    (sym e ∙ append_assoc (spelling u) (flat_map spelling us) x)
    (subst (λ (z : TerminalState). meaning old.rows old.columns z u ≡ Some step.0) same step.1) off)
one_stop old s t₁ t₂ (u ∷ us) (v ∷ vs) x y h k m n on off e =
    let tails = first_units old.charset u v us vs x y h.0 k.0 e in
    let a = meanings_first old.rows old.columns s t₁ u us m in
    let b = meanings_first old.rows old.columns s t₂ v vs n in
    let heads : u ≡ v = tails.0 in
    let left : meaning old.rows old.columns s u ≡ Some a.0 = a.1 in
    let right : meaning old.rows old.columns s v ≡ Some b.0 = b.1 in
    let nexts : b.0 ≡ a.0 = cc in
    one_stop old a.0 t₁ t₂ us vs x y h.1 k.1 a.2
    (subst (λ (z : TerminalState). meanings old.rows old.columns z vs ≡ Some t₂) nexts b.2) on off tails.1

same_screen : (a b : ScreenView) → a.rows ≡ b.rows → a.columns ≡ b.columns → a.charset ≡ b.charset → a.state ≡ b.state → a.waiting ≡ b.waiting
    → a.undefined ≡ b.undefined → a ≡ b
same_screen a b r c k s w u = λ i. record { rows = r i; columns = c i; charset = k i; state = s i; waiting = w i; undefined = u i }

goes_on_once : (old new other : ScreenView) (text : List ℕ) → GoesOn old text new → GoesOn old text other
    → (new.state ≡ other.state) × (new.waiting ≡ other.waiting) × (new.undefined ≡ other.undefined)
goes_on_once old new other text a b =
    let same = one_division_holds old.charset text a.units b.units new.waiting other.waiting a.division a.waiting b.division b.waiting in
    let units : a.units ≡ b.units = same.0 in
    let left : meanings old.rows old.columns old.state a.units ≡ Some new.state = a.meaning in
    let right : meanings old.rows old.columns old.state b.units ≡ Some other.state = b.meaning in
    (cc, same.1, a.defined ∙ sym b.defined)

goes_on_or_stops : (old new other : ScreenView) (text : List ℕ) → GoesOn old text new → Stops old text other → ⊥
goes_on_or_stops old new other text a b =
    not_both old old.state new.state other.state a.units b.units new.waiting b.rest a.division.each b.division.each a.meaning b.meaning
    a.waiting b.undefined_at (sym a.division.whole ∙ b.division.whole)

stops_once : (old new other : ScreenView) (text : List ℕ) → Stops old text new → Stops old text other
    → (new.state ≡ other.state) × (new.waiting ≡ other.waiting) × (new.undefined ≡ other.undefined)
stops_once old new other text a b = (
  one_stop old old.state new.state other.state a.units b.units a.rest b.rest a.division.each b.division.each a.meaning b.meaning
      a.undefined_at b.undefined_at (sym a.division.whole ∙ b.division.whole),
  a.waiting ∙ sym b.waiting,
  a.undefined ∙ sym b.undefined,
)

acts_once : (old new other : ScreenView) (text : List ℕ) → GoesOn old text new ⊎ Stops old text new → GoesOn old text other ⊎ Stops old text other
    → (new.state ≡ other.state) × (new.waiting ≡ other.waiting) × (new.undefined ≡ other.undefined)
acts_once old new other text (inl a) (inl b) = goes_on_once old new other text a b
acts_once old new other text (inl a) (inr b) = absurd (goes_on_or_stops old new other text a b)
acts_once old new other text (inr a) (inl b) = absurd (goes_on_or_stops old other new text b a)
acts_once old new other text (inr a) (inr b) = stops_once old new other text a b

fed_once_by : (old new other : ScreenView) (piece : List ℕ) (undefined : Bool) → old.undefined ≡ undefined
    → IsFed old piece new → IsFed old piece other → new ≡ other
fed_once_by old new other piece true is a b = a.stays is ∙ sym (b.stays is)
fed_once_by old new other piece false is a b =
    let same = acts_once old new other (old.waiting ++ piece) (a.acts is) (b.acts is) in
    same_screen new other (a.rows ∙ sym b.rows) (a.columns ∙ sym b.columns) (a.charset ∙ sym b.charset) same.0 same.1 same.2

pub fed_once : (old new other : ScreenView) (piece : List ℕ) → IsFed old piece new → IsFed old piece other → new ≡ other
fed_once old new other piece a b = fed_once_by old new other piece old.undefined refl a b
