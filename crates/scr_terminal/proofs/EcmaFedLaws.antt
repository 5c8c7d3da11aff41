-- What one byte does to a screen, and a piece byte by byte.
use Rattle.std.proofs.Common.{◌≡◌, ℕ, ◌+◌, ◌<◌, ◌≤◌, Bool, true, false, List, [], ◌∷◌, ◌++◌, length, take, get_or, Option, Some, None, inl, inr, refl, sym, ap, ◌∙◌, subst}
use Rattle.std.specs.Prelude.{option_and_then, option_map}
use Rattle.std.proofs.lemmas.List.{append-nil, take_more}
use Rattle.scr_cells.specs.declared.charsets.Charset.{Charset}
use Rattle.scr_cells.specs.PenViews.{PenView}
use Rattle.scr_term.specs.Operations.States.{TerminalState, character_written}
use Rattle.scr_term.specs.Ecma.Units.{EcmaUnit, Graphic, Spelled, Control, Sequence, spelling, IsUnit, IsSequence, IsWaiting, BeginsNoUnit}
use Rattle.scr_term.specs.Ecma.Meanings.{meaning}
use Rattle.scr_terminal.specs.Ecma.Screens.{ScreenView, IsScreen, IsFed}
use Rattle.scr_terminal.specs.Code.Changes.{MakesAt, MakesWith, changed}
use Rattle.scr_terminal.specs.Code.Readings.{IsLast, IsReading, acted}
use Rattle.scr_terminal.specs.declared.changes.Change.{Change}
use Rattle.scr_term.specs.declared.operations.operation.Spot.{Spot}
use Rattle.scr_terminal.specs.declared.ecma.readings.Reading.{Reading}
use Rattle.scr_terminal.specs.declared.ecma.readings.Reading.TheVariants as reading
use Rattle.scr_terminal.proofs.EcmaPieceLaws.{fed_cut}

-- nothing comes
pub fed_none : (s : ScreenView) → IsScreen s → IsFed s [] s
fed_none s valid = record {
  rows = refl;
  columns = refl;
  charset = refl;
  stays = λ u. refl;
  acts = λ d. inl (record {
    units = [];
    division = record { whole = append-nil s.waiting; each = tt };
    meaning = refl;
    waiting = valid.waiting;
    defined = d;
  });
}

-- an undefined screen stays
pub fed_stays : (s : ScreenView) (piece : List ℕ) → s.undefined ≡ true → IsFed s piece s
fed_stays s piece is = record {
  rows = refl;
  columns = refl;
  charset = refl;
  stays = λ u. refl;
  acts = λ d. cc;
}

-- a byte that does not end a unit
pub fed_held : (s : ScreenView) (b : ℕ) → s.undefined ≡ false → IsWaiting s.charset (s.waiting ++ b ∷ [])
    → IsFed s (b ∷ []) (record s { waiting = s.waiting ++ b ∷ [] })
fed_held s b is waits = record {
  rows = refl;
  columns = refl;
  charset = refl;
  stays = λ u. cc;
  acts = λ d. inl (record {
    units = [];
    division = record { whole = refl; each = tt };
    meaning = refl;
    waiting = inr waits;
    defined = d;
  });
}

whole_unit : (s : ScreenView) (b : ℕ) (u : EcmaUnit) → s.waiting ++ b ∷ [] ≡ spelling u → s.waiting ++ b ∷ [] ≡ (spelling u ++ []) ++ []
whole_unit s b u e = e ∙ sym (append-nil (spelling u)) ∙ sym (append-nil (spelling u ++ []))

-- the last byte of a unit
fed_unit_by : (s : ScreenView) (b : ℕ) (u : EcmaUnit) (o : Option TerminalState) → s.undefined ≡ false → IsUnit s.charset u → s.waiting ++ b ∷ [] ≡ spelling u
    → meaning s.rows s.columns s.state u ≡ o → IsFed s (b ∷ []) (acted s o)
fed_unit_by s b u (Some next) is h e m = record {
  rows = refl;
  columns = refl;
  charset = refl;
  stays = λ un. cc;
  acts = λ d. inl (record {
    units = u ∷ [];
    division = record { whole = whole_unit s b u e; each = (h, tt) };
    meaning = ap (option_and_then (λ (x : TerminalState). Some x)) m;
    waiting = inl refl;
    defined = d;
  });
}
fed_unit_by s b u None is h e m = record {
  rows = refl;
  columns = refl;
  charset = refl;
  stays = λ un. cc;
  acts = λ d. inr (record {
    units = [];
    rest = s.waiting ++ b ∷ [];
    division = record { whole = refl; each = tt };
    meaning = refl;
    undefined_at = inl (u, [], h, e ∙ sym (append-nil (spelling u)), m);
    waiting = refl;
    undefined = refl;
  });
}

fed_unit : (s : ScreenView) (b : ℕ) (u : EcmaUnit) → s.undefined ≡ false → IsUnit s.charset u → s.waiting ++ b ∷ [] ≡ spelling u
    → IsFed s (b ∷ []) (acted s (meaning s.rows s.columns s.state u))
fed_unit s b u is h e = fed_unit_by s b u (meaning s.rows s.columns s.state u) is h e refl

pub fed_graphic : (s : ScreenView) (b : ℕ) → s.undefined ≡ false → s.waiting ≡ [] → 32 ≤ b → b ≤ 126
    → IsFed s (b ∷ []) (acted s (character_written s.columns s.state b))
fed_graphic s b is none low high = fed_unit s b (Graphic b) is (low, high) (ap (λ w. w ++ b ∷ []) none)

pub fed_last : (s : ScreenView) (b : ℕ) (ps : List ℕ) → s.undefined ≡ false → s.waiting ≡ 27 ∷ 91 ∷ ps → IsSequence ps b
    → IsFed s (b ∷ []) (acted s (meaning s.rows s.columns s.state (Sequence ps b)))
fed_last s b ps is whole h = fed_unit s b (Sequence ps b) is h (ap (λ w. w ++ b ∷ []) whole)

fed_no_unit : (s : ScreenView) (b : ℕ) → s.undefined ≡ false → BeginsNoUnit s.charset (s.waiting ++ b ∷ []) → IsFed s (b ∷ []) (acted s None)
fed_no_unit s b is begins_none = record {
  rows = refl;
  columns = refl;
  charset = refl;
  stays = λ un. cc;
  acts = λ d. inr (record {
    units = [];
    rest = s.waiting ++ b ∷ [];
    division = record { whole = refl; each = tt };
    meaning = refl;
    undefined_at = inr begins_none;
    waiting = refl;
    undefined = refl;
  });
}

pub fed_other : (s : ScreenView) (b : ℕ) → s.undefined ≡ false → IsReading s.charset s.waiting b reading.Other → IsFed s (b ∷ []) (acted s None)
fed_other s b is begins_none = fed_no_unit s b is begins_none

fed_control : (s : ScreenView) (b : ℕ) → s.undefined ≡ false → IsReading s.charset s.waiting b reading.Control → IsFed s (b ∷ []) (acted s (meaning s.rows s.columns s.state (Control b)))
fed_control s b is control = fed_unit s b (Control b) is control.1 (ap (λ w. w ++ b ∷ []) control.0)

-- one byte more of a piece
pub fed_more : (old between new : ScreenView) (piece : List ℕ) (i : ℕ) (b : ℕ) → i < length piece → b ≡ get_or piece i 0
    → IsFed old (take i piece) between → IsFed between (b ∷ []) new → IsFed old (take (i + 1) piece) new
fed_more old between new piece i b lt is a e =
    let same : take i piece ++ b ∷ [] ≡ take (i + 1) piece = ap (λ x. take i piece ++ x ∷ []) is ∙ sym (take_more piece i 0 lt) in
    subst (λ p. IsFed old p new) same (fed_cut old between new (take i piece) (b ∷ []) a e)

-- a reading of a screen's own charset
pub reading_of : (s : ScreenView) (charset : Charset) (part : List ℕ) (b : ℕ) (result : Reading) → charset ≡ s.charset → IsReading charset part b result
    → IsReading s.charset part b result
reading_of s charset part b result same read = subst (λ z. IsReading z part b result) same read

-- what each reading of a byte leads to

pub took_graphic : (s new : ScreenView) (b : ℕ) (part : List ℕ) → s.undefined ≡ false → part ≡ s.waiting → IsReading s.charset part b reading.Graphic
    → new ≡ acted s (character_written s.columns s.state b) → IsFed s (b ∷ []) new
took_graphic s new b part is same read e =
    subst (λ (n : ScreenView). IsFed s (b ∷ []) n) (sym e) (fed_graphic s b is (sym same ∙ read.0) read.1.0 read.1.1)

pub took_spelled : (s new : ScreenView) (b code : ℕ) (part : List ℕ) → s.undefined ≡ false → part ≡ s.waiting → IsReading s.charset part b (reading.Spelled code)
    → new ≡ acted s (meaning s.rows s.columns s.state (Spelled code)) → IsFed s (b ∷ []) new
took_spelled s new b code part is same read e =
    subst (λ (n : ScreenView). IsFed s (b ∷ []) n) (sym e)
    (fed_unit s b (Spelled code) is read.0 (ap (λ w. w ++ b ∷ []) (sym same) ∙ read.1))

pub took_held : (s new : ScreenView) (b : ℕ) (part : List ℕ) → s.undefined ≡ false → part ≡ s.waiting → IsReading s.charset part b reading.Held
    → new ≡ record s { waiting = s.waiting ++ b ∷ [] } → IsFed s (b ∷ []) new
took_held s new b part is same read e =
    subst (λ (n : ScreenView). IsFed s (b ∷ []) n) (sym e) (fed_held s b is (subst (λ p. IsWaiting s.charset (p ++ b ∷ [])) same read))

-- the view of a screen's fields, after a push
pub held_view : (rows columns : ℕ) (charset : Charset) (state : TerminalState) (waiting pushed : List ℕ) (b : ℕ) (undefined : Bool) (s : ScreenView)
    → pushed ≡ waiting ++ b ∷ []
    → (let inside : ScreenView = record { rows = rows; columns = columns; charset = charset; state = state; waiting = waiting; undefined = undefined } in inside) ≡ s
    → (let after : ScreenView = record { rows = rows; columns = columns; charset = charset; state = state; waiting = pushed; undefined = undefined } in after)
    ≡ record s { waiting = s.waiting ++ b ∷ [] }
held_view rows columns charset state waiting pushed b undefined s e view =
    let first : (let after : ScreenView = record { rows = rows; columns = columns; charset = charset; state = state; waiting = pushed; undefined = undefined } in after)
    ≡ record { rows = rows; columns = columns; charset = charset; state = state; waiting = waiting ++ b ∷ []; undefined = undefined } =
    ap (λ w. let x : ScreenView = record { rows = rows; columns = columns; charset = charset; state = state; waiting = w; undefined = undefined } in x) e in
    first ∙ ap (λ (x : ScreenView). let y : ScreenView = record x { waiting = x.waiting ++ b ∷ [] } in y) view

-- what a change makes of a screen's state, where the change is what a definition makes of states like it
same_change : (s : ScreenView) (rows columns : ℕ) (change : Option Change) (u : EcmaUnit) → s.rows ≡ rows → s.columns ≡ columns
    → option_map (changed rows columns s.state) change ≡ meaning rows columns s.state u
    → option_map (changed s.rows s.columns s.state) change ≡ meaning s.rows s.columns s.state u
same_change s rows columns change u r c here =
    subst (λ n. option_map (changed n s.columns s.state) change ≡ meaning n s.columns s.state u) (sym r)
    (subst (λ n. option_map (changed rows n s.state) change ≡ meaning rows n s.state u) (sym c) here)

pub took_last : (s new : ScreenView) (b : ℕ) (part : List ℕ) (rows columns : ℕ) (spot : Spot) (pen : PenView) (change : Option Change)
    → s.undefined ≡ false → part ≡ s.waiting → IsLast part b
    → s.rows ≡ rows → s.columns ≡ columns → s.state.spot ≡ spot → s.state.pen ≡ pen
    → ((ps : List ℕ) → part ≡ 27 ∷ 91 ∷ ps → MakesWith rows columns spot pen change (λ state. meaning rows columns state (Sequence ps b)))
    → new ≡ acted s (option_map (changed s.rows s.columns s.state) change) → IsFed s (b ∷ []) new
took_last s new b part rows columns spot pen change is same read r c at a means e =
    let there = same_change s rows columns change (Sequence read.0 b) r c (means read.0 read.1 s.state at a) in
    subst (λ (n : ScreenView). IsFed s (b ∷ []) n) (ap (acted s) (sym there) ∙ sym e)
    (fed_last s b read.0 is (sym same ∙ read.1) read.2)

pub took_control : (s new : ScreenView) (b : ℕ) (part : List ℕ) (rows columns : ℕ) (spot : Spot) (change : Option Change)
    → s.undefined ≡ false → part ≡ s.waiting → IsReading s.charset part b reading.Control
    → s.rows ≡ rows → s.columns ≡ columns → s.state.spot ≡ spot
    → MakesAt rows columns spot change (λ state. meaning rows columns state (Control b))
    → new ≡ acted s (option_map (changed s.rows s.columns s.state) change) → IsFed s (b ∷ []) new
took_control s new b part rows columns spot change is same read r c at means e =
    let there = same_change s rows columns change (Control b) r c (means s.state at) in
    subst (λ (n : ScreenView). IsFed s (b ∷ []) n) (ap (acted s) (sym there) ∙ sym e)
    (fed_control s b is (subst (λ p. IsReading s.charset p b reading.Control) same read))

pub took_other : (s new : ScreenView) (b : ℕ) (part : List ℕ) → s.undefined ≡ false → part ≡ s.waiting → IsReading s.charset part b reading.Other
    → new ≡ acted s None → IsFed s (b ∷ []) new
took_other s new b part is same read e =
    subst (λ (n : ScreenView). IsFed s (b ∷ []) n) (sym e) (fed_other s b is (subst (λ p. IsReading s.charset p b reading.Other) same read))
