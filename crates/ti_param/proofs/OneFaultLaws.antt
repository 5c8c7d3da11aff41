-- A text has at most one fault, and none where it spells a tree.
use Rattle.std.proofs.Common.{◌≡◌, ◌≢◌, ℕ, ◌-◌, ◌⊎◌, inl, inr, List, [], ◌∷◌, ◌++◌, length, Result, Ok, Err, refl, sym, ap, subst, ◌∙◌}
use Rattle.std.proofs.lemmas.List.{append-nil}
use Rattle.ti_param.specs.declared.tokens.Token.{Token}
use Rattle.ti_param.specs.declared.tokens.Flaw.TheVariants.{Cut, Wrong, Text}
use Rattle.ti_param.specs.declared.marks.Section.{Section}
use Rattle.ti_param.specs.declared.marks.Misfit.{Misfit}
use Rattle.ti_param.specs.declared.marks.Misfit.TheVariants.{Misplaced, Deep}
use Rattle.ti_param.specs.declared.faults.ParamFault.{ParamFault}
use Rattle.ti_param.specs.declared.faults.ParamFault.TheVariants.{Truncated, BadDirective, StringOperator, TooDeep, NoMemory}
use Rattle.ti_param.specs.Tree.{Tree}
use Rattle.ti_param.specs.Grammar.{IsText}
use Rattle.ti_param.specs.Faults.{IsFirstFault, FaultOf}
use Rattle.ti_param.specs.Code.Tokens.{Reading, token}
use Rattle.ti_param.specs.Code.Marks.{entered, opened, opened_within, then_open}
use Rattle.ti_param.specs.Code.Scans.{Scanned, Stops, IsStop}
use Rattle.ti_param.proofs.ScanLaws.{memory_alone, opened-append, ok_same}
use Rattle.ti_param.proofs.FaultLaws.{ok_or_err, scan_stop, stop_of_fault, through}

-- one of two lists that are read of a text goes on where the other ends
Ahead : List Token → List Token → List ℕ → List ℕ → Type 0
Ahead a b r s = (gs : List Token) × (b ≡ a ++ gs) × Scanned gs r s

-- with a directive or mark before both
ahead_more : (t u : Token) (a b : List Token) (r s : List ℕ) → u ≡ t → Ahead a b r s → Ahead (t ∷ a) (u ∷ b) r s
unfolding Ahead
ahead_more t u a b r s e x = (x.0, ap (λ y. y ∷ b) e ∙ ap (λ l. t ∷ l) x.1, x.2)

compared : (a b : List Token) (text r s : List ℕ) → Scanned a text r → Scanned b text s → Ahead a b r s ⊎ Ahead b a s r
unfolding Ahead
compared [] b text r s x y = inl (b, refl, subst (λ l. Scanned b l s) x y)
compared (t ∷ a) [] text r s x y = inr (t ∷ a, refl, subst (λ l. Scanned (t ∷ a) l r) y x)
compared (t ∷ a) (u ∷ b) text r s x y =
    let same = ok_same (token text) (t, x.0) (u, y.0) x.1 y.1 in
    let head : u ≡ t = sym (ap (λ (p : Token × List ℕ). p.0) same) in
    let rest : y.0 ≡ x.0 = sym (ap (λ (p : Token × List ℕ). p.1) same) in
    go head (compared a b x.0 r s x.2 (subst (λ l. Scanned b l s) rest y.2))
  where
    go : u ≡ t → Ahead a b r s ⊎ Ahead b a s r → Ahead (t ∷ a) (u ∷ b) r s ⊎ Ahead (u ∷ b) (t ∷ a) s r
    go head (inl z) = inl (ahead_more t u a b r s head z)
    go head (inr z) = inr (ahead_more u t b a s r (sym head) z)

-- where the scan stops, nothing fits
no_more : (fault : ParamFault) (t : Token) (rest more : List ℕ) (parts out : List Section) (index : ℕ) → Stops fault rest parts index → token rest ≡ Ok (t, more) → entered t parts ≡ Ok out → ⊥
no_more (Truncated at) t rest more parts out index s e o = ok_or_err (token rest) (t, more) Cut e s.1
no_more (BadDirective at) t rest more parts out index (h, inl s) e o = ok_or_err (token rest) (t, more) Wrong e s
no_more (BadDirective at) t rest more parts out index (h, inr m) e o =
    let same : t ≡ m.0 = ap (λ (p : Token × List ℕ). p.0) (ok_same (token rest) (t, more) (m.0, m.1.0) e m.1.1) in
    ok_or_err (entered t parts) out Misplaced o (ap (λ x. entered x parts) same ∙ m.1.2)
no_more (StringOperator at) t rest more parts out index s e o = ok_or_err (token rest) (t, more) Text e s.1
no_more TooDeep t rest more parts out index m e o =
    let same : t ≡ m.0 = ap (λ (p : Token × List ℕ). p.0) (ok_same (token rest) (t, more) (m.0, m.1.0) e m.1.1) in
    ok_or_err (entered t parts) out Deep o (ap (λ x. entered x parts) same ∙ m.1.2)
no_more NoMemory t rest more parts out index s e o = s

-- the fault with which the scan stops
abbrev placed : Result (List Section) Misfit → ℕ → ParamFault
placed (Ok parts) index = NoMemory
placed (Err Misplaced) index = BadDirective index
placed (Err Deep) index = TooDeep

abbrev fault_at : Reading → List Section → ℕ → ParamFault
fault_at (Err Cut) parts index = Truncated index
fault_at (Err Wrong) parts index = BadDirective index
fault_at (Err Text) parts index = StringOperator index
fault_at (Ok r) parts index = placed (entered r.0 parts) index

stop_is : (fault : ParamFault) (rest : List ℕ) (parts : List Section) (index : ℕ) → Stops fault rest parts index → fault ≡ fault_at (token rest) parts index
stop_is (Truncated at) rest parts index s = ap Truncated s.0 ∙ sym (ap (λ r. fault_at r parts index) s.1)
stop_is (BadDirective at) rest parts index (h, inl e) = ap BadDirective h ∙ sym (ap (λ r. fault_at r parts index) e)
stop_is (BadDirective at) rest parts index (h, inr m) =
    ap BadDirective h ∙ sym (ap (λ r. fault_at r parts index) m.1.1 ∙ ap (λ q. placed q index) m.1.2)
stop_is (StringOperator at) rest parts index s = ap StringOperator s.0 ∙ sym (ap (λ r. fault_at r parts index) s.1)
stop_is TooDeep rest parts index m = sym (ap (λ r. fault_at r parts index) m.1.1 ∙ ap (λ q. placed q index) m.1.2)
stop_is NoMemory rest parts index s = absurd s

one_way : (f g : ParamFault) (text : List ℕ) (x : IsStop f text) (y : IsStop g text) (gs : List Token) → y.front ≡ x.front ++ gs → Scanned gs x.rest y.rest → f ≡ g
one_way f g text x y [] e s =
    let front : y.front ≡ x.front = e ∙ append-nil x.front in
    let same : Ok y.parts ≡ Ok x.parts = sym y.fits ∙ ap (λ l. opened l []) front ∙ x.fits in
    let parts : y.parts ≡ x.parts = ok_same (Ok y.parts) y.parts x.parts refl same in
    let here = stop_is f x.rest x.parts _ x.stops in
    let there = stop_is g y.rest y.parts _ y.stops in
    here ∙ ap (λ r. fault_at (token r) x.parts (length text - length r)) s ∙ ap (λ p. fault_at (token y.rest) p (length text - length y.rest)) (sym parts) ∙ sym there
one_way f g text x y (t ∷ gs) e s =
    let on = sym (opened-append 32 x.front (t ∷ gs) [] ∙ ap (λ r. then_open r (opened_within 32 (t ∷ gs))) x.fits) ∙ ap (λ l. opened l []) (sym e) ∙ y.fits in
    let next = through (entered t x.parts) (opened_within 32 gs) y.parts on in
    absurd (no_more f t x.rest s.0 x.parts next.0 _ x.stops s.1 next.1)

one_stop : (f g : ParamFault) (text : List ℕ) → IsStop f text → IsStop g text → f ≡ g
unfolding Ahead
one_stop f g text x y = go (compared x.front y.front text x.rest y.rest x.scanned y.scanned)
  where
    go : Ahead x.front y.front x.rest y.rest ⊎ Ahead y.front x.front y.rest x.rest → f ≡ g
    go (inl z) = one_way f g text x y z.0 z.1 z.2
    go (inr z) = sym (one_way g f text y x z.0 z.1 z.2)

-- a fault of the text itself stands at a first place
first_of : (fault : ParamFault) (text : List ℕ) → FaultOf fault text → fault ≢ NoMemory → IsFirstFault fault text
first_of (Truncated at) text f some = f
first_of (BadDirective at) text f some = f
first_of (StringOperator at) text f some = f
first_of TooDeep text f some = f
first_of NoMemory text f some = absurd (some refl)

pub one_fault : (fault other : ParamFault) (text : List ℕ) → FaultOf fault text → FaultOf other text → fault ≢ NoMemory → other ≢ NoMemory → fault ≡ other
one_fault fault other text f g some more =
    one_stop fault other text (scan_stop fault text (first_of fault text f some)) (scan_stop other text (first_of other text g more))

pub no_fault : (tree : Tree) (fault : ParamFault) (text : List ℕ) → IsText tree text → FaultOf fault text → fault ≡ NoMemory
no_fault tree fault text x f = memory_alone fault tree text (stop_of_fault fault text f) x
