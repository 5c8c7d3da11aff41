-- Each text spells a tree or has a fault.
use Rattle.std.proofs.Common.{◌≡◌, ◌≢◌, ℕ, zero, suc, ◌-◌, ◌<◌, ◌≤◌, ◌⊎◌, inl, inr, List, [], ◌∷◌, ◌++◌, length, replicate, Result, Ok, Err, refl, ap, ⊎_elim, arith}
use Rattle.std.proofs.lemmas.List.{length-append}
use Rattle.ti_param.specs.declared.directives.Directive.{Directive}
use Rattle.ti_param.specs.declared.directives.Directive.TheVariants.{Literal, Number, Character, Parameter, SetDynamic, SetStatic, GetDynamic, GetStatic, Constant, Binary, Not, Complement, Increment}
use Rattle.ti_param.specs.declared.tokens.Token.{Token}
use Rattle.ti_param.specs.declared.tokens.Token.TheVariants.{Do, If, Then, Else, EndIf}
use Rattle.ti_param.specs.declared.tokens.Flaw.TheVariants.{Cut, Wrong, Text}
use Rattle.ti_param.specs.declared.marks.Section.{Section}
use Rattle.ti_param.specs.declared.marks.Misfit.{Misfit}
use Rattle.ti_param.specs.declared.marks.Misfit.TheVariants.{Misplaced, Deep}
use Rattle.ti_param.specs.declared.faults.ParamFault.{ParamFault}
use Rattle.ti_param.specs.declared.faults.ParamFault.TheVariants.{Truncated, BadDirective, StringOperator, TooDeep, NoMemory}
use Rattle.ti_param.specs.Tree.{Tree}
use Rattle.ti_param.specs.Spelling.{IsConstant, IsDirective, Spells}
use Rattle.ti_param.specs.Grammar.{IsText}
use Rattle.ti_param.specs.Faults.{FaultOf}
use Rattle.ti_param.specs.Code.Tokens.{Reading, token}
use Rattle.ti_param.specs.Code.Marks.{entered, opened}
use Rattle.ti_param.specs.Code.Scans.{Scanned, Stops}
use Rattle.ti_param.proofs.ScanLaws.{begins, Scanned-push, opened-push, stop_here, scan_spells}
use Rattle.ti_param.proofs.FaultLaws.{fault_of_stop}

-- ---- a directive or mark has at least one byte

constant_some : (n : ℕ) (text : List ℕ) → IsConstant n text → 0 < length text
constant_some n text (inl e) = omega (arith, ap length e)
constant_some n text (inr x) = omega (arith, ap length x.1)

directive_some : (d : Directive) (text : List ℕ) → IsDirective d text → 0 < length text
directive_some (Literal b) text (inl x) = omega (arith, ap length x.1)
directive_some (Literal b) text (inr x) = omega (arith, ap length x.1)
directive_some (Number f) text s = omega (arith, ap length s.1)
directive_some Character text s = omega (arith, ap length s)
directive_some (Parameter i) text s = omega (arith, ap length s.1)
directive_some (SetDynamic i) text s = omega (arith, ap length s.1)
directive_some (SetStatic i) text s = omega (arith, ap length s.1)
directive_some (GetDynamic i) text s = omega (arith, ap length s.1)
directive_some (GetStatic i) text s = omega (arith, ap length s.1)
directive_some (Constant z) text s = constant_some s.0 text s.2
directive_some (Binary o) text s = omega (arith, ap length s)
directive_some Not text s = omega (arith, ap length s)
directive_some Complement text s = omega (arith, ap length s)
directive_some Increment text s = omega (arith, ap length s)

spells_some : (t : Token) (text : List ℕ) → Spells t text → 0 < length text
spells_some (Do d) text s = directive_some d text s
spells_some If text s = omega (arith, ap length s)
spells_some Then text s = omega (arith, ap length s)
spells_some Else text s = omega (arith, ap length s)
spells_some EndIf text s = omega (arith, ap length s)

pub shorter : (t : Token) (text more : List ℕ) → token text ≡ Ok (t, more) → length more < length text
shorter t text more e =
    let b = begins t text more e in
    omega (arith, spells_some t b.0 b.1, ap length b.2, length-append b.0 more)

-- ---- one step of the scan

abbrev Goes : List ℕ → List Section → Type 0
Goes rest parts = (t : Token) × (more : List ℕ) × (out : List Section) × (token rest ≡ Ok (t, more)) × (entered t parts ≡ Ok out)

abbrev Faulty : List ℕ → List Section → ℕ → Type 0
Faulty rest parts index = (fault : ParamFault) × (fault ≢ NoMemory) × Stops fault rest parts index

entered_or_not : (t : Token) (rest more : List ℕ) (parts : List Section) (index : ℕ) (q : Result (List Section) Misfit) → token rest ≡ Ok (t, more) → entered t parts ≡ q → Goes rest parts ⊎ Faulty rest parts index
entered_or_not t rest more parts index (Ok out) e h = inl (t, more, out, e, h)
entered_or_not t rest more parts index (Err Misplaced) e h = inr (BadDirective index, λ x. cc, (refl, inr (t, (more, e, h))))
entered_or_not t rest more parts index (Err Deep) e h = inr (TooDeep, λ x. cc, (t, (more, e, h)))

goes_or_not : (rest : List ℕ) (parts : List Section) (index : ℕ) (r : Reading) → token rest ≡ r → Goes rest parts ⊎ Faulty rest parts index
goes_or_not rest parts index (Ok (t, more)) e = entered_or_not t rest more parts index (entered t parts) e refl
goes_or_not rest parts index (Err Cut) e = inr (Truncated index, λ x. cc, (refl, e))
goes_or_not rest parts index (Err Wrong) e = inr (BadDirective index, λ x. cc, (refl, inl e))
goes_or_not rest parts index (Err Text) e = inr (StringOperator index, λ x. cc, (refl, e))

-- ---- the whole text

abbrev Either : List ℕ → Type 0
Either text = ((tree : Tree) × IsText tree text) ⊎ ((fault : ParamFault) × (fault ≢ NoMemory) × FaultOf fault text)

scanned : (n : ℕ) (text rest : List ℕ) (front : List Token) (parts : List Section) → length rest ≤ n → Scanned front text rest → opened front [] ≡ Ok parts → Either text
scanned n text [] front parts le s o =
    let t = scan_spells text (front ++ replicate (length parts) EndIf) (record { front = front; parts = parts; scanned = s; fits = o; whole = refl }) in
    inl (t.0, t.1)
scanned zero text (b ∷ rest) front parts le s o = absurd (omega (arith, le))
scanned (suc n) text (b ∷ rest) front parts le s o =
    ⊎_elim (λ (g : Goes (b ∷ rest) parts). scanned n text g.1 (front ++ g.0 ∷ []) g.2 (omega (arith, shorter g.0 (b ∷ rest) g.1 g.3, le)) (Scanned-push front g.0 text (b ∷ rest) g.1 s g.3) (opened-push front g.0 [] parts g.2 o g.4)) (λ (f : Faulty (b ∷ rest) parts (length text - length (b ∷ rest))). inr (f.0, f.1, fault_of_stop f.0 text (stop_here f.0 front text (b ∷ rest) parts (length text - length (b ∷ rest)) s o (omega arith) refl f.2))) (goes_or_not (b ∷ rest) parts (length text - length (b ∷ rest)) (token (b ∷ rest)) refl)

pub tree_or_fault : (text : List ℕ) → ((tree : Tree) × IsText tree text) ⊎ ((fault : ParamFault) × (fault ≢ NoMemory) × FaultOf fault text)
tree_or_fault text = scanned (length text) text text [] [] (omega arith) refl refl
