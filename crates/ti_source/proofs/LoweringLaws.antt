-- Marks that change while what the others say stays true: the steps of what is known become no more.
use Rattle.std.proofs.Common.{◌≡◌, ◌∙◌, ℕ, ◌≤◌, Bool, true, false, eqb, List, [], ◌∷◌, Option, Some, None, is_some, slice_get, set, refl, ap, sym, arith}
use Rattle.std.proofs.lemmas.Bool.{eqb-true}
use Rattle.std.proofs.lemmas.Bool.Decides.{nat_tests}
use Rattle.ti_source.specs.declared.reading.statement.Statement.{Statement}
use Rattle.ti_source.specs.declared.resolving.marks.Mark.{Mark}
use Rattle.ti_source.specs.declared.resolving.marks.Mark.TheVariants.{New, Open, Done, Over, Kept, Faulty}
use Rattle.ti_source.specs.Described.{Described}
use Rattle.ti_source.specs.Code.EntryWalk.{AreBelow, IsBelow, IsMarkOf, known, steps_at, steps_of}
use Rattle.ti_source.proofs.IndexLaws.{get-other}

-- what is known stays known, in no more steps
abbrev pub Lowers : List Mark → List Mark → Type 0
Lowers marks after = (p : Option ℕ) (n : ℕ) → steps_at marks p ≡ Some n → (m : ℕ) × (steps_at after p ≡ Some m) × (m ≤ n)

-- what is kept stays at its position
abbrev pub Extends : List (List Statement) → List (List Statement) → Type 0
Extends kept after = (k : ℕ) (fields : List Statement) → slice_get kept k ≡ Some fields → slice_get after k ≡ Some fields

pub below-lower : (marks after : List Mark) (p : Option ℕ) (n : ℕ) → Lowers marks after → IsBelow marks p n → IsBelow after p n
below-lower marks after p n lowers (m, at, lt) = let h = lowers p m at in (h.0, h.1, let le = h.2 in omega arith)

all-below-lower : (marks after : List Mark) (ps : List (Option ℕ)) (n : ℕ) → Lowers marks after → AreBelow marks ps n → AreBelow after ps n
all-below-lower marks after [] n lowers h = h
all-below-lower marks after (p ∷ ps) n lowers h = (below-lower marks after p n lowers h.0, all-below-lower marks after ps n lowers h.1)

-- what a mark says stays true
pub mark-lower : (entries : List Described) (marks after : List Mark) (kept after_kept : List (List Statement)) (i : ℕ) (mark : Mark) → Lowers marks after → Extends kept after_kept → IsMarkOf entries marks kept i mark → IsMarkOf entries after after_kept i mark
mark-lower entries marks after kept after_kept i New lowers extends h = tt
mark-lower entries marks after kept after_kept i Open lowers extends h = tt
mark-lower entries marks after kept after_kept i (Faulty f) lowers extends h = tt
mark-lower entries marks after kept after_kept i (Done n) lowers extends h = record { entry = h.entry; at = h.at; used = h.used; resolved = h.resolved; below = all-below-lower marks after _ n lowers h.below }
mark-lower entries marks after kept after_kept i (Over next n) lowers extends h = record { entry = h.entry; at = h.at; used = h.used; resolved = h.resolved; below = below-lower marks after (Some next) n lowers h.below; leads = h.leads }
mark-lower entries marks after kept after_kept i (Kept k) lowers extends h = (h.0, extends k h.0 h.1, h.2)

-- a mark changes that was not known
pub lowers-set : (marks : List Mark) (i : ℕ) (mark : Mark) → known marks (Some i) ≡ false → Lowers marks (set marks i mark)
lowers-set marks i mark off None n e = cc
lowers-set marks i mark off (Some j) n e = by (eqb j i) refl
  where
    by : (t : Bool) → eqb j i ≡ t → (m : ℕ) × (steps_of (slice_get (set marks i mark) j) ≡ Some m) × (m ≤ n)
    by true is =
        let same : j ≡ i = eqb-true j i is in
        let on : known marks (Some i) ≡ true = ap (λ x. is_some (steps_of (slice_get marks x))) (sym same) ∙ ap is_some e in
        absurd (cc (on, off))
    by false is = (n, ap steps_of (get-other marks i j mark (grind (arith, nat_tests))) ∙ e, omega arith)

-- every mark that is known stays
pub lowers-same : (marks after : List Mark) → ((i : ℕ) (mark : Mark) → slice_get marks i ≡ Some mark → is_some (steps_of (Some mark)) ≡ true → slice_get after i ≡ Some mark) → Lowers marks after
lowers-same marks after same None n e = cc
lowers-same marks after same (Some i) n e = by (slice_get marks i) refl e
  where
    by : (o : Option Mark) → slice_get marks i ≡ o → steps_of o ≡ Some n → (m : ℕ) × (steps_of (slice_get after i) ≡ Some m) × (m ≤ n)
    by None at h = cc
    by (Some mark) at h = (n, ap steps_of (same i mark at (ap is_some h)) ∙ h, omega arith)
