use Rattle.std.proofs.Common.{◌≡◌, ◌≤◌, drop, false, filter, length, map}
use Rattle.scr_term.specs.Operations.Profiles.{is_shown, set_of}
use Rattle.scr_term.specs.Code.Admission.{with_programs}
use Rattle.scr_term.proofs.operations.making.shown_set.Given as goal

-- the set of those behind the index
abbrev pub invariant-loop-index : goal.invariant-loop-index
invariant-loop-index l =
    (l.index ≤ length l.attributes)
    × (l.shown.0 ≡ set_of (filter (is_shown (with_programs false l.programs)) (map (λ a. a.0) (drop l.index l.attributes))))

abbrev pub decreases-loop-index : goal.decreases-loop-index
decreases-loop-index l = l.index
