use Rattle.std.proofs.Common.{◌∙◌, List, ℕ, ap, map, Bor}
use Rattle.ti_extended.specs.Distinct.{differ_in_turn}
use Rattle.ti_extended.proofs.DistinctLaws.{sorted_tells}
use Rattle.ti_extended.proofs.distinct.are_distinct_sorted.Goals as goal

pub returns : goal.returns
returns c =
    let name = λ (n : Bor (List ℕ)). n.now in
    sorted_tells name c.args.names.items c.sort_unstable.new.self.items c.differ_in_turn.result c.sort_unstable.ensures.permutation c.sort_unstable.ensures.sorted
    (c.differ_in_turn.ensures ∙ ap (λ names. differ_in_turn (map name names)) c.deref.ensures.value)
