use Rattle.std.proofs.Common.{◌≡◌, ℕ, ◌+◌, ◌-◌, ◌<◌, ◌&&◌, ◌∷◌, [], not, sym, ◌∙◌, ap, arith, drop, get_or, length}
use Rattle.std.specs.List.{list_any}
use Rattle.std.specs.Str.{bytes_eq}
use Rattle.std.proofs.lemmas.List.{drop_more, take_rest}
use Rattle.ti_extended.specs.Whole.{are_distinct}
use Rattle.ti_extended.proofs.ListLaws.{and_comm}
use Rattle.ti_extended.proofs.distinct.is_each_new.Goals as goal

pub loop-left-preserved : goal.loop-left-preserved
loop-left-preserved c =
    let xs = c.args.names.now in
    let i : ℕ = c.loop-left.left - 1 in
    let lt : i < length xs = omega (arith, c.loop-left-test.true, c.loop-left.invariant.within) in
    let next : i + 1 ≡ c.loop-left.left = omega (arith, c.loop-left-test.true) in
    let cut : drop i xs ≡ get_or xs i [] ∷ drop c.loop-left.left xs = drop_more xs i [] lt ∙ ap (λ n. get_or xs i [] ∷ drop n xs) next in
    let new = c.is_new-distinct.ensures (get_or xs i []) (drop c.loop-left.left xs) (cc (take_rest xs i, cut)) in
    record {
      within = omega (arith, lt);
      behind = (λ k. c.loop-left.invariant.behind k && new k) ∙ and_comm (are_distinct (drop c.loop-left.left xs)) (not (list_any (bytes_eq (get_or xs i [])) (drop c.loop-left.left xs))) ∙ sym (ap are_distinct cut);
    }
