use Rattle.std.proofs.Common.{arith, option_map, rules, sym, true, ◌≡◌, ◌∙◌}
use Rattle.scr_plan.proofs.LookingLaws.{rest_more}
use Rattle.scr_plan.proofs.scenes.Scene.blank_rest.Goals as goal

pub loop-rest-preserved : goal.loop-rest-preserved
loop-rest-preserved c =
    let blank_here : c.is_blank.result ≡ true = search rules in
    rest_more c.args.self.now.painter c.args.self.now.picture.now c.args.line.now.row (option_map (λ looks. looks.now) c.args.line.now.before) c.args.from c.args.end c.args.line.now.cells.now c.loop-rest.rest c.with_blank-rest.result c.seen_in-code.result.0 c.seen_in-code.result.1
    c.loop-rest-test.true c.requires.line.cells c.seen_in-code.ensures.code c.seen_in-code.ensures.pen (sym c.is_blank.ensures ∙ blank_here) c.with_blank-rest.ensures.begin c.with_blank-rest.ensures.first c.with_blank-rest.ensures.count c.loop-rest.invariant

pub with_blank-rest-requires-clause-few : goal.with_blank-rest-requires-clause-few
with_blank-rest-requires-clause-few c = omega (arith, c.loop-rest.invariant.few, c.requires.end, c.size-size.ensures.picture.size.few_columns)
