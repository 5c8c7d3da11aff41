use Rattle.std.proofs.Common.{option_map, rules, sym, ◌≡◌, ◌∙◌, true}
use Rattle.scr_plan.proofs.JoinLaws.{one_more, shown_same, place_shown}
use Rattle.scr_plan.proofs.scenes.Scene.unlike_from.Goals as goal

pub loop-column-init : goal.loop-column-init
loop-column-init c = λ column low high.
    shown_same c.args.self.now.painter c.args.self.now.picture.now c.args.line.now.row (option_map (λ looks. looks.now) c.args.line.now.before) column c.args.line.now.cells.now c.requires.line.cells
    (c.shown_by_eight.ensures.same column low high c.args.self.now.picture.now.pairs)

pub loop-column-preserved : goal.loop-column-preserved
loop-column-preserved c =
    let shown : c.is_shown_in.result ≡ true = search rules in
    one_more c.args.self.now.painter c.args.self.now.picture.now c.args.line.now.row (option_map (λ looks. looks.now) c.args.line.now.before) c.args.from c.loop-column.column c.loop-column.invariant
    (place_shown c.args.self.now.painter c.args.self.now.picture.now c.args.line.now.row (option_map (λ looks. looks.now) c.args.line.now.before) c.loop-column.column c.args.line.now.cells.now c.seen_in-code.result.0 c.seen_in-code.result.1 c.requires.line.cells
    c.seen_in-code.ensures.code c.seen_in-code.ensures.pen (sym c.is_shown_in.ensures ∙ shown))
