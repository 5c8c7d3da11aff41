use Rattle.std.proofs.Common.{arith, option_map, rules, sym, false, ◌≡◌, ◌∙◌, ◌&&◌, length, nat_le}
use Rattle.scr_term.specs.declared.operations.operation.Op.TheVariants.{EraseLine}
use Rattle.scr_term.specs.Operations.Texts.{bytes_of, has}
use Rattle.scr_plan.proofs.LookingLaws.{erased_none, erased_some, not_blank, priced, rest_column, rest_look, too_few, unworthy}
use Rattle.scr_cells.specs.LookViews.{blank}
use Rattle.scr_plan.specs.Code.Painters.{painter_look}
use Rattle.scr_plan.specs.Repaints.{look_eq}
use Rattle.scr_plan.proofs.scenes.Scene.erased_column.Goals as goal
use Rattle.scr_plan.proofs.scenes.Scene.erased_column.Goals.{then-rest-price-via-then-rest-price, then-rest-price-via-else-rest-price+then-not-is_blank_from}

pub returns-in_err-column-clause-value : goal.returns-in_err-column-clause-value
returns-in_err-column-clause-value c = λ memory shows.
    c.from_residual.ensures
    ∙ erased_none c.args.self.now.profile.now c.args.self.now.picture.now memory c.args.line.now.row (option_map (λ looks. looks.now) c.args.line.now.before) c.args.self.now.painter c.requires.scene.painter shows c.args.from c.args.end c.blank_rest-rest.result c.requires.end c.blank_rest-rest.ensures c.requires.outside
    (λ e first tail. unworthy e (sym first ∙ c.in_err-column.was))

pub returns-then-rest-price-clause-value : goal.returns-then-rest-price-clause-value
returns-then-rest-price-clause-value c = λ memory shows.
    let at = priced c.args.self.now.profile.now c.cost.result c.in_ok-price.price c.cost.ensures c.in_ok-price.was in
    erased_none c.args.self.now.profile.now c.args.self.now.picture.now memory c.args.line.now.row (option_map (λ looks. looks.now) c.args.line.now.before) c.args.self.now.painter c.requires.scene.painter shows c.args.from c.args.end c.blank_rest-rest.result c.requires.end c.blank_rest-rest.ensures c.requires.outside
    (λ e first tail.
    elim c.then-rest-price.branch as (λ _. (has c.args.self.now.profile.now EraseLine && nat_le (length (bytes_of c.args.self.now.profile.now EraseLine)) c.blank_rest-rest.result.count) ≡ false) [
      | then-rest-price-via-then-rest-price w ↦ too_few c.args.self.now.profile.now c.blank_rest-rest.result.count c.in_ok-price.price at.1 w.if-rest-price.true
      | then-rest-price-via-else-rest-price+then-not-is_blank_from w ↦
          let none : w.is_blank_from.result ≡ false = search rules in
          let found = w.is_blank_from.ensures.none none in
          not_blank (look_eq (painter_look c.args.self.now.painter c.args.self.now.picture.now (c.args.line.now.row, found.0)) blank) (tail found.0 found.1 found.2) found.3
    ])

pub returns-clause-inside : goal.returns-clause-inside
returns-clause-inside c = rest_column c.args.self.now.painter c.args.self.now.picture.now c.args.line.now.row (option_map (λ looks. looks.now) c.args.line.now.before) c.args.from c.args.end c.blank_rest-rest.result c.in_ok-column.column c.blank_rest-rest.ensures c.in_ok-column.was

pub returns-clause-blank : goal.returns-clause-blank
returns-clause-blank c = rest_look c.args.self.now.painter c.args.self.now.picture.now c.args.line.now.row (option_map (λ looks. looks.now) c.args.line.now.before) c.args.from c.args.end c.blank_rest-rest.result c.in_ok-column.column c.blank_rest-rest.ensures c.in_ok-column.was

pub returns-clause-value : goal.returns-clause-value
returns-clause-value c = λ memory shows.
    let at = priced c.args.self.now.profile.now c.cost.result c.in_ok-price.price c.cost.ensures c.in_ok-price.was in
    erased_some c.args.self.now.profile.now c.args.self.now.picture.now memory c.args.line.now.row (option_map (λ looks. looks.now) c.args.line.now.before) c.args.self.now.painter c.requires.scene.painter shows c.args.from c.args.end c.blank_rest-rest.result c.requires.end c.blank_rest-rest.ensures c.requires.outside
    c.in_ok-column.column c.in_ok-column.was (c.is_blank_from.ensures.all c.if-not-is_blank_from.false) at.0 (omega (arith, at.1, c.if-rest-price.false))
