use Rattle.std.proofs.Common.{ap, arith, option_map, refl, rules, subst, sym, ◌≡◌, ◌∙◌, false, true, get_or}
use Rattle.scr_cells.specs.CellViews.{blank_cell}
use Rattle.scr_cells.specs.Characters.{seen_character}
use Rattle.scr_plan.proofs.JoinLaws.{place_shown}
use Rattle.scr_plan.proofs.LookingLaws.{alike_in, alike_looks, first_places, one_place_more, rendition_looks, unlike_differs}
use Rattle.scr_plan.specs.Code.Painters.{painter_look, painter_sees, row_differs}
use Rattle.scr_plan.proofs.scenes.Scene.unlike_end.Goals as goal

pub loop-next-init : goal.loop-next-init
loop-next-init c =
    let before = option_map (λ looks. looks.now) c.args.line.now.before in
    record {
      unlike = λ first.
          first_places (λ k. row_differs c.args.self.now.painter c.args.self.now.picture.now before (c.args.line.now.row, k) ≡ true) c.args.column c.unlike_by_eight.result c.max.result (λ k low above high. omega (arith, low, above, high, c.max.ensures)) first
          (λ k low high. unlike_differs c.args.self.now.painter c.args.self.now.picture.now c.args.line.now.row before k c.args.line.now.cells.now c.requires.line.cells (c.unlike_by_eight.ensures.unlike k low high c.args.self.now.picture.now.pairs));
      alike =
          first_places (λ k. (painter_look c.args.self.now.painter c.args.self.now.picture.now (c.args.line.now.row, k)).pen ≡ (painter_look c.args.self.now.painter c.args.self.now.picture.now (c.args.line.now.row, c.args.column)).pen) c.args.column c.unlike_by_eight.result c.max.result
          (λ k low above high. omega (arith, low, above, high, c.max.ensures)) refl
          (λ k low high. rendition_looks c.args.self.now.painter c.args.self.now.picture.now c.args.line.now.row c.args.line.now.cells.now c.requires.line.cells c.args.column k (c.unlike_by_eight.ensures.alike k low high));
    }

pub loop-next-preserved : goal.loop-next-preserved
loop-next-preserved c =
    let goes : c.ends-in-loop-next.result ≡ false = search rules in
    let next = c.loop-next.next in
    let cells = c.args.line.now.cells.now in
    let attrs = c.ends-in-loop-next.ensures.attrs goes in
    let pair = c.ends-in-loop-next.ensures.pair goes in
    let pen : c.pen_of-pen.result ≡ (painter_sees c.args.self.now.painter c.args.self.now.picture.now.pairs (get_or cells next blank_cell)).pen =
    c.pen_of-pen.ensures ∙ ap (λ cell. (painter_sees c.args.self.now.painter c.args.self.now.picture.now.pairs cell).pen) c.cell_in-first.ensures
    ∙ sym (alike_in c.args.self.now.painter c.args.self.now.picture.now.pairs cells c.args.column next c.cell_in-first.result (get_or cells next blank_cell) c.cell_in-first.ensures refl attrs pair) in
    record {
      unlike = λ first.
          one_place_more (λ k. row_differs c.args.self.now.painter c.args.self.now.picture.now (option_map (λ looks. looks.now) c.args.line.now.before) (c.args.line.now.row, k) ≡ true) c.args.column next (c.loop-next.invariant.unlike first)
          (place_shown c.args.self.now.painter c.args.self.now.picture.now c.args.line.now.row (option_map (λ looks. looks.now) c.args.line.now.before) next cells (seen_character c.args.self.now.painter.charset (get_or cells next blank_cell).character) c.pen_of-pen.result c.requires.line.cells refl pen
          (c.ends-in-loop-next.ensures.unlike goes));
      alike =
          one_place_more (λ k. (painter_look c.args.self.now.painter c.args.self.now.picture.now (c.args.line.now.row, k)).pen ≡ (painter_look c.args.self.now.painter c.args.self.now.picture.now (c.args.line.now.row, c.args.column)).pen) c.args.column next c.loop-next.invariant.alike
          (alike_looks c.args.self.now.painter c.args.self.now.picture.now c.args.line.now.row cells c.requires.line.cells c.args.column next c.cell_in-first.result (get_or cells next blank_cell) c.cell_in-first.ensures refl attrs pair);
    }

pub returns-then-second-end-clause-unlike : goal.returns-then-second-end-clause-unlike
returns-then-second-end-clause-unlike c = λ first k low high.
    let here : c.args.column ≡ k = omega (arith, low, high) in
    subst (λ k. row_differs c.args.self.now.painter c.args.self.now.picture.now (option_map (λ looks. looks.now) c.args.line.now.before) (c.args.line.now.row, k) ≡ true) here first
