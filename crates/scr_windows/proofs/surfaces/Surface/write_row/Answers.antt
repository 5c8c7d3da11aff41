use Rattle.std.proofs.Common.{ap, arith, refl, rules}
use Rattle.scr_windows.specs.Code.Stretches.{characters_first, form_of}
use Rattle.scr_windows.specs.Surfaces.SurfaceViews.{SurfaceView}
use Rattle.scr_windows.proofs.TextLaws.{text_count, text_run}
use Rattle.scr_windows.proofs.surfaces.Surface.write_row.Goals as goal

pub returns-clause-count : goal.returns-clause-count
returns-clause-count c =
    let wide = ap (λ (s : SurfaceView). s.columns) c.self.view_is in
    text_count c.self.inside.grid.columns c.args.from _ c.args.text.now c.args.blank (omega (arith, wide)) (c.lay_while.ensures.count (form_of c.args.blank) (λ x y p. search rules))

pub invariant_of-self : goal.invariant_of-self
invariant_of-self c =
    (text_run c.grid_laws.ensures c.self.inside.grid c.lay_while.new.self c.args.self.now c.args.row c.args.from (characters_first c.args.text.now) c.args.text.now c.args.blank c.self.view_is c.self.invariant refl
    (c.lay_while.ensures.laid (form_of c.args.blank) (λ x y p. search rules)) c.requires.row c.requires.end).surface

pub returns-clause-run : goal.returns-clause-run
returns-clause-run c =
    let wide = ap (λ (s : SurfaceView). s.columns) c.self.view_is in
    let count = text_count c.self.inside.grid.columns c.args.from c.lay_while.result c.args.text.now c.args.blank (omega (arith, wide)) (c.lay_while.ensures.count (form_of c.args.blank) (λ x y p. search rules)) in
    text_run c.grid_laws.ensures c.self.inside.grid c.lay_while.new.self c.args.self.now c.args.row c.args.from c.lay_while.result c.args.text.now c.args.blank c.self.view_is c.self.invariant count
    (c.lay_while.ensures.laid (form_of c.args.blank) (λ x y p. search rules)) c.requires.row c.requires.end
