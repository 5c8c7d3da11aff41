use Rattle.std.proofs.Common.{◌+◌, ◌<◌, ◌∙◌, sym, ap, arith}
use Rattle.scr_windows.proofs.ChildLaws.{derived_place}
use Rattle.scr_windows.proofs.desks.Desk.derive_at.Goals as goal

pub add_child-requires-clause-inside : goal.add_child-requires-clause-inside
add_child-requires-clause-inside c =
    derived_place c.args.self.now c.args.index c.frame-frame.result c.in-Some.origin c.in-Some-part_of.area c.args.rows c.args.columns c.args.row c.args.column c.window_at.ensures.placed
    (c.frame-frame.ensures ∙ ap (λ w. w.frame) c.window_at.ensures.window) c.in-Some.is (sym c.part_of.ensures ∙ c.in-Some-part_of.is)

pub overflow_add-origin : goal.overflow_add-origin
overflow_add-origin c =
    let at = derived_place c.args.self.now c.args.index c.frame-frame.result c.in-Some.origin c.in-Some-part_of.area c.args.rows c.args.columns c.args.row c.args.column c.window_at.ensures.placed
    (c.frame-frame.ensures ∙ ap (λ w. w.frame) c.window_at.ensures.window) c.in-Some.is (sym c.part_of.ensures ∙ c.in-Some-part_of.is) in
    let fits : c.in-Some.origin.0 + c.args.row < 4294967296 = omega (arith, at.on_screen.0, c.window_at.ensures.placed.screen.few_rows) in
    omega (arith, fits)

pub overflow_add-origin-2 : goal.overflow_add-origin-2
overflow_add-origin-2 c =
    let at = derived_place c.args.self.now c.args.index c.frame-frame.result c.in-Some.origin c.in-Some-part_of.area c.args.rows c.args.columns c.args.row c.args.column c.window_at.ensures.placed
    (c.frame-frame.ensures ∙ ap (λ w. w.frame) c.window_at.ensures.window) c.in-Some.is (sym c.part_of.ensures ∙ c.in-Some-part_of.is) in
    let fits : c.in-Some.origin.1 + c.args.column < 4294967296 = omega (arith, at.on_screen.1, c.window_at.ensures.placed.screen.few_columns) in
    omega (arith, fits)
