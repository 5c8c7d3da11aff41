use Rattle.std.proofs.Common.{◌+◌, ◌-◌, refl, take, ◌∙◌, ap, arith, subst, sym, rules}
use Rattle.scr_cells.specs.declared.charsets.Charset.TheVariants.{Utf8}
use Rattle.scr_cells.specs.MadeRuns.{made_while}
use Rattle.scr_terminal.specs.Code.Writing.{look_of, spot_after}
use Rattle.scr_terminal.specs.Terminals.{TerminalView}
use Rattle.scr_term.specs.Operations.Abilities.{full_abilities}
use Rattle.scr_term.specs.Operations.States.{IsSpot}
use Rattle.scr_terminal.proofs.WritingLaws.{after_is_spot, made_are_looks, made_fits, run_is_terminal}
use Rattle.scr_terminal.proofs.terminal.Terminal.write_ahead.Goals as goal

pub overflow_cast-count : goal.overflow_cast-count
overflow_cast-count c =
    let count = c.lay_while-count.ensures.count (look_of c.self.inside.pen) (search rules) in
    let few = made_fits c.self.inside.pen (c.self.inside.grid.columns - c.in-At.column) c.args.ops.now in
    omega (arith, count, few, c.columns-columns.type_inv, c.columns-columns.ensures.value)

pub overflow_add-column : goal.overflow_add-column
overflow_add-column c =
    let count = c.lay_while-count.ensures.count (look_of c.self.inside.pen) (search rules) in
    let here = subst (IsSpot c.self.inside.grid.rows c.self.inside.grid.columns) c.in-At.is c.self.invariant.state.spot in
    let few = made_fits c.self.inside.pen (c.self.inside.grid.columns - c.in-At.column) c.args.ops.now in
    omega (arith, count, few, here.1, c.columns-columns.type_inv, c.columns-columns.ensures.value)

pub invariant_of-self : goal.invariant_of-self
invariant_of-self c =
    let grid = c.self.inside.grid in
    let pen = c.self.inside.pen in
    let old : TerminalView = record { rows = grid.rows; columns = grid.columns; state = record { grid = grid.lines; spot = c.self.inside.spot; pen = pen } } in
    let here = subst (IsSpot grid.rows grid.columns) c.in-At.is c.self.invariant.state.spot in
    let few = made_fits pen (grid.columns - c.in-At.column) c.args.ops.now in
    let looks = made_are_looks pen (take (grid.columns - c.in-At.column) c.args.ops.now) (c.shown_pen_laws.ensures.pen (full_abilities Utf8 grid.rows grid.columns) refl pen c.self.invariant.state.pen) in
    let end = c.in-At.column + c.lay_while-count.result in
    let spot = c.spot_after-self-inside.ensures ∙ ap (λ n. spot_after n c.in-At.row end) c.columns-columns.ensures.value in
    run_is_terminal c.grid_laws.ensures old c.lay_while-count.new.self c.in-At.row c.in-At.column (made_while (look_of pen) (take (grid.columns - c.in-At.column) c.args.ops.now)) c.spot_after-self-inside.result
    c.self.invariant here.0 (omega (arith, few, here.1)) looks (c.lay_while-count.ensures.laid (look_of pen) (search rules))
    (subst (IsSpot grid.rows grid.columns) (sym spot) (after_is_spot grid.rows grid.columns c.in-At.row end here.0))
