use Rattle.std.proofs.Common.{sym, subst, arith}
use Rattle.std.proofs.lemmas.Bool.Decides.{nat_tests}
use Rattle.scr_terminal.specs.Terminals.{TerminalView}
use Rattle.scr_term.specs.Operations.States.{IsSpot}
use Rattle.scr_terminal.proofs.TerminalViewLaws.{written_is_terminal}
use Rattle.scr_terminal.proofs.terminal.Terminal.lay.Goals as goal
use Rattle.scr_terminal.proofs.terminal.Terminal.lay.Goals.{then-column-columns, else-column-columns}

pub invariant_of-self : goal.invariant_of-self
invariant_of-self c =
    let grid = c.self.inside.grid in
    let old : TerminalView = record { rows = grid.rows; columns = grid.columns; state = record { grid = grid.lines; spot = c.self.inside.spot; pen = c.self.inside.pen } } in
    let here = subst (IsSpot grid.rows grid.columns) c.in-At.is c.self.invariant.state.spot in
    let inside : IsSpot grid.rows grid.columns c.if-column-columns.self = elim c.if-column-columns.branch [
      | then-column-columns w ↦ subst (IsSpot grid.rows grid.columns) (sym w.self-is) (here.0, grind (arith, nat_tests, w.if-column-columns, c.columns.ensures.value))
      | else-column-columns w ↦ subst (IsSpot grid.rows grid.columns) (sym w.self-is) here.0
    ] in
    written_is_terminal c.look_grid_laws.ensures old c.put.new.self c.in-At.row c.in-At.column c.args.look c.if-column-columns.self c.self.invariant here.0 c.code-code.ensures.look c.put.ensures inside
