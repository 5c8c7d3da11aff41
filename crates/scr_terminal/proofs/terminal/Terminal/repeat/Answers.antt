use Rattle.std.proofs.Common.{◌+◌, ◌-◌, ◌<◌, arith, replicate, subst}
use Rattle.std.proofs.lemmas.Bool.Decides.{nat_tests}
use Rattle.std.proofs.lemmas.List.{length-replicate}
use Rattle.scr_terminal.specs.Terminals.{TerminalView}
use Rattle.scr_term.specs.Operations.States.{IsSpot}
use Rattle.scr_term.specs.declared.operations.operation.Spot.TheVariants.{At}
use Rattle.scr_terminal.proofs.WritingLaws.{many_looks, run_is_terminal}
use Rattle.scr_terminal.proofs.terminal.Terminal.repeat.Goals as goal

pub invariant_of-self : goal.invariant_of-self
invariant_of-self c =
    let grid = c.self.inside.grid in
    let old : TerminalView = record { rows = grid.rows; columns = grid.columns; state = record { grid = grid.lines; spot = c.self.inside.spot; pen = c.self.inside.pen } } in
    let here = subst (IsSpot grid.rows grid.columns) c.in-At-Some.is-0 c.self.invariant.state.spot in
    let count = c.in-At-Some.column + c.args.count - c.in-At-Some.column in
    let inside : c.in-At-Some.column + c.args.count < grid.columns = grind (arith, nat_tests, c.if-column-count.true, c.columns-columns.ensures.value) in
    run_is_terminal c.grid_laws.ensures old c.fill.new.self c.in-At-Some.row c.in-At-Some.column (replicate count c.in-At-Some.look) (At c.in-At-Some.row (c.in-At-Some.column + c.args.count))
    c.self.invariant here.0 (omega (arith, inside, length-replicate count c.in-At-Some.look)) (many_looks count c.in-At-Some.look c.code-code.ensures.look) c.fill.ensures (here.0, inside)
