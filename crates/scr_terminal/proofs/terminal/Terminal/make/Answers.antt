use Rattle.std.proofs.Common.{◌∙◌, ap}
use Rattle.scr_cells.specs.Grids.{grid_of, is_in_run}
use Rattle.scr_cells.specs.LookViews.{LookView}
use Rattle.scr_terminal.specs.Terminals.{TerminalView}
use Rattle.scr_term.specs.Operations.States.{is_from_place}
use Rattle.scr_terminal.proofs.TerminalViewLaws.{blanked_is_terminal, cleared_is_terminal, formed_is_terminal}
use Rattle.scr_terminal.proofs.terminal.Terminal.make.Goals as goal

pub invariant_of-self-in-ErasedAll : goal.invariant_of-self-in-ErasedAll
invariant_of-self-in-ErasedAll c =
    let grid = c.self.inside.grid in
    let old : TerminalView = record { rows = grid.rows; columns = grid.columns; state = record { grid = grid.lines; spot = c.self.inside.spot; pen = c.self.inside.pen } } in
    cleared_is_terminal c.look_grid_laws.ensures old c.fill_every.new.self c.self.invariant
    (c.fill_every.ensures ∙ ap {A = LookView} (λ look. record { rows = grid.rows; columns = grid.columns; lines = grid_of grid.rows grid.columns (λ _ _. look) }) c.blank.ensures)

pub invariant_of-self-in-ErasedRun : goal.invariant_of-self-in-ErasedRun
invariant_of-self-in-ErasedRun c =
    let grid = c.self.inside.grid in
    let old : TerminalView = record { rows = grid.rows; columns = grid.columns; state = record { grid = grid.lines; spot = c.self.inside.spot; pen = c.self.inside.pen } } in
    blanked_is_terminal c.grid_laws.ensures c.look_grid_laws.ensures old c.erase_run.new.grid (is_in_run c.in-ErasedRun.row c.in-ErasedRun.from c.in-ErasedRun.end) c.self.invariant c.erase_run.ensures

pub invariant_of-self-in-ErasedFrom : goal.invariant_of-self-in-ErasedFrom
invariant_of-self-in-ErasedFrom c =
    let grid = c.self.inside.grid in
    let old : TerminalView = record { rows = grid.rows; columns = grid.columns; state = record { grid = grid.lines; spot = c.self.inside.spot; pen = c.self.inside.pen } } in
    blanked_is_terminal c.grid_laws.ensures c.look_grid_laws.ensures old c.erase_from.new.grid (is_from_place c.in-ErasedFrom.row c.in-ErasedFrom.column) c.self.invariant c.erase_from.ensures

pub invariant_of-self-in-LinesInserted : goal.invariant_of-self-in-LinesInserted
invariant_of-self-in-LinesInserted c =
    let grid = c.self.inside.grid in
    let old : TerminalView = record { rows = grid.rows; columns = grid.columns; state = record { grid = grid.lines; spot = c.self.inside.spot; pen = c.self.inside.pen } } in
    formed_is_terminal c.grid_laws.ensures c.look_grid_laws.ensures old c.insert_lines.new.grid _ c.self.invariant (c.look_grid_laws.ensures.down_looks c.in-LinesInserted.row grid.rows c.in-LinesInserted.count grid.lines c.self.invariant.state.looks) c.insert_lines.ensures

pub invariant_of-self-in-LinesDeleted : goal.invariant_of-self-in-LinesDeleted
invariant_of-self-in-LinesDeleted c =
    let grid = c.self.inside.grid in
    let old : TerminalView = record { rows = grid.rows; columns = grid.columns; state = record { grid = grid.lines; spot = c.self.inside.spot; pen = c.self.inside.pen } } in
    formed_is_terminal c.grid_laws.ensures c.look_grid_laws.ensures old c.delete_lines.new.grid _ c.self.invariant (c.look_grid_laws.ensures.up_looks c.in-LinesDeleted.row grid.rows c.in-LinesDeleted.count grid.lines c.self.invariant.state.looks) c.delete_lines.ensures

pub invariant_of-self-in-CharactersInserted : goal.invariant_of-self-in-CharactersInserted
invariant_of-self-in-CharactersInserted c =
    let grid = c.self.inside.grid in
    let old : TerminalView = record { rows = grid.rows; columns = grid.columns; state = record { grid = grid.lines; spot = c.self.inside.spot; pen = c.self.inside.pen } } in
    formed_is_terminal c.grid_laws.ensures c.look_grid_laws.ensures old c.insert_characters.new.grid _ c.self.invariant (c.look_grid_laws.ensures.right_looks c.in-CharactersInserted.row c.in-CharactersInserted.column grid.columns c.in-CharactersInserted.count grid.lines c.self.invariant.state.looks) c.insert_characters.ensures

pub invariant_of-self-in-CharactersDeleted : goal.invariant_of-self-in-CharactersDeleted
invariant_of-self-in-CharactersDeleted c =
    let grid = c.self.inside.grid in
    let old : TerminalView = record { rows = grid.rows; columns = grid.columns; state = record { grid = grid.lines; spot = c.self.inside.spot; pen = c.self.inside.pen } } in
    formed_is_terminal c.grid_laws.ensures c.look_grid_laws.ensures old c.delete_characters.new.grid _ c.self.invariant (c.look_grid_laws.ensures.left_looks c.in-CharactersDeleted.row c.in-CharactersDeleted.column grid.columns c.in-CharactersDeleted.count grid.lines c.self.invariant.state.looks) c.delete_characters.ensures
