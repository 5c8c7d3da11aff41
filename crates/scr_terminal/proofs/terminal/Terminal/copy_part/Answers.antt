use Rattle.std.proofs.Common.{ap, arith, length, slice_range, subst, sym, ◌+◌, ◌<◌, ◌≡◌, ◌≤◌, ◌∙◌, All, List}
use Rattle.scr_cells.specs.Grids.{grid_row, grid_with_run}
use Rattle.scr_cells.specs.LookViews.{IsLook, LookView}
use Rattle.scr_terminal.specs.Code.Marking.{IsCopied}
use Rattle.scr_terminal.specs.Terminals.{TerminalView}
use Rattle.scr_terminal.proofs.MarkLaws.{is_copied, part_looks}
use Rattle.scr_terminal.proofs.WritingLaws.{run_is_terminal}
use Rattle.scr_terminal.proofs.terminal.Terminal.copy_part.Goals as goal

pub invariant_of-self : goal.invariant_of-self
invariant_of-self c =
    let grid = c.self.inside.grid in
    let old : TerminalView = record { rows = grid.rows; columns = grid.columns; state = record { grid = grid.lines; spot = c.self.inside.spot; pen = c.self.inside.pen } } in
    let rows : old.rows ≡ c.args.self.now.rows = ap (λ (t : TerminalView). t.rows) c.self.view_is in
    let columns : old.columns ≡ c.args.self.now.columns = ap (λ (t : TerminalView). t.columns) c.self.view_is in
    let other_rows : c.other.inside.grid.rows ≡ c.args.other.now.rows = ap (λ (t : TerminalView). t.rows) c.other.view_is in
    let there : c.args.row < length c.other.inside.grid.lines = omega (arith, c.requires.row, c.requires.rows, other_rows, c.other.invariant.state.whole.high) in
    let fits : c.args.from + length c.part.result.now ≤ old.columns = omega (arith, c.part.ensures.len, c.requires.order, c.requires.end, columns) in
    run_is_terminal c.grid_laws.ensures old c.lay.new.self c.args.row c.args.from c.part.result.now c.self.inside.spot c.self.invariant (omega (arith, c.requires.row, rows)) fits
    (subst (All IsLook) (sym c.part.ensures.elements) (part_looks c.other.inside.grid.lines c.args.row c.args.from c.args.end there c.other.invariant.state.looks)) c.lay.ensures c.self.invariant.state.spot

pub returns : goal.returns
returns c =
    let grid = c.self.inside.grid in
    let old : TerminalView = record { rows = grid.rows; columns = grid.columns; state = record { grid = grid.lines; spot = c.self.inside.spot; pen = c.self.inside.pen } } in
    let other_grid = c.other.inside.grid in
    let other : TerminalView = record { rows = other_grid.rows; columns = other_grid.columns; state = record { grid = other_grid.lines; spot = c.other.inside.spot; pen = c.other.inside.pen } } in
    let new : TerminalView = record { rows = c.lay.new.self.rows; columns = c.lay.new.self.columns; state = record { grid = c.lay.new.self.lines; spot = c.self.inside.spot; pen = c.self.inside.pen } } in
    let rows : old.rows ≡ c.args.self.now.rows = ap (λ (t : TerminalView). t.rows) c.self.view_is in
    let columns : old.columns ≡ c.args.self.now.columns = ap (λ (t : TerminalView). t.columns) c.self.view_is in
    let other_rows : other.rows ≡ c.args.other.now.rows = ap (λ (t : TerminalView). t.rows) c.other.view_is in
    let other_columns : other.columns ≡ c.args.other.now.columns = ap (λ (t : TerminalView). t.columns) c.other.view_is in
    let made : new ≡ record old { state = record old.state { grid = grid_with_run old.state.grid c.args.row c.args.from (slice_range (grid_row other.state.grid c.args.row) c.args.from c.args.end) } } =
    λ i. record {
      rows = (c.lay.ensures i).rows;
      columns = (c.lay.ensures i).columns;
      state = record { grid = ((λ j. (c.lay.ensures j).lines) ∙ ap {A = List LookView} (grid_with_run old.state.grid c.args.row c.args.from) c.part.ensures.elements) i; spot = old.state.spot; pen = old.state.pen };
    } in
    subst (λ (old : TerminalView). IsCopied c.args.row c.args.from c.args.end old c.args.other.now new) c.self.view_is
    (subst (λ (other : TerminalView). IsCopied c.args.row c.args.from c.args.end old other new) c.other.view_is
    (is_copied c.grid_laws.ensures old other new c.args.row c.args.from c.args.end c.self.invariant c.other.invariant (other_rows ∙ c.requires.rows ∙ sym rows) (other_columns ∙ c.requires.columns ∙ sym columns)
    (omega (arith, c.requires.row, rows)) c.requires.order (omega (arith, c.requires.end, columns)) made))
