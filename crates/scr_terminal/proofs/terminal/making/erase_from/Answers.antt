use Rattle.std.proofs.Common.{◌≡◌, ap, ◌∙◌, ◌<◌, ◌≤◌, arith}
use Rattle.std.proofs.lemmas.Bool.Decides.{nat_tests}
use Rattle.scr_cells.specs.Grids.{is_in_run}
use Rattle.scr_terminal.proofs.ErasedLaws.{blanked, next_row, last_row}
use Rattle.scr_terminal.proofs.terminal.making.erase_from.Goals as goal

pub loop-below-preserved : goal.loop-below-preserved
loop-below-preserved c =
    let h = c.loop-below.invariant in
    let before : c.loop-below.below < c.rows-rows.result = grind (arith, nat_tests, c.loop-below-test.true) in
    let wide : c.columns-columns.result ≡ c.args.grid.now.columns = h.3 in
    let run = c.erase_run-in-loop-below.ensures ∙ ap (λ n. blanked c.loop-below.grid (is_in_run c.loop-below.below 0 n)) wide in (
      omega (arith, h.0),
      omega (arith, before),
      h.2,
      h.3,
      next_row c.grid_laws.ensures c.args.grid.now c.loop-below.grid c.erase_run-in-loop-below.new.grid c.args.row c.args.column c.loop-below.below h.0 h.4 run,
    )

pub returns : goal.returns
returns c =
    let h = c.loop-below.invariant in
    let past : c.args.grid.now.rows ≤ c.loop-below.below = grind (arith, nat_tests, c.loop-below-test.false, h.2) in
    last_row c.args.grid.now c.loop-below.grid c.args.row c.args.column c.loop-below.below past h.4
