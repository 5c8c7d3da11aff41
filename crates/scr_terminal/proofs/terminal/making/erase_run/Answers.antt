use Rattle.scr_terminal.proofs.ErasedLaws.{run_is_blanked}
use Rattle.scr_terminal.proofs.terminal.making.erase_run.Goals as goal

pub returns : goal.returns
returns c =
    run_is_blanked c.grid_laws.ensures c.args.grid.now c.fill.new.self c.blank.result c.args.row c.args.from c.args.end c.rows-grid.ensures.grid
    c.requires.row c.requires.order c.requires.end c.blank.ensures c.fill.ensures
