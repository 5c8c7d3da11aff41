use Rattle.std.proofs.Common.{◌&&◌, leb, ltb}
use Rattle.scr_terminal.specs.Marks.{AreOfSize, HasAdded}
use Rattle.scr_terminal.proofs.marks.Marks.mark_rows.Given as goal

-- the rows before one are marked
abbrev pub invariant-loop-row : goal.invariant-loop-row
invariant-loop-row l = record {
  size : AreOfSize l.fn.self.rows l.fn.self.columns l.self;
  marks : HasAdded (λ r c. leb l.first r && ltb r l.row && ltb c l.fn.self.columns) l.fn.self l.self;
}
