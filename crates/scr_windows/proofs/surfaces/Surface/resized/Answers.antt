use Rattle.std.proofs.Common.{arith}
use Rattle.scr_windows.proofs.ResizingLaws.{all_kept, kept_is_surface, kept_more}
use Rattle.scr_windows.proofs.surfaces.Surface.resized.Goals as goal

pub loop-row-preserved : goal.loop-row-preserved
loop-row-preserved c =
    kept_more c.grid_laws.ensures c.args.self.now c.args.area c.args.rows c.args.columns c.min-2.result c.loop-row.row c.args.cell c.line.result.now _ _ (omega arith) (omega arith) (omega arith) (λ n h k. omega arith) c.line.ensures.cells c.loop-row.invariant c.lay.ensures

pub invariant_of-result : goal.invariant_of-result
invariant_of-result c = kept_is_surface c.grid_laws.ensures c.args.self.now c.args.area c.args.rows c.args.columns c.loop-row.row c.args.cell _ c.requires.size c.loop-row.invariant

pub returns : goal.returns
returns c = all_kept c.args.self.now c.args.area c.args.rows c.args.columns c.loop-row.row c.args.cell _ (omega arith) (λ r h k. omega arith) c.loop-row.invariant
