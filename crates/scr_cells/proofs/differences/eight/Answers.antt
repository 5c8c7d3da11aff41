use Rattle.scr_cells.proofs.DifferenceLaws.{eight_are}
use Rattle.scr_cells.proofs.differences.eight.Goals as goal

pub returns : goal.returns
returns g c =
    eight_are g.T.Packed.coded c.args.row.now c.args.at _ _ _ _ _ _ _ _ _ _ _ _ _ _ _ _ c.requires c.packed.ensures.back c.index-row-0.is c.packed-2.ensures.back c.index-row-1.is c.packed-3.ensures.back c.index-row-2.is c.packed-4.ensures.back c.index-row-3.is
    c.packed-5.ensures.back c.index-row-4.is c.packed-6.ensures.back c.index-row-5.is c.packed-7.ensures.back c.index-row-6.is c.packed-8.ensures.back c.index-row-7.is
