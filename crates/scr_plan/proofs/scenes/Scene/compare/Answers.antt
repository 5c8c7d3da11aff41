use Rattle.std.proofs.Common.{inl, inr}
use Rattle.scr_plan.proofs.scenes.Scene.compare.Goals as goal

pub returns-then-not-is_placed_by-clause-unlike : goal.returns-then-not-is_placed_by-clause-unlike
returns-then-not-is_placed_by-clause-unlike c = inr (inl (c.is_placed_by.ensures.no c.if-not-is_placed_by.true))
