use Rattle.std.proofs.Common.{subst, sym}
use Rattle.scr_windows.specs.declared.faults.Added.{Added}
use Rattle.scr_windows.specs.DeskViews.{DeskView, HasSameSize}
use Rattle.scr_windows.proofs.AddingLaws.{code_size}
use Rattle.scr_windows.proofs.desks.Desk.add_byte.Goals as goal

pub returns-clause-size : goal.returns-clause-size
returns-clause-size c = subst (λ (r : DeskView × Added). HasSameSize c.args.self.now r.0) (sym c.add_at.ensures.added) (code_size _ _ _ _)
