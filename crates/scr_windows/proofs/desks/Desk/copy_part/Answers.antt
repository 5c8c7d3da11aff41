use Rattle.std.proofs.Common.{inl, ap, Ok, ◌∙◌}
use Rattle.scr_windows.proofs.CopyLaws.{block_copied}
use Rattle.scr_windows.proofs.desks.Desk.copy_part.Goals as goal

pub returns-clause-copied : goal.returns-clause-copied
returns-clause-copied c = inl (ap (λ d. (d, Ok tt)) (c.lay.ensures.laid ∙ block_copied c.surface_laws.ensures c.grid_laws.ensures c.args.self.now c.args.source c.args.target c.args.row c.args.column c.args.part c.args.overlay _ c.in_ok-block.ensures))
