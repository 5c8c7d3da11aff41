use Rattle.std.proofs.Common.{subst, sym}
use Rattle.std.specs.List.{flat_map}
use Rattle.std.specs.Str.{chars}
use Rattle.scr_windows.specs.declared.faults.Added.{Added}
use Rattle.scr_windows.specs.DeskViews.{DeskView, HasSameSize}
use Rattle.scr_windows.specs.Calls.Adding.{fitted}
use Rattle.scr_windows.proofs.AddingLaws.{text_size}
use Rattle.scr_windows.proofs.desks.Desk.add_str.Goals as goal

pub returns-clause-size : goal.returns-clause-size
returns-clause-size c = subst (λ (r : DeskView × Added). HasSameSize c.args.self.now r.0) (sym c.add_characters.ensures) (text_size (flat_map fitted (chars c.args.text.now)) c.args.self.now c.in_ok-index.index)
