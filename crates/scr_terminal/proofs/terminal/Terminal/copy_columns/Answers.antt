use Rattle.std.proofs.Common.{subst}
use Rattle.scr_terminal.specs.Code.Marking.{IsCopied}
use Rattle.scr_terminal.proofs.MarkLaws.{copied_columns}
use Rattle.scr_terminal.proofs.terminal.Terminal.copy_columns.Goals as goal

pub returns : goal.returns
returns c =
    copied_columns c.args.row c.args.columns.0 c.args.columns.1 c.args.self.now c.args.other.now c.copy_part.new.self
    (subst (λ from. IsCopied c.args.row from c.args.columns.1 c.args.self.now c.args.other.now c.copy_part.new.self) c.min.ensures c.copy_part.ensures)
