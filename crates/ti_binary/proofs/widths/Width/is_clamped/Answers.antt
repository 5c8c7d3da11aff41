use Rattle.std.proofs.Common.{rules}
use Rattle.ti_binary.proofs.widths.Width.is_clamped.Goals as goal

pub returns-else-number-most : goal.returns-else-number-most
returns-else-number-most c = search rules
