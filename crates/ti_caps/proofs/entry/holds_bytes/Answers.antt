use Rattle.ti_caps.proofs.EntryLaws.{are_bytes}
use Rattle.ti_caps.proofs.entry.holds_bytes.Goals as goal

pub returns : goal.returns
returns c = are_bytes c.args.text.now c.type_inv.text
