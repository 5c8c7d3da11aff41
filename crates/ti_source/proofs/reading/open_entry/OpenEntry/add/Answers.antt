use Rattle.std.proofs.Common.{◌∙◌, sym, ap}
use Rattle.ti_source.specs.Code.Seen.{seen_meaning, seen_value}
use Rattle.ti_source.proofs.OpenEntryLaws.{states-adds}
use Rattle.ti_source.proofs.reading.open_entry.OpenEntry.add.Goals as goal

pub returns-in-States : goal.returns-in-States
returns-in-States c m seen =
    states-adds m c.args.line c.in-States.name.now c.in-States.kind c.in-States.slot.0 (seen_value c.in-States.value) c.args.self.now c.state.new.self c.state.result (sym (ap seen_meaning c.in-States.is) ∙ seen) c.state.ensures
