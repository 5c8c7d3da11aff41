use Rattle.std.proofs.Common.{◌∙◌, ap, min}
use Rattle.ti_extended.proofs.EntryLaws.{set_whole}
use Rattle.ti_extended.proofs.whole_entry.WholeEntry.set_number.Goals as goal

pub invariant_of-self-2 : goal.invariant_of-self-2
invariant_of-self-2 c =
    set_whole (record { entry = c.self.inside.entry; numbers = c.self.inside.numbers.items; extended = c.self.inside.extended }) c.set_number.new.self c.args.slot.0 c.from-2.result c.args.number c.min.result
    c.self.invariant c.requires (c.min.ensures ∙ ap (λ m. min c.args.number m) c.from.ensures) c.from-2.ensures c.in_ok-set_number.ensures.ok
