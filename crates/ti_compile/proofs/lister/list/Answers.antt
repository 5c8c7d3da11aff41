use Rattle.ti_binary.specs.declared.widths.Width.TheVariants.{Legacy}
use Rattle.ti_compile.proofs.lister.list.Goals as goal

-- a file that was read has no reason to be refused
pub returns-in_err-printed-clause-memory : goal.returns-in_err-printed-clause-memory
returns-in_err-printed-clause-memory c =
    let read = c.in_ok-entry.ensures.ok in
    λ h. c.files_are_not_refused.ensures Legacy c.args.bytes.now read.0 c.in_ok-entry.entry read.1

pub returns-clause-ok : goal.returns-clause-ok
returns-clause-ok c = (c.in_ok-entry.entry, c.in_ok-entry.ensures.ok, c.in_ok-printed.ensures.text, c.in_ok-printed.ensures.unnamed, c.in_ok-printed.ensures.reads)
