use Rattle.std.proofs.Common.{rules}
use Rattle.scr_term.specs.declared.operations.capability.Capability.TheVariants.{Cr}
use Rattle.scr_term.proofs.AdmissionLaws.{spares_more}
use Rattle.scr_term.proofs.operations.spares.with_spares.Goals as goal

pub loop-capability-preserved : goal.loop-capability-preserved
loop-capability-preserved c =
    spares_more c.args.entry.now c.args.capabilities.now c.loop-capability.capability-index Cr c.args.programs.items c.loop-capability.all.items c.add.new.programs.items c.in_ok-program.program
    c.loop-capability-test.true c.in_ok-program.ensures (search rules) c.loop-capability.invariant
