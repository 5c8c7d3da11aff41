use Rattle.std.proofs.Common.{arith}
use Rattle.scr_term.specs.declared.operations.capability.Capability.TheVariants.{Op}
use Rattle.scr_term.specs.Operations.Capabilities.{ordinal}
use Rattle.scr_term.proofs.AdmissionLaws.{greatest_few, counted_few_at}
use Rattle.scr_term.proofs.operations.making.longest.Goals as goal

pub overflow_add-result : goal.overflow_add-result
overflow_add-result c = omega (arith, greatest_few c.args.least c.args.programs.now c.requires.planned (omega (arith, c.requires.few)), counted_few_at c.args.programs.now (ordinal Op) c.requires.planned, c.greatest_bound-one.ensures, c.bound_of.ensures)
