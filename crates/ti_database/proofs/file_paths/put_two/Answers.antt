use Rattle.std.proofs.Common.{arith}
use Rattle.std.proofs.lemmas.Grind.{common_steps}
use Rattle.ti_database.proofs.file_paths.put_two.Goals as goal

pub returns : goal.returns
returns c = grind (arith, common_steps)
