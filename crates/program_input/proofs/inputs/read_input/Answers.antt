use Rattle.std.proofs.Common.{arith}
use Rattle.program_input.proofs.InputLaws.{beginning_is_all}
use Rattle.program_input.proofs.inputs.read_input.Goals as goal

pub returns-clause-whole : goal.returns-clause-whole
returns-clause-whole g c = beginning_is_all 16777216 _ _ c.in_ok-bytes.ensures.beginning (omega arith)
