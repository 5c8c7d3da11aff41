use Rattle.std.proofs.Common.{arith}
use Rattle.edit_text.proofs.InverseLaws.{append_is}
use Rattle.edit_text.proofs.lines.append_next.Goals as goal

pub returns-clause-ok : goal.returns-clause-ok
returns-clause-ok c = append_is c.args.lines.now c.split_at_mut-front.result.0.now c.split_at_mut-front.result.1.now c.args.line c.index-front-line.result c.index-back-0.result _ c.split_at_mut-front.ensures.value c.split_at_mut-front.ensures.front_len (omega arith) c.in_ok-append.ensures.ok
