use Rattle.std.proofs.Common.{◌≡◌, take}
use Rattle.scr_term.specs.Operations.Texts.{all_bytes}
use Rattle.scr_plan.proofs.scratch_texts.rendered.Given as goal

abbrev pub invariant-loop-op : goal.invariant-loop-op
invariant-loop-op l = l.bytes.items ≡ all_bytes l.profile (take l.op-index l.ops)
