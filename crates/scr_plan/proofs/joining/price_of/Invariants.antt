use Rattle.std.proofs.Common.{◌≡◌, take, true}
use Rattle.std.specs.List.{All}
use Rattle.scr_term.specs.Operations.Texts.{has}
use Rattle.scr_plan.proofs.JoinedPriceLaws.{price}
use Rattle.scr_plan.specs.Code.Joinings.{counted_up}
use Rattle.scr_plan.proofs.joining.price_of.Given as goal

abbrev pub invariant-loop-op : goal.invariant-loop-op
invariant-loop-op l = All (λ op. has l.profile op ≡ true) l.ops → l.bytes ≡ counted_up (price l.profile (take l.op-index l.ops))
