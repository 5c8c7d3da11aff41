-- What a pointer owns that may hold a value.
use Rattle.std.specs.Prelude.{Option, Some, None}
use base.Fml.{Fml, ftrue, fex}
use denote.RattleType.{RattleType}
use denote.RawPtr.{Ptr}
use Rattle.std.specs.declared.alloc.Global.{Global}
use Rattle.std.specs.contracts.impls.GlobalAllocator.TheImpl.{ghosts}
use Rattle.std.specs.Box.Ownership.{box_owns}

-- Nothing; or the value at the pointer, and the right to free its block.
abbrev pub maybe_owns : (R : RattleType) → Ptr → Option R.Denot → Fml
maybe_owns R p None = ftrue
maybe_owns R p (Some x) = fex Global (λ a. box_owns (ghosts.dealloc_token a) R p x)
