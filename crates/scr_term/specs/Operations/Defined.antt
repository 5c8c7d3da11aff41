-- On what it depends whether an operation is defined. terminfo(5), 'Basic Capabilities'.
use Rattle.std.specs.Prelude.{ℕ, ◌≡◌}
use Rattle.std.specs.Option.{is_some}
use Rattle.scr_term.specs.declared.operations.operation.Op.{Op}
use Rattle.scr_term.specs.declared.operations.operation.Op.TheVariants.{Home, Move, Clear, Reset}
use Rattle.scr_term.specs.Operations.Profiles.{ProfileView}
use Rattle.scr_term.specs.Operations.States.{TerminalState}
use Rattle.scr_term.specs.Operations.Steps.{step}

-- Whether an operation is defined depends on the cursor's position and the pen alone, not on what is shown. Of one that
-- moves the cursor to a place wherever it was, it depends on the pen alone; of Reset, on neither.
pub record DefinedLaws : Type 0 where
  pub alike : (profile : ProfileView) (op : Op) (a b : TerminalState) → a.spot ≡ b.spot → a.pen ≡ b.pen → is_some (step profile a op) ≡ is_some (step profile b op)
  pub home : (profile : ProfileView) (a b : TerminalState) → a.pen ≡ b.pen → is_some (step profile a Home) ≡ is_some (step profile b Home)
  pub move : (profile : ProfileView) (r c : ℕ) (a b : TerminalState) → a.pen ≡ b.pen → is_some (step profile a (Move r c)) ≡ is_some (step profile b (Move r c))
  pub clear : (profile : ProfileView) (a b : TerminalState) → a.pen ≡ b.pen → is_some (step profile a Clear) ≡ is_some (step profile b Clear)
  pub reset : (profile : ProfileView) (a b : TerminalState) → is_some (step profile a Reset) ≡ is_some (step profile b Reset)
