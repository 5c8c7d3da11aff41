use Rattle.std.proofs.Common.{◌≡◌, IfSome, drop}
use Rattle.ti_database.specs.Search.{first_barred}
use Rattle.ti_database.proofs.searching.first_barred.Given as goal

-- the paths that are left give the answer
abbrev pub invariant-loop-path : goal.invariant-loop-path
invariant-loop-path g l = IfSome (g.S.Store.bars l.store) (λ bars. first_barred bars l.paths ≡ first_barred bars (drop l.path-index l.paths))
