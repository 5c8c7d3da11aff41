use Rattle.std.proofs.Common.{◌≡◌, IfSome, drop}
use Rattle.ti_database.specs.Search.{first_there}
use Rattle.ti_database.proofs.searching.first_there.Given as goal

-- the paths that are left give the answer
abbrev pub invariant-loop-path : goal.invariant-loop-path
invariant-loop-path g l = IfSome (g.S.Store.has l.store) (λ files. first_there files l.paths ≡ first_there files (drop l.path-index l.paths))
