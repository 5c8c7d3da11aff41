use Rattle.std.proofs.Common.{◌≡◌, ℕ, List, ◌++◌}
use Rattle.std.specs.List.{flat_map}
use Rattle.sha2.specs.Hashers.{Holds512}
use Rattle.ti_source.specs.Code.Keyed.{line_of_names, lines_of_names}
use Rattle.ti_source.proofs.reading.keyed_hasher.digest_of_names.Given as goal

-- what is digested and what the lines that are left give is what all lines give
abbrev pub invariant-loop-line : goal.invariant-loop-line
invariant-loop-line l =
    (done : List ℕ) × Holds512 l.digest done × (done ++ flat_map line_of_names l.line-iterator ≡ lines_of_names l.fn.source)
