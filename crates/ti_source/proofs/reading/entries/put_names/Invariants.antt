use Rattle.std.proofs.Common.{◌≡◌, List, ℕ, length}
use Rattle.ti_caps.specs.Names.{alternatives}
use Rattle.ti_caps.specs.Table.{or_else}
use Rattle.ti_source.specs.Resolving.Named.{named, indexed}
use Rattle.ti_source.proofs.reading.entries.put_names.Given as goal

-- the names that are left give the answer
abbrev pub invariant-loop-more : goal.invariant-loop-more
invariant-loop-more l =
    (q : List ℕ) → or_else (indexed (λ k. k.items) l.indices.entries q) (named (alternatives l.rest) l.index q) ≡ or_else (indexed (λ k. k.items) l.fn.indices.entries q) (named (alternatives l.names) l.index q)

abbrev pub decreases-loop-more : goal.decreases-loop-more
decreases-loop-more l = length l.rest
