use Rattle.std.proofs.Common.{◌≡◌, List, take}
use Rattle.ti_caps.specs.Description.{Description}
use Rattle.ti_compile.specs.Compiling.{AreCompiled, names_of}
use Rattle.ti_compile.specs.Progress.{written_of}
use Rattle.ti_compile.proofs.compiler.written_by.Given as goal

-- the entries so far are compiled, and the resolver is one of these entries
abbrev pub invariant-loop-i : goal.invariant-loop-i
invariant-loop-i l =
    (l.resolver ≡ l.source.entries)
    × ((ds : List Description) × AreCompiled l.source.entries (take l.i (names_of l.source.entries)) ds × (l.written ≡ written_of ds))
