use Rattle.std.proofs.Common.{◌≡◌, map, take}
use Rattle.ti_compile.specs.FileNames.{path_of}
use Rattle.ti_compile.proofs.compiled_entry.paths_of.Given as goal

-- the paths of the names so far
abbrev pub invariant-loop-name : goal.invariant-loop-name
invariant-loop-name l = l.paths-inside.0.items ≡ map path_of (map (λ name. name.now) (take l.name-index l.names))
