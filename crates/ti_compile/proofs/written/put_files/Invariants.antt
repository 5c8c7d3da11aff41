use Rattle.std.proofs.Common.{◌≡◌, ◌++◌, map, take}
use Rattle.ti_compile.specs.Compiling.{files_under}
use Rattle.ti_compile.proofs.written.put_files.Given as goal

-- the files of the names so far
abbrev pub invariant-loop-name : goal.invariant-loop-name
invariant-loop-name l = l.files-inside.0.items ≡ l.fn.files ++ files_under (map (λ name. name.now) (take l.name-index l.names)) l.bytes
