use Rattle.std.proofs.Common.{◌≡◌, drop}
use Rattle.ti_database.specs.Search.{file_at}
use Rattle.ti_database.proofs.memory.found.Given as goal

-- the files that are left give the answer
abbrev pub invariant-loop-known : goal.invariant-loop-known
invariant-loop-known l = file_at l.path l.files ≡ file_at l.path (drop l.known-index l.files)
