use Rattle.std.proofs.Common.{◌≡◌, drop, map}
use Rattle.std.specs.List.{list_all}
use Rattle.ti_compile.specs.FileNames.{is_file_name}
use Rattle.ti_compile.proofs.file_names.are_file_names.Given as goal

-- the names that are left give the answer
abbrev pub invariant-loop-name : goal.invariant-loop-name
invariant-loop-name l = list_all is_file_name (map (λ name. name.now) (drop l.name-index l.names)) ≡ list_all is_file_name (map (λ name. name.now) l.names)
