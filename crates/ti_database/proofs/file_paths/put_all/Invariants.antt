use Rattle.std.proofs.Common.{◌≡◌, ◌++◌, take}
use Rattle.std.specs.List.{flat_map}
use Rattle.ti_database.specs.Places.{paths_in}
use Rattle.ti_database.proofs.file_paths.put_all.Given as goal

-- the paths in the folders so far
abbrev pub invariant-loop-folder : goal.invariant-loop-folder
invariant-loop-folder l = l.paths ≡ l.fn.paths ++ flat_map (λ folder. paths_in folder l.name) (take l.folder-index l.folders)
