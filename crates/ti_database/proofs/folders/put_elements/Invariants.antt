use Rattle.std.proofs.Common.{◌≡◌, ◌++◌, length, take}
use Rattle.std.specs.List.{flat_map, slice_split}
use Rattle.ti_database.specs.Places.{element_folders, is_colon}
use Rattle.ti_database.proofs.folders.put_elements.Given as goal

-- the folders of the elements so far
abbrev pub invariant-loop-element : goal.invariant-loop-element
invariant-loop-element l = l.folders ≡ l.fn.folders ++ flat_map element_folders (take (length l.yielded) (slice_split is_colon l.list))
