use Rattle.std.proofs.Common.{◌≡◌, ◌≤◌, drop, false, length}
use Rattle.std.specs.List.{list_any}
use Rattle.ti_binary.specs.Files.{is_nul}
use Rattle.ti_binary.proofs.texts.through_last_nul.Given as goal

-- behind these there is none
abbrev pub invariant-loop-end : goal.invariant-loop-end
invariant-loop-end l = record {
  few : l.end ≤ length l.bytes;
  none : list_any is_nul (drop l.end l.bytes) ≡ false;
}

abbrev pub decreases-loop-end : goal.decreases-loop-end
decreases-loop-end l = l.end
