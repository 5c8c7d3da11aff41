use Rattle.std.proofs.Common.{◌≡◌, ◌≤◌, take, is_some}
use Rattle.ti_binary.specs.Canonical.{up_to_last}
use Rattle.ti_binary.proofs.counts.text_count.Given as goal

-- after these nothing is present
abbrev pub invariant-loop-count : goal.invariant-loop-count
invariant-loop-count l = record {
  few : l.count ≤ 512;
  kept : up_to_last is_some (take l.count l.entry.texts) ≡ up_to_last is_some l.entry.texts;
}

abbrev pub decreases-loop-count : goal.decreases-loop-count
decreases-loop-count l = l.count
