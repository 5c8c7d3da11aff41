use Rattle.ti_caps.proofs.EntryLaws.{IsDescription-bare}
use Rattle.std.proofs.Common.{rules}
use Rattle.ti_caps.proofs.entry.Entry.new.Goals as goal

pub invariant_of-result : goal.invariant_of-result
invariant_of-result c = IsDescription-bare _ _ _ c.in_ok-from_slice.ensures.items (search rules) c.in_ok-texts.ensures
