use Rattle.std.proofs.Common.{◌≡◌, drop}
use Rattle.ti_caps.specs.Buckets.{found_in}
use Rattle.ti_caps.proofs.buckets.found_in.Given as goal

-- the rest of the addresses gives the answer
abbrev pub invariant-loop-address : goal.invariant-loop-address
invariant-loop-address l = found_in l.name (drop l.address-index l.addresses) ≡ found_in l.name l.addresses
