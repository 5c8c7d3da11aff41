use Rattle.std.proofs.Common.{◌≡◌, ◌<◌, drop}
use Rattle.ti_caps.specs.Buckets.{bucket_number}
use Rattle.ti_caps.proofs.buckets.bucket_number.Given as goal

-- the rest of the name gives the number
abbrev pub invariant-loop-byte : goal.invariant-loop-byte
invariant-loop-byte l = (l.number < 128) × (bucket_number l.number (drop l.byte-index l.name) ≡ bucket_number 0 l.name)
