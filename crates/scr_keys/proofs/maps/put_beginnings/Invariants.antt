use Rattle.std.proofs.Common.{ℕ, List, ◌≡◌, ◌≤◌, ◌||◌, length, is_some}
use Rattle.scr_keys.specs.Code.Maps.{seen}
use Rattle.scr_keys.specs.Keys.{key_of}
use Rattle.scr_keys.proofs.MapLaws.{begins_from}
use Rattle.scr_keys.proofs.maps.put_beginnings.Given as goal

abbrev pub invariant-loop-len : goal.invariant-loop-len
invariant-loop-len l = record {
  inside : l.len ≤ length l.text;
  found : (bytes : List ℕ) → is_some (key_of (seen (λ k. k.items) l.map.entries) bytes) ≡ (is_some (key_of (seen (λ k. k.items) l.fn.map.entries) bytes) || begins_from l.len bytes l.text);
}

abbrev pub decreases-loop-len : goal.decreases-loop-len
decreases-loop-len l = l.len
