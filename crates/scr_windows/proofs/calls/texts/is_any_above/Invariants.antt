use Rattle.std.proofs.Common.{◌≡◌, leb, take}
use Rattle.std.specs.List.{list_any}
use Rattle.scr_windows.proofs.calls.texts.is_any_above.Given as goal

-- whether any byte so far is 128 or more
abbrev pub invariant-loop-byte : goal.invariant-loop-byte
invariant-loop-byte l = l.any ≡ list_any (λ byte. leb 128 byte) (take l.byte-index l.text)
