use Rattle.std.proofs.Common.{◌≡◌, ◌-◌, ◌*◌, ◌≤◌}
use Rattle.scr_plan.specs.Code.Joinings.{run_bytes}
use Rattle.scr_plan.proofs.scenes.Scene.encoded_bytes.Given as goal

-- the bytes of the characters as far as the loop has come
abbrev pub invariant-loop-column : goal.invariant-loop-column
invariant-loop-column l = record {
  few : l.bytes ≤ (l.column - l.from) * 3;
  value : l.bytes ≡ run_bytes l.self.profile.now l.self.picture.now l.row l.from (l.column - l.from);
}
