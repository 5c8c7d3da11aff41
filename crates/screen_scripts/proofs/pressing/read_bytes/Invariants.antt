use Rattle.std.proofs.Common.{◌≡◌, ◌++◌, drop}
use Rattle.screen_scripts.specs.Stories.{after_bytes}
use Rattle.screen_scripts.specs.Showing.{events_in, stage_of}
use Rattle.screen_scripts.proofs.pressing.read_bytes.Given as goal

-- what came of the bytes so far and what comes of the others is what comes of all, and only keys have changed
abbrev pub invariant-loop-byte : goal.invariant-loop-byte
invariant-loop-byte l = record {
  notes : events_in l.notes.items ++ (after_bytes (stage_of l.screen) (drop l.byte-index l.bytes)).events ≡ events_in l.fn.notes.items ++ (after_bytes (stage_of l.fn.screen) l.bytes).events;
  stage : (after_bytes (stage_of l.screen) (drop l.byte-index l.bytes)).stage ≡ (after_bytes (stage_of l.fn.screen) l.bytes).stage;
  rest : l.screen ≡ record l.fn.screen { keys = l.screen.keys };
}
