use Rattle.std.proofs.Common.{◌≡◌, ◌++◌, [], length, map}
use Rattle.screen_scripts.specs.Stories.{Pressed}
use Rattle.screen_scripts.specs.Showing.{events_in}
use Rattle.screen_scripts.proofs.pressing.take_keys.Given as goal

-- the keys so far and those that wait are all keys, and only the queue has changed
abbrev pub invariant-loop-key : goal.invariant-loop-key
invariant-loop-key l = record {
  notes : events_in l.notes.items ++ map Pressed l.screen.keys.queue ≡ events_in l.fn.notes.items ++ map Pressed l.fn.screen.keys.queue;
  screen : record l.screen { keys = record l.screen.keys { queue = [] } } ≡ record l.fn.screen { keys = record l.fn.screen.keys { queue = [] } };
}

abbrev pub decreases-loop-key : goal.decreases-loop-key
decreases-loop-key l = length l.screen.keys.queue
