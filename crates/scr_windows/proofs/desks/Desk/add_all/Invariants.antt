use Rattle.std.proofs.Common.{◌≡◌, ◌-◌, ◌<◌, ◌≤◌, length, drop}
use Rattle.scr_windows.specs.Calls.Adding.{text_added, either_stayed}
use Rattle.scr_windows.proofs.desks.Desk.add_all.Given as goal

-- what is added so far, and what the rest of the text adds, is what the text adds
abbrev pub invariant-loop-at : goal.invariant-loop-at
invariant-loop-at l = record {
  within : l.at ≤ length l.text;
  here : l.index < length l.self.windows;
  desk : (text_added l.self l.index (drop l.at l.text)).0 ≡ (text_added l.fn.self l.index l.text).0;
  answer : either_stayed l.all (text_added l.self l.index (drop l.at l.text)).1 ≡ (text_added l.fn.self l.index l.text).1;
}

abbrev pub decreases-loop-at : goal.decreases-loop-at
decreases-loop-at l = length l.text - l.at
