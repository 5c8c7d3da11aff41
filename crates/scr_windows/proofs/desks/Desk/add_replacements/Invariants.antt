use Rattle.std.proofs.Common.{◌≡◌, ◌-◌, ◌<◌, length}
use Rattle.std.specs.Prelude.{replicate}
use Rattle.scr_windows.specs.Calls.Adding.{text_added, either_stayed}
use Rattle.scr_windows.proofs.desks.Desk.add_replacements.Given as goal

-- what is added so far, and what the others add, is what all of them add
abbrev pub invariant-loop : goal.invariant-loop
invariant-loop l = record {
  here : l.index < length l.self.windows;
  desk : (text_added l.self l.index (replicate (l.count - l.counter) 0xFFFD)).0 ≡ (text_added l.fn.self l.index (replicate l.count 0xFFFD)).0;
  answer : either_stayed l.all (text_added l.self l.index (replicate (l.count - l.counter) 0xFFFD)).1 ≡ (text_added l.fn.self l.index (replicate l.count 0xFFFD)).1;
}
