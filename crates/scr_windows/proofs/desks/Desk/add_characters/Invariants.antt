use Rattle.std.proofs.Common.{◌≡◌, ◌-◌, ◌<◌, drop, length}
use Rattle.std.specs.List.{flat_map}
use Rattle.std.specs.Str.{IsCharBoundary, chars}
use Rattle.scr_windows.specs.Calls.Adding.{either_stayed, fitted, text_added}
use Rattle.scr_windows.proofs.desks.Desk.add_characters.Given as goal

-- what is added so far, and what the rest of the text adds, is what the text adds
abbrev pub invariant-loop-at : goal.invariant-loop-at
invariant-loop-at l = record {
  place : IsCharBoundary l.text l.at;
  here : l.index < length l.self.windows;
  desk : (text_added l.self l.index (flat_map fitted (chars (drop l.at l.text)))).0 ≡ (text_added l.fn.self l.index (flat_map fitted (chars l.text))).0;
  answer : either_stayed l.all (text_added l.self l.index (flat_map fitted (chars (drop l.at l.text)))).1 ≡ (text_added l.fn.self l.index (flat_map fitted (chars l.text))).1;
}

abbrev pub decreases-loop-at : goal.decreases-loop-at
decreases-loop-at l = length l.text - l.at
