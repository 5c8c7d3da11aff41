use Rattle.std.proofs.Common.{◌≡◌, ◌≤◌, false, length, vec_capacity}
use Rattle.screen_sessions.specs.Code.Progress.{SoFar}
use Rattle.screen_sessions.specs.Sessions.{beginning_of, last_ok_after}
use Rattle.screen_sessions.proofs.sessions.make_calls.Given as goal

abbrev pub invariant-loop-call : goal.invariant-loop-call
invariant-loop-call g l = record {
  room : length l.calls ≤ vec_capacity l.answers;
  made : length l.answers.items ≡ l.call-index;
  so_far : SoFar l.fn.screen.profile (beginning_of l.fn.screen) l.fn.screen l.calls l.answers.items l.screen (g.W.Counted.told l.fn.out) (g.W.Counted.told l.out);
  last : l.last_ok ≡ last_ok_after false l.answers.items;
}
