use Rattle.std.proofs.Common.{◌<◌, ◌∙◌, ◌∷◌, [], ap, get_or, false, subst, sym, arith, length}
use Rattle.std.proofs.lemmas.List.{length-append}
use Rattle.screen_sessions.specs.Code.Progress.{SoFar}
use Rattle.screen_sessions.specs.Sessions.{beginning_of, ended_well, last_ok_after}
use Rattle.screen_calls.specs.declared.calls.Call.TheVariants.{Doupdate}
use Rattle.screen_sessions.proofs.SessionLaws.{item_is, last_more, made_of, none_made, one_more}
use Rattle.screen_sessions.proofs.sessions.make_calls.Goals as goal

pub loop-call-preserved : goal.loop-call-preserved
loop-call-preserved g c =
    let inside : length c.loop-call.answers.items < length c.args.calls.now = omega (arith, c.loop-call.invariant.made, c.loop-call-test.true, c.loop-call.auto.call-index-end) in
    let here = ap (λ n. get_or c.args.calls.now n Doupdate) c.loop-call.invariant.made ∙ item_is c.args.calls.now c.loop-call.call-index c.call-item.result Doupdate (omega (arith, inside, c.loop-call.invariant.made)) c.call-item.is in
    record {
      room = omega (arith, c.loop-call.invariant.room, c.push.ensures.capacity);
      made = ap length c.in_ok-push.ensures.items ∙ length-append c.loop-call.answers.items (c.make_call-answer.result ∷ []) ∙ omega (arith, c.loop-call.invariant.made);
      so_far = subst (λ a. SoFar c.args.screen.now.profile (beginning_of c.args.screen.now) c.args.screen.now c.args.calls.now a c.make_call-answer.new.screen (g.W.Counted.told c.args.out.now) (g.W.Counted.told c.make_call-answer.new.out)) (sym c.in_ok-push.ensures.items)
          (one_more c.run_laws.ensures c.bytes_act_as_their_operations.ensures c.known_memories.ensures c.plan_is_cheap.ensures c.args.screen.now.profile (beginning_of c.args.screen.now) c.args.screen.now c.args.calls.now c.loop-call.answers.items c.call-item.result c.make_call-answer.result c.loop-call.screen c.make_call-answer.new.screen
          (g.W.Counted.told c.args.out.now) (g.W.Counted.told c.loop-call.out) (g.W.Counted.told c.make_call-answer.new.out) inside here c.loop-call.invariant.so_far c.make_call-answer.ensures.made);
      last = c.is_last_ok-last_ok.ensures ∙ ap (λ b. ended_well b c.make_call-answer.result) c.loop-call.invariant.last ∙ sym (last_more false c.loop-call.answers.items c.make_call-answer.result)
          ∙ sym (ap (last_ok_after false) c.in_ok-push.ensures.items);
    }

pub returns-clause-ok : goal.returns-clause-ok
returns-clause-ok g c =
    made_of c.args.screen.now c.loop-call.screen c.args.calls.now (record { answers = c.loop-call.answers.items; last_ok = c.loop-call.last_ok }) (g.W.Counted.told c.args.out.now) (g.W.Counted.told c.loop-call.out) c.loop-call.invariant.so_far
    (omega (arith, c.loop-call.invariant.made, c.loop-call-test.false, c.loop-call.auto.call-index-end)) c.loop-call.invariant.last c.screen-size.ensures.possible

pub loop-call-init : goal.loop-call-init
loop-call-init g c = record {
  room = omega (arith, c.in_ok-answers.ensures.capacity);
  made = ap length c.in_ok-answers.ensures.items;
  so_far = subst (λ a. SoFar c.args.screen.now.profile (beginning_of c.args.screen.now) c.args.screen.now c.args.calls.now a c.args.screen.now (g.W.Counted.told c.args.out.now) (g.W.Counted.told c.args.out.now))
      (sym c.in_ok-answers.ensures.items) (none_made c.args.calls.now c.args.screen.now (g.W.Counted.told c.args.out.now));
  last = sym (ap (last_ok_after false) c.in_ok-answers.ensures.items);
}
