use Rattle.std.proofs.Common.{◌≡◌, ◌∙◌, true, ap, subst, sym, take}
use Rattle.std.specs.Option.{is_some}
use Rattle.std.specs.List.{All}
use Rattle.scr_term.specs.Operations.Texts.{has}
use Rattle.curses.specs.Writers.{counted}
use Rattle.curses.proofs.CutLaws.{nothing_left}
use Rattle.curses.proofs.UpdateLaws.{beginnings_anew, begins_plan, failed_since, finished_since, had, kept_same, known_whole, planned_whole, sent_part, some_not_none}
use Rattle.curses.proofs.updates.update.Goals as goal

pub send_all-sent-requires-clause-has : goal.send_all-sent-requires-clause-has
send_all-sent-requires-clause-has g c =
    subst (λ ops. All (λ op. has c.args.profile.now op ≡ true) ops) (sym (c.deref.ensures.value ∙ c.plan.view_is))
    (had c.run_laws.ensures c.args.profile.now c.args.memory.now c.args.wanted.now c.in_ok-plan.plan c.requires.remembered.possible c.in_ok-plan.ensures.plan)

pub returns-in-Some-clause-err : goal.returns-in-Some-clause-err
returns-in-Some-clause-err g c = record {
  sent = sent_part c.run_laws.ensures c.args.profile.now c.planned.ensures.profile c.args.memory.now c.args.wanted.now c.in_ok-plan.plan c.deref.result.now c.truncate.new.self.items c.send_all-sent.result.begun c.args.waiting.now.items _
      (g.W.Counted.told c.args.out.now) (g.W.Counted.told c.send_all-sent.new.out) (g.W.Counted.told c.send_all-sent.new.out) _ c.in_ok-plan.ensures.plan (c.deref.ensures.value ∙ c.plan.view_is)
      (c.truncate.ensures.items ∙ sym (ap (take c.send_all-sent.result.begun) c.deref.ensures.value)) c.send_all-sent.ensures.cut (c.send_all-sent.ensures.one (some_not_none _ _ c.in-Some.is)) (kept_same _);
  begins = begins_plan c.args.profile.now c.args.memory.now c.args.wanted.now c.in_ok-plan.plan c.deref.result.now c.truncate.new.self.items c.send_all-sent.result.begun c.in_ok-plan.ensures.plan (c.deref.ensures.value ∙ c.plan.view_is)
      (c.truncate.ensures.items ∙ sym (ap (take c.send_all-sent.result.begun) c.deref.ensures.value));
  something = c.send_all-sent.ensures.fault (some_not_none _ _ c.in-Some.is);
  puts = c.send_all-sent.ensures.puts ∙ ap (λ f. counted (is_some f) (g.W.Counted.told c.args.out.now).failed_puts) c.in-Some.is;
  finishes = c.send_all-sent.ensures.finishes;
}

pub returns-in-Some-finish_after-clause-err : goal.returns-in-Some-finish_after-clause-err
returns-in-Some-finish_after-clause-err g c = record {
  sent = sent_part c.run_laws.ensures c.args.profile.now c.planned.ensures.profile c.args.memory.now c.args.wanted.now c.in_ok-plan.plan c.deref.result.now c.truncate.new.self.items c.send_all-sent.result.begun c.args.waiting.now.items _
      (g.W.Counted.told c.args.out.now) (g.W.Counted.told c.send_all-sent.new.out) (g.W.Counted.told c.finish_after.new.out) _ c.in_ok-plan.ensures.plan (c.deref.ensures.value ∙ c.plan.view_is)
      (c.truncate.ensures.items ∙ sym (ap (take c.send_all-sent.result.begun) c.deref.ensures.value)) c.send_all-sent.ensures.cut (nothing_left c.args.profile.now c.args.waiting.now.items (take c.send_all-sent.result.begun c.deref.result.now) c.send_all-sent.new.waiting.items
      (c.send_all-sent.ensures.nothing c.in_default.is)) c.finish_after.ensures.bytes;
  plan = planned_whole c.args.profile.now c.args.memory.now c.args.wanted.now c.in_ok-plan.plan c.deref.result.now c.truncate.new.self.items c.send_all-sent.result.begun c.in_ok-plan.ensures.plan (c.deref.ensures.value ∙ c.plan.view_is)
      (c.truncate.ensures.items ∙ sym (ap (take c.send_all-sent.result.begun) c.deref.ensures.value)) (c.send_all-sent.ensures.whole c.in_default.is);
  nothing = c.send_all-sent.ensures.nothing c.in_default.is;
  puts = c.finish_after.ensures.puts ∙ c.send_all-sent.ensures.puts ∙ ap (λ f. counted (is_some f) (g.W.Counted.told c.args.out.now).failed_puts) c.in_default.is;
  finished = failed_since (g.W.Counted.told c.args.out.now) (g.W.Counted.told c.send_all-sent.new.out) (g.W.Counted.told c.finish_after.new.out) c.send_all-sent.ensures.finishes
      (c.finish_after.ensures.failed (some_not_none _ _ c.in-Some-finish_after.is));
}

pub returns-clause-ok : goal.returns-clause-ok
returns-clause-ok g c = record {
  sent = sent_part c.run_laws.ensures c.args.profile.now c.planned.ensures.profile c.args.memory.now c.args.wanted.now c.in_ok-plan.plan c.deref.result.now c.truncate.new.self.items c.send_all-sent.result.begun c.args.waiting.now.items _
      (g.W.Counted.told c.args.out.now) (g.W.Counted.told c.send_all-sent.new.out) (g.W.Counted.told c.finish_after.new.out) _ c.in_ok-plan.ensures.plan (c.deref.ensures.value ∙ c.plan.view_is)
      (c.truncate.ensures.items ∙ sym (ap (take c.send_all-sent.result.begun) c.deref.ensures.value)) c.send_all-sent.ensures.cut (nothing_left c.args.profile.now c.args.waiting.now.items (take c.send_all-sent.result.begun c.deref.result.now) c.send_all-sent.new.waiting.items
      (c.send_all-sent.ensures.nothing c.in_default.is)) c.finish_after.ensures.bytes;
  plan = planned_whole c.args.profile.now c.args.memory.now c.args.wanted.now c.in_ok-plan.plan c.deref.result.now c.truncate.new.self.items c.send_all-sent.result.begun c.in_ok-plan.ensures.plan (c.deref.ensures.value ∙ c.plan.view_is)
      (c.truncate.ensures.items ∙ sym (ap (take c.send_all-sent.result.begun) c.deref.ensures.value)) (c.send_all-sent.ensures.whole c.in_default.is);
  possible = c.requires.remembered.possible;
  known =
      known_whole c.args.profile.now c.args.memory.now c.args.wanted.now c.in_ok-plan.plan c.deref.result.now c.truncate.new.self.items c.send_all-sent.result.begun c.in_ok-plan.ensures.plan c.requires.remembered.possible
      (c.deref.ensures.value ∙ c.plan.view_is) (c.truncate.ensures.items ∙ sym (ap (take c.send_all-sent.result.begun) c.deref.ensures.value)) (c.send_all-sent.ensures.whole c.in_default.is);
  nothing = c.send_all-sent.ensures.nothing c.in_default.is;
  puts = c.finish_after.ensures.puts ∙ c.send_all-sent.ensures.puts ∙ ap (λ f. counted (is_some f) (g.W.Counted.told c.args.out.now).failed_puts) c.in_default.is;
  finished = finished_since c.send_all-sent.result.bytes (g.W.Counted.told c.args.out.now) (g.W.Counted.told c.send_all-sent.new.out) (g.W.Counted.told c.finish_after.new.out) c.send_all-sent.ensures.finishes
      (c.finish_after.ensures.finished c.in_default-finish_after.is);
}

pub returns-in-Some-clause-anew : goal.returns-in-Some-clause-anew
returns-in-Some-clause-anew g c =
    beginnings_anew c.run_laws.ensures c.args.profile.now c.planned.ensures.profile c.args.memory.now c.args.wanted.now c.in_ok-plan.plan c.deref.result.now c.truncate.new.self.items c.send_all-sent.result.begun
    c.in_ok-plan.ensures.plan (c.deref.ensures.value ∙ c.plan.view_is) (c.truncate.ensures.items ∙ sym (ap (take c.send_all-sent.result.begun) c.deref.ensures.value))

pub returns-in-Some-finish_after-clause-anew : goal.returns-in-Some-finish_after-clause-anew
returns-in-Some-finish_after-clause-anew g c =
    beginnings_anew c.run_laws.ensures c.args.profile.now c.planned.ensures.profile c.args.memory.now c.args.wanted.now c.in_ok-plan.plan c.deref.result.now c.truncate.new.self.items c.send_all-sent.result.begun
    c.in_ok-plan.ensures.plan (c.deref.ensures.value ∙ c.plan.view_is) (c.truncate.ensures.items ∙ sym (ap (take c.send_all-sent.result.begun) c.deref.ensures.value))
