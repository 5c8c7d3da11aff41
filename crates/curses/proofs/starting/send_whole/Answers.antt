use Rattle.std.proofs.Common.{◌∙◌, true, ap}
use Rattle.std.specs.Option.{is_some}
use Rattle.curses.specs.Writers.{counted}
use Rattle.curses.proofs.StartingLaws.{sent_whole, stopped_in_text}
use Rattle.curses.proofs.UpdateLaws.{failed_since, finished_since, some_not_none}
use Rattle.curses.proofs.starting.send_whole.Goals as goal

pub returns-in-Some-fault-clause-err : goal.returns-in-Some-fault-clause-err
returns-in-Some-fault-clause-err g c =
    stopped_in_text c.args.profile.now c.args.ops.now c.send_all-first.result.begun c.args.text.now c.args.waiting.now.items c.send_all-first.new.waiting.items c.send_text-last.new.waiting.items
    (g.W.Counted.told c.args.out.now) (g.W.Counted.told c.send_all-first.new.out) (g.W.Counted.told c.send_text-last.new.out) c.send_all-first.result.bytes c.send_text-last.result.bytes
    (c.send_all-first.ensures.whole c.in_default.is) (c.send_all-first.ensures.nothing c.in_default.is) (c.send_text-last.ensures.fault (some_not_none _ _ c.in-Some-fault.is)) c.send_all-first.ensures.cut
    c.send_text-last.ensures.cut
    (c.send_text-last.ensures.puts ∙ ap (λ f. counted (is_some f) (g.W.Counted.told c.send_all-first.new.out).failed_puts) c.in-Some-fault.is
    ∙ ap (counted true) (c.send_all-first.ensures.puts ∙ ap (λ f. counted (is_some f) (g.W.Counted.told c.args.out.now).failed_puts) c.in_default.is))
    (c.send_text-last.ensures.finishes ∙ c.send_all-first.ensures.finishes)

pub returns-in-Some-finish_after-clause-err : goal.returns-in-Some-finish_after-clause-err
returns-in-Some-finish_after-clause-err g c = (
  sent_whole c.args.profile.now c.args.ops.now c.send_all-first.result.begun c.args.text.now c.args.waiting.now.items c.send_all-first.new.waiting.items c.send_text-last.new.waiting.items
      (g.W.Counted.told c.args.out.now) (g.W.Counted.told c.send_all-first.new.out) (g.W.Counted.told c.send_text-last.new.out) (g.W.Counted.told c.finish_after.new.out) c.send_all-first.result.bytes
      c.send_text-last.result.bytes (c.send_all-first.ensures.whole c.in_default.is) (c.send_all-first.ensures.nothing c.in_default.is) (c.send_text-last.ensures.nothing c.in_default-fault.is) c.send_all-first.ensures.cut
      c.send_text-last.ensures.cut c.finish_after.ensures.bytes
      (c.finish_after.ensures.puts ∙ c.send_text-last.ensures.puts ∙ ap (λ f. counted (is_some f) (g.W.Counted.told c.send_all-first.new.out).failed_puts) c.in_default-fault.is ∙ c.send_all-first.ensures.puts
      ∙ ap (λ f. counted (is_some f) (g.W.Counted.told c.args.out.now).failed_puts) c.in_default.is),
  failed_since (g.W.Counted.told c.args.out.now) (g.W.Counted.told c.send_text-last.new.out) (g.W.Counted.told c.finish_after.new.out) (c.send_text-last.ensures.finishes ∙ c.send_all-first.ensures.finishes)
      (c.finish_after.ensures.failed (some_not_none _ _ c.in-Some-finish_after.is)),
)

pub returns-clause-ok : goal.returns-clause-ok
returns-clause-ok g c = (
  sent_whole c.args.profile.now c.args.ops.now c.send_all-first.result.begun c.args.text.now c.args.waiting.now.items c.send_all-first.new.waiting.items c.send_text-last.new.waiting.items
      (g.W.Counted.told c.args.out.now) (g.W.Counted.told c.send_all-first.new.out) (g.W.Counted.told c.send_text-last.new.out) (g.W.Counted.told c.finish_after.new.out) c.send_all-first.result.bytes
      c.send_text-last.result.bytes (c.send_all-first.ensures.whole c.in_default.is) (c.send_all-first.ensures.nothing c.in_default.is) (c.send_text-last.ensures.nothing c.in_default-fault.is) c.send_all-first.ensures.cut
      c.send_text-last.ensures.cut c.finish_after.ensures.bytes
      (c.finish_after.ensures.puts ∙ c.send_text-last.ensures.puts ∙ ap (λ f. counted (is_some f) (g.W.Counted.told c.send_all-first.new.out).failed_puts) c.in_default-fault.is ∙ c.send_all-first.ensures.puts
      ∙ ap (λ f. counted (is_some f) (g.W.Counted.told c.args.out.now).failed_puts) c.in_default.is),
  finished_since _ (g.W.Counted.told c.args.out.now) (g.W.Counted.told c.send_text-last.new.out) (g.W.Counted.told c.finish_after.new.out) (c.send_text-last.ensures.finishes ∙ c.send_all-first.ensures.finishes)
      (c.finish_after.ensures.finished c.in_default-finish_after.is),
)
