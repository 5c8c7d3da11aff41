use Rattle.std.proofs.Common.{◌+◌, ◌∙◌, ap, drop}
use Rattle.scr_windows.specs.declared.faults.Added.{Added}
use Rattle.scr_windows.specs.Calls.Adding.{either_stayed, text_added}
use Rattle.scr_windows.proofs.AddedLaws.{added_more}
use Rattle.scr_windows.proofs.desks.Desk.add_all.Goals as goal

pub loop-at-preserved : goal.loop-at-preserved
loop-at-preserved c =
    let rest = drop (c.loop-at.at + c.add_some-count.result.0) c.args.text.now in
    let more = added_more c.loop-at.self c.add_some-count.new.self c.args.self.now c.args.index c.loop-at.at c.add_some-count.result.0 c.loop-at.all c.add_some-count.result.1 c.args.text.now c.add_some-count.ensures.added
    c.loop-at.invariant.desk c.loop-at.invariant.answer in
    record {
      within = c.add_some-count.ensures.within;
      here = c.add_some-count.ensures.there;
      desk = more.0;
      answer = ap (λ (all : Added). either_stayed all (text_added c.add_some-count.new.self c.args.index rest).1) c.either-all.ensures ∙ more.1;
    }
