use Rattle.std.proofs.Common.{ap, ◌∙◌, ◌+◌, ◌-◌}
use Rattle.scr_term.specs.Operations.States.{spot_after}
use Rattle.scr_plan.specs.Code.Joinings.{counted_up}
use Rattle.scr_plan.proofs.drafts.Draft.count_each.Goals as goal

pub returns : goal.returns
returns c = λ i. record {
  ops = c.args.self.now.ops;
  keeps = c.args.self.now.keeps;
  bytes = (c.saturating_add-self.ensures ∙ ap (λ n. counted_up (c.args.self.now.bytes + n)) c.bytes_of_run.ensures) i;
  spot = (c.spot_after-self.ensures ∙ ap (λ n. spot_after n c.args.row (c.args.end - 1)) c.size-size.ensures.columns) i;
  pen = c.args.self.now.pen;
}
