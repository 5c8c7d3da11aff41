use Rattle.std.proofs.Common.{◌≡◌, ◌∙◌, ap, false, length, sym}
use Rattle.std.proofs.lemmas.List.{with_items_is}
use Rattle.scr_memory.specs.Code.Remembering.{with_run}
use Rattle.scr_memory.proofs.MemoryViewLaws.{disturbed_is}
use Rattle.scr_memory.proofs.memories.Memory.disturb.Goals as goal

pub returns : goal.returns
returns c =
    let there = c.rows_there-from.result in
    let kept : length c.set_run.new.rows ≡ c.self.inside.rows.len = c.set_run.auto.rows ∙ ap length c.deref_mut.ensures.value ∙ sym c.self.inside.rows.ok.0 in
    c.forget_spot_and_pen.ensures
    ∙ disturbed_is _ c.args.self.now c.args.first c.args.n there.0 there.1 c.size-size.result.rows _ c.self.view_is (c.self.invariant.is.whole ∙ sym c.size-size.ensures.rows) c.rows_there-from.ensures.same
    (with_items_is c.self.inside.rows c.set_run.new.rows kept ∙ c.set_run.ensures ∙ ap (with_run false there.0 there.1) c.deref_mut.ensures.value)
