use Rattle.std.proofs.Common.{◌≡◌, ◌∙◌, ap, length, sym, true}
use Rattle.std.proofs.lemmas.List.{with_items_is}
use Rattle.scr_memory.specs.Code.Remembering.{with_run}
use Rattle.scr_memory.proofs.MemoryViewLaws.{least_tells, rest_is, rest_kept}
use Rattle.scr_memory.proofs.memories.Memory.know_rows_from.Goals as goal

pub returns-then-self : goal.returns-then-self
returns-then-self c = rest_kept _ c.args.self.now c.self.inside.all_rows c.args.row c.self.view_is c.self.invariant c.if-self.true

pub returns : goal.returns
returns c =
    let kept : length c.set_run.new.rows ≡ c.self.inside.rows.len = c.set_run.auto.rows ∙ ap length c.deref_mut.ensures.value ∙ sym c.self.inside.rows.ok.0 in
    rest_is _ c.args.self.now c.args.row c.min-from.result c.size-size.result.rows _ c.self.view_is (c.self.invariant.is.whole ∙ sym c.size-size.ensures.rows) (λ r h. least_tells c.args.row c.size-size.result.rows r h c.min-from.result c.min-from.ensures)
    (with_items_is c.self.inside.rows c.set_run.new.rows kept ∙ c.set_run.ensures ∙ ap (with_run true c.min-from.result c.size-size.result.rows) c.deref_mut.ensures.value)
