use Rattle.std.proofs.Common.{◌≡◌, ◌∙◌, ap, length, replicate, sym}
use Rattle.std.proofs.lemmas.List.{with_items_is}
use Rattle.scr_memory.proofs.MemoryViewLaws.{set_is_kept}
use Rattle.scr_memory.proofs.memories.Memory.set_rows.Goals as goal

pub invariant_of-self : goal.invariant_of-self
invariant_of-self c =
    let kept : length c.set_all.new.rows ≡ c.self.inside.rows.len = c.set_all.auto.rows ∙ ap length c.deref_mut.ensures.value ∙ sym c.self.inside.rows.ok.0 in
    set_is_kept _ c.self.inside.all_rows c.args.known _ c.self.invariant
    (with_items_is c.self.inside.rows c.set_all.new.rows kept ∙ c.set_all.ensures ∙ ap (λ xs. replicate (length xs) c.args.known) c.deref_mut.ensures.value)
