use Rattle.std.proofs.Common.{◌∙◌, ap, length, map}
use Rattle.std.proofs.lemmas.List.{with_items_is}
use Rattle.scr_windows.proofs.DeskLaws.{length_map}
use Rattle.scr_windows.proofs.FrameLaws.{reframed}
use Rattle.scr_windows.proofs.RemovingLaws.{frame_moved, surface_removed, surface_removed_path}
use Rattle.scr_windows.proofs.desks.Desk.remove_surface.Goals as goal

pub invariant_of-self : goal.invariant_of-self
invariant_of-self c =
    let len = ap length c.close_gap.ensures ∙ length_map (reframed (frame_moved c.args.gone)) c.deref_mut.result.now ∙ c.deref_mut.ensures.len in
    surface_removed _ _ c.self.view_is c.args.gone _ _ c.self.invariant c.requires.there c.requires.free c.remove.ensures.items
    (with_items_is c.self.inside.windows c.close_gap.new.windows len ∙ c.close_gap.ensures ∙ ap (map (reframed (frame_moved c.args.gone))) c.deref_mut.ensures.value)

pub returns : goal.returns
returns c =
    let len = ap length c.close_gap.ensures ∙ length_map (reframed (frame_moved c.args.gone)) c.deref_mut.result.now ∙ c.deref_mut.ensures.len in
    surface_removed_path _ _ c.self.view_is c.args.gone _ _ c.remove.ensures.items
    (with_items_is c.self.inside.windows c.close_gap.new.windows len ∙ c.close_gap.ensures ∙ ap (map (reframed (frame_moved c.args.gone))) c.deref_mut.ensures.value)
