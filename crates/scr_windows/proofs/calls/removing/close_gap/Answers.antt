use Rattle.std.proofs.Common.{◌≡◌, ◌∙◌, ap, arith, get_or}
use Rattle.scr_windows.specs.declared.frames.Frame.{Frame}
use Rattle.scr_windows.proofs.FrameLaws.{reframed_more}
use Rattle.scr_windows.proofs.RemovingLaws.{frame_moved}
use Rattle.scr_windows.proofs.calls.removing.close_gap.Goals as goal

pub loop-index-preserved : goal.loop-index-preserved
loop-index-preserved c =
    let moved : Frame = record c.frame-frame.result { surface = c.moved_up.result } in
    let is : moved ≡ frame_moved c.args.gone (get_or c.loop-index.windows c.loop-index.index c.index-windows-index.result).frame = (λ j. record c.frame-frame.result { surface = c.moved_up.ensures j }) ∙ ap (frame_moved c.args.gone) c.frame-frame.ensures in
    reframed_more (frame_moved c.args.gone) c.args.windows.now c.loop-index.windows c.loop-index.index _ _ _ moved (omega arith) c.loop-index.invariant is c.set_frame.ensures
