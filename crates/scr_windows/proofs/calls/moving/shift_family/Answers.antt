use Rattle.std.proofs.Common.{arith, ap, ◌∙◌, sym, subst}
use Rattle.scr_windows.specs.declared.frames.Frame.{Frame}
use Rattle.scr_windows.specs.Code.Families.{IsNearFrame}
use Rattle.scr_windows.proofs.MovingLaws.{turn_of, family_more, near_now}
use Rattle.scr_windows.proofs.calls.moving.shift_family.Goals as goal

pub family_frame-frame-requires-clause-near : goal.family_frame-frame-requires-clause-near
family_frame-frame-requires-clause-near c =
    let P : Frame → Type 0 = λ f. IsNearFrame f in
    subst P (sym c.frame-frame.ensures) (near_now c.args.ancestor c.args.shift c.args.windows.now c.loop-index.windows c.loop-index.index _ (omega arith) c.requires.near c.loop-index.invariant)

pub loop-index-preserved : goal.loop-index-preserved
loop-index-preserved c =
    family_more c.args.ancestor c.args.shift c.args.windows.now c.loop-index.windows c.loop-index.index _ _ _ _ (omega arith) c.loop-index.invariant
    (c.family_frame-frame.ensures ∙ ap (turn_of c.args.ancestor c.args.shift c.loop-index.windows) c.frame-frame.ensures) c.set_frame.ensures
