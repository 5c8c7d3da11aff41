use Rattle.std.proofs.Common.{ℕ, ◌+◌, ◌-◌, ◌∙◌, ap, sym, subst, arith, length}
use Rattle.scr_windows.proofs.DeskLaws.{frame_of}
use Rattle.scr_windows.proofs.MovingLaws.{Searched, up_own, up_none, up_parent, up_other}
use Rattle.scr_windows.proofs.calls.moving.descends.Goals.{then-frame-number+else-number-ancestor+in-Some, else-frame-number}
use Rattle.scr_windows.proofs.calls.moving.descends.Goals as goal

pub returns-then-number-ancestor : goal.returns-then-number-ancestor
returns-then-number-ancestor c =
    up_own c.args.windows.now c.args.ancestor c.loop-later.later c.loop-later.number c.args.number _ _ (omega arith) (c.frame-frame.ensures ∙ ap frame_of c.index-windows-windows.is) c.loop-later.invariant c.if-frame-number.true c.if-number-ancestor.true

pub returns-in-None : goal.returns-in-None
returns-in-None c =
    up_none c.args.windows.now c.args.ancestor c.loop-later.later c.loop-later.number c.args.number _ _ (omega arith) (c.frame-frame.ensures ∙ ap frame_of c.index-windows-windows.is) c.loop-later.invariant c.if-frame-number.true c.if-number-ancestor.false c.in-None.is

pub loop-later-preserved : goal.loop-later-preserved
loop-later-preserved c =
    let P : ℕ → Type 0 = λ n. Searched c.args.windows.now c.args.ancestor (length c.args.windows.now - (c.loop-later.later + 1)) n c.args.number in
    elim c.if-frame-number.branch [
      | then-frame-number+else-number-ancestor+in-Some w ↦ subst P (sym w.number-is)
          (up_parent c.args.windows.now c.args.ancestor c.loop-later.later c.loop-later.number w.in-Some.parent c.args.number _ _ (omega arith) (c.frame-frame.ensures ∙ ap frame_of c.index-windows-windows.is) c.loop-later.invariant
          w.if-frame-number.true w.if-number-ancestor.false w.in-Some.is)
      | else-frame-number w ↦ subst P (sym w.number-is)
          (up_other c.args.windows.now c.args.ancestor c.loop-later.later c.loop-later.number c.args.number _ _ (omega arith) (c.frame-frame.ensures ∙ ap frame_of c.index-windows-windows.is) c.loop-later.invariant w.if-frame-number.false)
    ]
