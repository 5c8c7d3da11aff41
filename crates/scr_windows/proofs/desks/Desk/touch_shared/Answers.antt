use Rattle.std.proofs.Common.{◌≡◌, ◌∙◌, ◌+◌, ◌-◌, min, max, true, ap, arith, sym, ◌≤◌}
use Rattle.scr_windows.specs.DeskViews.{window_at}
use Rattle.scr_windows.specs.Changes.{marked, with_window}
use Rattle.scr_windows.proofs.SyncLaws.{share_begun, share_more, share_not, share_all}
use Rattle.scr_windows.proofs.desks.Desk.touch_shared.Goals.{then-is_row_touched, else-is_row_touched}
use Rattle.scr_windows.proofs.desks.Desk.touch_shared.Goals as goal

pub loop-row-init : goal.loop-row-init
loop-row-init c =
    let one : c.frame.result.area ≡ (window_at c.args.self.now c.args.from).frame.area = ap (λ f. f.area) c.frame.ensures ∙ ap (λ w. w.frame.area) c.window_at.ensures.window in
    let other : c.frame-2.result.area ≡ (window_at c.args.self.now c.args.to).frame.area = ap (λ f. f.area) c.frame-2.ensures ∙ ap (λ w. w.frame.area) c.window_at-2.ensures.window in
    share_begun c.args.self.now c.args.from c.args.to c.max-row.result (c.max-row.ensures ∙ (λ j. max (one j).top (other j).top))

pub loop-row-preserved : goal.loop-row-preserved
loop-row-preserved c =
    let other : c.frame-2.result.area ≡ (window_at c.args.self.now c.args.to).frame.area = ap (λ f. f.area) c.frame-2.ensures ∙ ap (λ w. w.frame.area) c.window_at-2.ensures.window in
    let below : (window_at c.args.self.now c.args.to).frame.area.top ≤ c.loop-row.row = omega (arith, c.loop-row.auto.row, c.max-row.ensures, ap (λ a. a.top) other) in
    elim c.if-is_row_touched.branch [
      | then-is_row_touched w ↦ share_more c.args.self.now c.loop-row.self c.if-is_row_touched.self c.args.from c.args.to c.loop-row.row c.requires.to c.requires.apart c.loop-row.invariant below (sym c.is_row_touched.ensures ∙ w.if-is_row_touched.true)
          (w.self-is ∙ w.mark.ensures ∙ ap (λ a. with_window c.loop-row.self c.args.to (marked (c.loop-row.row - a.top) (c.loop-row.row - a.top + 1) true (window_at c.loop-row.self c.args.to))) other)
      | else-is_row_touched w ↦ w.self-is ∙ share_not c.args.self.now c.loop-row.self c.args.from c.args.to c.loop-row.row c.requires.apart c.loop-row.invariant (sym c.is_row_touched.ensures ∙ w.if-is_row_touched.false)
    ]

pub returns : goal.returns
returns c =
    let one : c.frame.result.area ≡ (window_at c.args.self.now c.args.from).frame.area = ap (λ f. f.area) c.frame.ensures ∙ ap (λ w. w.frame.area) c.window_at.ensures.window in
    let other : c.frame-2.result.area ≡ (window_at c.args.self.now c.args.to).frame.area = ap (λ f. f.area) c.frame-2.ensures ∙ ap (λ w. w.frame.area) c.window_at-2.ensures.window in
    let end : c.min-end.result ≡ min ((window_at c.args.self.now c.args.from).frame.area.top + (window_at c.args.self.now c.args.from).frame.area.rows) ((window_at c.args.self.now c.args.to).frame.area.top + (window_at c.args.self.now c.args.to).frame.area.rows) = c.min-end.ensures ∙ (λ j. min ((one j).top + (one j).rows) ((other j).top + (other j).rows)) in
    share_all c.args.self.now c.loop-row.self c.args.from c.args.to c.loop-row.row c.window_at.ensures.placed.window c.window_at-2.ensures.placed.window c.loop-row.invariant (omega (arith, end, c.loop-row-test.false))
