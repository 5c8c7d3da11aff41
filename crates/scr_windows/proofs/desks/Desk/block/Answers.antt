use Rattle.std.proofs.Common.{◌≡◌, ◌∙◌, ap, arith}
use Rattle.scr_windows.proofs.CopyLaws.{block_read, part_within}
use Rattle.scr_windows.specs.declared.frames.Frame.{Frame}
use Rattle.scr_windows.specs.DeskViews.{window_at}
use Rattle.scr_windows.proofs.DeskLaws.{draws_on, draws_part, frame_of, reads_of}
use Rattle.scr_windows.proofs.desks.Desk.block.Goals as goal

pub index-requires : goal.index-requires
index-requires c = omega (arith, draws_on _ _ c.args.index _ _ (record { is = c.self.view_is; desk = c.self.invariant; here = c.requires.index; window = reads_of _ _ c.args.index _ c.self.view_is c.requires.index c.window_at.ensures.window; frame_is = c.frame-frame.ensures }))

pub block-requires : goal.block-requires
block-requires c =
    let frame_is : c.frame-frame.result ≡ (window_at c.args.self.now c.args.index).frame = c.frame-frame.ensures ∙ ap frame_of c.window_at.ensures.window in
    part_within _ _ c.args.row c.args.column c.args.part.rows c.args.part.columns (draws_part _ _ c.args.index _ _ _ (record { is = c.self.view_is; desk = c.self.invariant; here = c.requires.index; window = reads_of _ _ c.args.index _ c.self.view_is c.requires.index c.window_at.ensures.window; frame_is = c.frame-frame.ensures }) c.index.ensures) c.requires.some_rows c.requires.some_columns (omega (arith, c.requires.below, ap (λ (f : Frame). f.area.rows) frame_is)) (omega (arith, c.requires.right, ap (λ (f : Frame). f.area.columns) frame_is))

pub returns : goal.returns
returns c = block_read _ _ c.args.index _ _ _ c.args.row c.args.column c.args.part _ (record { is = c.self.view_is; desk = c.self.invariant; here = c.requires.index; window = reads_of _ _ c.args.index _ c.self.view_is c.requires.index c.window_at.ensures.window; frame_is = c.frame-frame.ensures }) c.index.ensures c.in_ok-block.ensures
