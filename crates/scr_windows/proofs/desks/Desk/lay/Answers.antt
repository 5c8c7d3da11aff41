use Rattle.std.proofs.Common.{◌+◌, ◌∙◌, ap, arith, true}
use Rattle.scr_windows.specs.Surfaces.Formulas.{block_at, part_laid, part_of}
use Rattle.scr_windows.specs.Changes.{marked, write}
use Rattle.scr_windows.proofs.DeskLaws.{draws_on, draws_part, drawn_is_desk, written_path}
use Rattle.scr_windows.proofs.desks.Desk.lay.Goals as goal

pub index_mut-requires : goal.index_mut-requires
index_mut-requires c = omega (arith, draws_on _ _ c.args.index _ _ (record { is = c.self.view_is; desk = c.self.invariant; here = c.requires.here; window = c.index_mut-window.ensures.value; frame_is = c.frame-frame.ensures }))

pub lay-requires-clause-area : goal.lay-requires-clause-area
lay-requires-clause-area c = draws_part _ _ c.args.index _ _ _ (record { is = c.self.view_is; desk = c.self.invariant; here = c.requires.here; window = c.index_mut-window.ensures.value; frame_is = c.frame-frame.ensures }) c.index_mut.ensures.value

pub invariant_of-self : goal.invariant_of-self
invariant_of-self c =
    drawn_is_desk c.surface_laws.ensures _ _ c.args.index _ _ _ _ _ c.args.top (c.args.top + c.args.block.now.rows) (λ before. part_laid c.args.overlay (part_of c.args.top c.args.left c.args.block.now) (block_at c.args.block.now) before) (record { is = c.self.view_is; desk = c.self.invariant; here = c.requires.here; window = c.index_mut-window.ensures.value; frame_is = c.frame-frame.ensures })
    c.index_mut.ensures.value (c.mark.ensures ∙ ap (λ n. marked c.args.top (c.args.top + n) true c.index_mut-window.result.now) c.rows.ensures.value) c.lay.ensures

pub returns-clause-laid : goal.returns-clause-laid
returns-clause-laid c =
    written_path _ _ c.args.index _ _ _ _ _ c.args.top (c.args.top + c.args.block.now.rows) (λ before. part_laid c.args.overlay (part_of c.args.top c.args.left c.args.block.now) (block_at c.args.block.now) before) (record { is = c.self.view_is; desk = c.self.invariant; here = c.requires.here; window = c.index_mut-window.ensures.value; frame_is = c.frame-frame.ensures })
    c.index_mut.ensures.value (c.mark.ensures ∙ ap (λ n. marked c.args.top (c.args.top + n) true c.index_mut-window.result.now) c.rows.ensures.value) c.lay.ensures
    ∙ ap (λ v. write v c.args.index c.args.top (c.args.top + c.args.block.now.rows) (λ before. part_laid c.args.overlay (part_of c.args.top c.args.left c.args.block.now) (block_at c.args.block.now) before)) c.self.view_is
