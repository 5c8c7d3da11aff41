use Rattle.std.proofs.Common.{◌∙◌, arith, sym}
use Rattle.scr_virtual.specs.Code.Lines.{copied_lines, lent_at}
use Rattle.scr_virtual.proofs.CopyLaws.{line_left, none_copied}
use Rattle.scr_virtual.proofs.TakingLaws.{line_taken, still_shown}
use Rattle.scr_virtual.proofs.screens.Virtual.copy_lines.Goals.{then-is_copied, else-is_copied}
use Rattle.scr_virtual.proofs.screens.Virtual.copy_lines.Goals as goal

pub loop-row-init : goal.loop-row-init
loop-row-init c = record { copied = none_copied c.grid_laws.ensures c.args.part _ _ c.args.self.now c.size-screen.ensures.screen.picture.grid; inside = c.requires }

pub loop-row-preserved : goal.loop-row-preserved
loop-row-preserved c =
    let inv = c.loop-row.invariant in
    elim c.if-is_copied.branch [
      | then-is_copied w ↦
          let copied = w.self-is
          ∙ line_taken c.grid_laws.ensures c.args.self.now c.loop-row.self w.copy_part_line.new.self c.args.window.now c.args.part c.args.all c.loop-row.row c.size-screen.ensures.screen c.requires inv.copied (omega arith)
          (sym c.is_copied.ensures ∙ w.if-is_copied.true) w.copy_part_line.ensures.width w.copy_part_line.ensures.copied in
          record { copied = copied; inside = still_shown _ _ _ _ _ _ _ c.requires copied }
      | else-is_copied w ↦
          let copied = w.self-is ∙ inv.copied
          ∙ line_left c.args.part (copied_lines c.args.all c.args.window.now) (lent_at c.args.window.now) c.args.self.now c.loop-row.row (sym c.is_copied.ensures ∙ w.if-is_copied.false) in
          record { copied = copied; inside = still_shown _ _ _ _ _ _ _ c.requires copied }
    ]
