use Rattle.std.proofs.Common.{rules, refl, sym, ◌∙◌, ◌<◌, ◌≢◌, length, get_or, arith}
use Rattle.std.proofs.lemmas.List.Sorted.{IsPartitionPoint-from_clause}
use Rattle.scr_windows.specs.DeskViews.{no_window}
use Rattle.scr_windows.proofs.DeskLaws.{frame_of, number_of, frame_number}
use Rattle.scr_windows.proofs.NumberLaws.{is_before, found_at, absent_at, are_partitioned, read_number}
use Rattle.scr_windows.proofs.windows.index_of_number.Goals as goal
use Rattle.scr_windows.proofs.windows.index_of_number.Goals.{else-index-windows-via-then-index-windows+else-frame-number, else-index-windows-via-else-index-windows}

pub returns-then-frame-number : goal.returns-then-frame-number
returns-then-frame-number c =
    let parts = IsPartitionPoint-from_clause (is_before number_of c.args.number) _ _ c.partition_point-index.ensures.partitioned (are_partitioned number_of _ c.args.number c.requires) (λ x b f' k. search rules) in
    let read = read_number number_of frame_number frame_of (λ x. refl) _ c.partition_point-index.result _ no_window _ c.if-index-windows.true c.index-windows-index.is c.frame.ensures in
    found_at number_of _ c.args.number _ no_window parts c.if-index-windows.true (read ∙ c.if-frame-number.true)

pub returns-else-index-windows : goal.returns-else-index-windows
returns-else-index-windows c =
    let parts = IsPartitionPoint-from_clause (is_before number_of c.args.number) _ _ c.partition_point-index.ensures.partitioned (are_partitioned number_of _ c.args.number c.requires) (λ x b f' k. search rules) in
    absent_at number_of _ c.args.number _ no_window c.requires parts
    (elim c.else-index-windows.branch as (λ _. c.partition_point-index.result < length c.args.windows.now → number_of (get_or c.args.windows.now c.partition_point-index.result no_window) ≢ c.args.number) [
      | else-index-windows-via-then-index-windows+else-frame-number w ↦ (λ l e. w.if-frame-number.false (sym (read_number number_of frame_number frame_of (λ x. refl) _ c.partition_point-index.result _ no_window _ l w.index-windows-index.is w.frame.ensures) ∙ e))
      | else-index-windows-via-else-index-windows w ↦ (λ l. absurd (omega arith))
    ])
