use Rattle.std.proofs.Common.{◌≡◌, ℕ, ◌∙◌, ap, arith, set}
use Rattle.scr_memory.specs.Code.Remembering.{with_run}
use Rattle.scr_memory.proofs.RememberedRowLaws.{none_with, one_with}
use Rattle.scr_memory.proofs.known_rows.set_run.Goals as goal

pub loop-row-init : goal.loop-row-init
loop-row-init c = none_with c.args.known c.args.first c.args.rows.now

pub loop-row-preserved : goal.loop-row-preserved
loop-row-preserved c =
    ap (λ xs. set xs c.loop-row.row c.args.known) c.loop-row.invariant ∙ one_with c.args.known c.args.first c.loop-row.row c.args.rows.now (omega arith) (omega arith)

pub returns : goal.returns
returns c =
    let done : c.loop-row.row ≡ c.args.end = omega arith in
    c.loop-row.invariant ∙ ap (λ (end : ℕ). with_run c.args.known c.args.first end c.args.rows.now) done
