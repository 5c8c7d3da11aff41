use Rattle.std.proofs.Common.{◌≡◌, ◌∙◌, sym, arith, add-one}
use Rattle.ti_caps.specs.Table.{name_at, runs}
use Rattle.ti_caps.specs.NameRuns.{seen}
use Rattle.ti_caps.proofs.TableLaws.{named-step, named-end, past_runs}
use Rattle.ti_caps.proofs.table.name_of.Goals as goal

pub returns-in-Some : goal.returns-in-Some
unfolding name_at
returns-in-Some c =
    let e = named-step c.args.kind c.args.slot.0 runs c.loop-index.index (seen c.in_ok-names.names) c.in_ok-names.ensures.run in
    sym (rw (← c.in-Some.ensures) at e) ∙ c.loop-index.invariant

pub returns-in_err-names : goal.returns-in_err-names
unfolding name_at
returns-in_err-names c =
    rw c.from_residual.ensures (sym (named-end c.args.kind c.args.slot.0 runs c.loop-index.index c.in_err-names.ensures.run) ∙ c.loop-index.invariant)

pub loop-index-preserved : goal.loop-index-preserved
loop-index-preserved c =
    let e = named-step c.args.kind c.args.slot.0 runs c.loop-index.index (seen c.in_ok-names.names) c.in_ok-names.ensures.run in
    rw add-one (sym (rw (← c.in_default.ensures) at e) ∙ c.loop-index.invariant)

pub returns : goal.returns
unfolding name_at
returns c =
    let last : c.loop-index.index ≡ 10 = omega arith in
    rw (last, past_runs) at c.loop-index.invariant
