use Rattle.std.proofs.Common.{◌∙◌, sym, arith}
use Rattle.scr_keys.proofs.TableLaws.{long_in_all, none_in_all, none_long}
use Rattle.scr_keys.proofs.tables.too_long.Goals as goal

pub returns-then-is_too_long : goal.returns-then-is_too_long
returns-then-is_too_long c =
    sym (long_in_all c.args.set c.args.entry.now c.loop-slot.slot (omega (arith, c.loop-slot-test.true, c.loop-slot.auto.slot-end)) c.loop-slot.invariant.few (sym c.is_too_long.ensures ∙ c.if-is_too_long.true))

pub loop-slot-preserved : goal.loop-slot-preserved
loop-slot-preserved c = record { few = none_long c.args.set c.args.entry.now c.loop-slot.slot c.loop-slot.invariant.few (sym c.is_too_long.ensures ∙ c.if-is_too_long.false) }

pub returns : goal.returns
returns c = sym (none_in_all c.args.set c.args.entry.now c.loop-slot.slot c.loop-slot.invariant.few (omega (arith, c.loop-slot-test.false, c.loop-slot.auto.slot-end)))
