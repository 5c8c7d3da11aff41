use Rattle.std.proofs.Common.{◌∙◌, ◌≤◌, sym, ap, arith, length, nat_lt, false}
use Rattle.scr_keys.proofs.TableLaws.{keys_in_all, keys_more, short_at, short_text}
use Rattle.scr_keys.proofs.tables.KeyTable.of_set.Goals as goal

pub add_key-requires-clause-few : goal.add_key-requires-clause-few
add_key-requires-clause-few c =
    short_text c.args.set c.args.entry.now c.loop-slot.slot c.in_ok-text.text.items (omega (arith, c.loop-slot-test.true, c.loop-slot.auto.slot-end)) c.loop-slot.invariant.few c.in_ok-text.ensures.text

pub loop-slot-preserved : goal.loop-slot-preserved
loop-slot-preserved c = record {
  keys = keys_more c.args.set c.args.entry.now c.loop-slot.maps.keys _ c.loop-slot.slot c.in_ok-text.text.items c.loop-slot.invariant.keys c.in_ok-text.ensures.text c.in_ok-add_key.ensures.keys;
  table = c.in_ok-add_key.ensures.table;
  few = c.loop-slot.invariant.few;
}

pub returns-clause-ok : goal.returns-clause-ok
returns-clause-ok c = record {
  all = keys_in_all c.args.set c.args.entry.now c.loop-slot.maps.keys c.loop-slot.slot c.loop-slot.invariant.keys (omega (arith, c.loop-slot-test.false, c.loop-slot.auto.slot-end));
  few = c.loop-slot.invariant.few;
}
