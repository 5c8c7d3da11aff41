use Rattle.std.proofs.Common.{rules, refl}
use Rattle.ti_source.proofs.LaidLaws.{far-laid, flag-laid, number-laid, text-laid}
use Rattle.ti_source.proofs.AloneLaws.{on_ok_at}
use Rattle.ti_source.proofs.resolving.merge.lay.Goals as goal

pub returns-then-field-room-clause-ok : goal.returns-then-field-room-clause-ok
returns-then-field-room-clause-ok c =
    far-laid c.args.field.now c.args.entry.now c.args.entry.now (rw c.room.ensures at c.if-field-room.true) refl

pub returns-in-Flag-clause-ok : goal.returns-in-Flag-clause-ok
returns-in-Flag-clause-ok c =
    flag-laid c.args.field.now c.args.entry.now c.set_flag.new.self c.in-Flag.is (rw (c.unwrap.ensures, c.flag_of.ensures) at c.set_flag.ensures.ok)

pub returns-in-Number-clause-ok : goal.returns-in-Number-clause-ok
returns-in-Number-clause-ok c =
    number-laid c.args.field.now c.args.entry.now c.set_number.new.self c.in-Number.is (rw (c.unwrap-in-Number.ensures, c.number_of.ensures.value) at c.set_number.ensures.ok)

pub returns-in_ok-map_err-in-Text-clause-ok : goal.returns-in_ok-map_err-in-Text-clause-ok
returns-in_ok-map_err-in-Text-clause-ok c =
    text-laid c.args.field.now c.args.entry.now c.set_text.new.self c.in-Text.is (rw c.text_of.ensures.value at (on_ok_at c.set_text.result (search rules) c.set_text.ensures.ok))
