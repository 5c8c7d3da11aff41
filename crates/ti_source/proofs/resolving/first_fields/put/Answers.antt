use Rattle.std.proofs.Common.{◌+◌, drop}
use Rattle.ti_source.proofs.IndexLaws.{drop-at}
use Rattle.ti_source.proofs.FirstFieldLaws.{with-ordinal, without-ordinal}
use Rattle.ti_source.proofs.resolving.first_fields.put.Goals as goal

pub returns-then-field-room-clause-with : goal.returns-then-field-room-clause-with
returns-then-field-room-clause-with c =
    let fs = c.args.fields.now in
    let s = c.at-field.result.now in
    rw (drop-at fs c.args.i s c.at-field.ensures.value) (without-ordinal fs (drop (c.args.i + 1) fs) c.args.index.now s (rw c.room.ensures at c.if-field-room.true) c.requires.further)

pub returns-clause-with : goal.returns-clause-with
returns-clause-with c =
    let fs = c.args.fields.now in
    let s = c.at-field.result.now in
    rw (c.ordinal.ensures.value, drop-at fs c.args.i s c.at-field.ensures.value) (with-ordinal fs (drop (c.args.i + 1) fs) c.args.index.now s c.args.i c.requires.long ((rw c.ordinal.ensures.value at c.ordinal.ensures.inside) (rw c.room.ensures at c.if-field-room.false)) (rw c.room.ensures at c.if-field-room.false) c.at-field.ensures.value c.requires.further)
