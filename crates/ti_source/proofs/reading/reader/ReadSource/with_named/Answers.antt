use Rattle.std.proofs.Common.{◌≡◌, ◌∙◌, [], Err, map, sym, ap}
use Rattle.std.proofs.lemmas.Result.{err_from_is_err_and}
use Rattle.ti_source.specs.Reading.Field.{fields}
use Rattle.ti_source.specs.Reading.Sources.{Whole, described, names_faults, written_entries}
use Rattle.ti_source.specs.Code.OpenEntry.{OpenEntry}
use Rattle.ti_source.proofs.OpenEntryLaws.{faultless}
use Rattle.ti_source.proofs.BlockLaws.{begun-is, block-read, fields-fail, names-fail}
use Rattle.ti_source.proofs.reading.reader.ReadSource.with_named.Goals as goal

pub returns-in_err-entry : goal.returns-in_err-entry
returns-in_err-entry c before is between =
    let p = err_from_is_err_and c.from_residual.result c.from_residual.ensures.1 in
    names-fail before c.args.lines.now c.args.number c.args.names.now (fields c.args.text.now) c.args.self _ c.from_residual.result c.in_err-entry.field-0.0 is (p.1 ∙ ap Err p.2) c.in_err-entry.ensures

pub returns-in_err-add_block : goal.returns-in_err-add_block
returns-in_err-add_block c before is between =
    let p = err_from_is_err_and c.from_residual-in_err-add_block.result c.from_residual-in_err-add_block.ensures.1 in
    let old : OpenEntry = record { entry = c.in_ok-entry.entry; notes = c.into_parts-entries.result.1 } in
    let q = faultless (names_faults c.args.number c.args.names.now c.args.self.entries) _ c.in_ok-entry.entry c.in_ok-entry.ensures in
    let none : names_faults c.args.number c.args.names.now (map described (written_entries before)) ≡ [] = ap (λ (w : Whole). names_faults c.args.number c.args.names.now w.entries) (sym is) ∙ q.0 in
    let begun = begun-is before c.args.names.now c.args.self old is (λ i. record { entry = sym q.1 i; notes = c.into_parts-entries.ensures.notes i }) in
    fields-fail before c.args.lines.now c.add_block.new.lines c.args.number c.args.names.now (fields c.args.text.now) old c.add_block.new.self c.add_block.result c.from_residual-in_err-add_block.result c.in_err-add_block.field-0.0 none begun c.in_err-add_block.was (p.1 ∙ ap Err p.2) c.add_block.ensures

pub returns : goal.returns
returns c before is between =
    let old : OpenEntry = record { entry = c.in_ok-entry.entry; notes = c.into_parts-entries.result.1 } in
    let q = faultless (names_faults c.args.number c.args.names.now c.args.self.entries) _ c.in_ok-entry.entry c.in_ok-entry.ensures in
    let none : names_faults c.args.number c.args.names.now (map described (written_entries before)) ≡ [] = ap (λ (w : Whole). names_faults c.args.number c.args.names.now w.entries) (sym is) ∙ q.0 in
    let begun = begun-is before c.args.names.now c.args.self old is (λ i. record { entry = sym q.1 i; notes = c.into_parts-entries.ensures.notes i }) in
    block-read before c.args.lines.now c.add_block.new.lines c.args.number c.args.names.now (fields c.args.text.now) c.args.self old c.add_block.new.self c.with_last.result is none begun c.in_ok-add_block.ensures (rw c.into_parts-entries.ensures.entries at c.with_last.ensures)
