use Rattle.std.proofs.Common.{◌≡◌, ◌∙◌, ◌∷◌, Err, ap}
use Rattle.std.proofs.lemmas.Result.{err_from_is_err_and}
use Rattle.ti_source.specs.Reading.Field.{fields}
use Rattle.ti_source.specs.Reading.SourceLine.{Continues}
use Rattle.ti_source.specs.Reading.Sources.{numbered_fields}
use Rattle.ti_source.proofs.BlockLaws.{block-fails, block-goes, block-starts}
use Rattle.ti_source.proofs.reading.open_entry.OpenEntry.add_block.Goals as goal

pub loop-number-init : goal.loop-number-init
loop-number-init c =
    block-starts (numbered_fields c.args.line (fields c.args.text.now)) c.args.self.now c.add_fields.new.self c.args.lines.now c.in_ok-add_fields.ensures

pub loop-number-preserved : goal.loop-number-preserved
loop-number-preserved c =
    let first : c.loop-number.lines ≡ (c.in-Some.number, Continues (fields c.in-Some.more.now)) ∷ c.next_fields.new.self = c.in-Some.ensures.lines in
    block-goes (numbered_fields c.args.line (fields c.args.text.now)) c.args.self.now c.loop-number.self c.add_fields-in-Some.new.self c.args.lines.now c.loop-number.lines c.next_fields.new.self c.in-Some.number (fields c.in-Some.more.now) c.loop-number.invariant first c.in_ok-add_fields-2.ensures

pub returns-in_err-add_fields-2 : goal.returns-in_err-add_fields-2
returns-in_err-add_fields-2 c =
    let p = err_from_is_err_and c.from_residual-in_err-add_fields-2.result c.from_residual-in_err-add_fields-2.ensures.1 in
    let first : c.loop-number.lines ≡ (c.in-Some.number, Continues (fields c.in-Some.more.now)) ∷ c.next_fields.new.self = c.in-Some.ensures.lines in
    block-fails (numbered_fields c.args.line (fields c.args.text.now)) c.args.self.now c.loop-number.self c.add_fields-in-Some.new.self c.args.lines.now c.loop-number.lines c.next_fields.new.self c.in-Some.number (fields c.in-Some.more.now) c.from_residual-in_err-add_fields-2.result c.in_err-add_fields-2.field-0.0 c.loop-number.invariant first (p.1 ∙ ap Err p.2) (rw (p.1, p.2) c.in_err-add_fields-2.ensures)
