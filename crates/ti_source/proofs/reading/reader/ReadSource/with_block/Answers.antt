use Rattle.std.proofs.Common.{◌≡◌, ap}
use Rattle.ti_source.specs.Reading.Field.{fields}
use Rattle.ti_source.specs.Reading.SourceLine.{Continues}
use Rattle.ti_source.specs.Code.Seen.{seen_line}
use Rattle.ti_source.proofs.BlockLaws.{before-entry, not-ascii}
use Rattle.ti_source.proofs.reading.reader.ReadSource.with_block.Goals as goal

pub returns-in-NonAscii : goal.returns-in-NonAscii
returns-in-NonAscii c before is between =
    rw c.in-NonAscii.is (not-ascii before c.args.lines.now c.args.number)

pub returns-in-Continues : goal.returns-in-Continues
returns-in-Continues c before is between =
    let here : seen_line c.args.line ≡ Continues (fields c.in-Continues.field-0.now) = ap seen_line c.in-Continues.is in
    rw here (before-entry before c.args.lines.now c.args.number (fields c.in-Continues.field-0.now) (rw here at between))
