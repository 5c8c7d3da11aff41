use Rattle.std.proofs.lemmas.Result.{err_from_is_err_and}
use Rattle.ti_source.specs.Reading.Sources.{source_of}
use Rattle.ti_source.specs.Code.Seen.{seen_line}
use Rattle.ti_source.proofs.BlockLaws.{read-fails, read-goes, read-smaller, read-starts}
use Rattle.ti_source.proofs.reading.reader.read_whole.Goals as goal

pub loop-number-init : goal.loop-number-init
loop-number-init c =
    read-starts c.args.bytes.now c.new-source.result c.new-lines.result c.new-source.ensures c.new-lines.ensures

pub loop-number-smaller : goal.loop-number-smaller
loop-number-smaller c =
    read-smaller (source_of c.args.bytes.now) _ c.loop-number.source c.loop-number.lines c.next.new.self c.with_block.new.lines (c.in-Some.number, seen_line c.in-Some.line) c.loop-number.invariant c.in-Some.ensures c.with_block.ensures

pub loop-number-preserved : goal.loop-number-preserved
loop-number-preserved c =
    read-goes (source_of c.args.bytes.now) c.loop-number.source c.in_ok-source.source c.loop-number.lines c.next.new.self c.with_block.new.lines (c.in-Some.number, seen_line c.in-Some.line) c.loop-number.invariant c.in-Some.ensures c.in_ok-source.ensures

pub returns-in_err-source : goal.returns-in_err-source
returns-in_err-source c =
    let p = err_from_is_err_and c.from_residual.result c.from_residual.ensures.1 in
    rw (p.1, p.2) (read-fails (source_of c.args.bytes.now) c.loop-number.source c.loop-number.lines c.next.new.self c.with_block.new.lines (c.in-Some.number, seen_line c.in-Some.line) c.in_err-source.field-0.0 c.loop-number.invariant c.in-Some.ensures c.in_err-source.ensures)
