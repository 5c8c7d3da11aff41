use Rattle.std.proofs.Common.{◌≡◌, rules, Err}
use Rattle.ti_extended.proofs.ReadingLaws.{err_section, err_standard, file_read, whole_read}
use Rattle.ti_extended.proofs.decoder.decode_whole.Goals as goal

pub returns-in_err-read-clause-err : goal.returns-in_err-read-clause-err
returns-in_err-read-clause-err c =
    let e : c.from_residual.result ≡ Err c.in_err-read.field-0.0 = search rules in
    rw e (err_standard c.args.bytes.now c.in_err-read.field-0.0 c.in_err-read.ensures.err)

pub returns-in_err-extended-clause-err : goal.returns-in_err-extended-clause-err
returns-in_err-extended-clause-err c =
    let read = c.in_ok-read.read in
    let e : c.from_residual-in_err-extended.result ≡ Err c.in_err-extended.field-0.0 = search rules in
    rw e (err_section c.files_have_one_entry.ensures read.width c.args.bytes.now read.entry read.skipped c.in_ok-read.ensures.ok c.section_after-section.result.now c.in_err-extended.field-0.0
    c.section_after-section.ensures c.in_err-extended.ensures.err)

pub of-requires : goal.of-requires
of-requires c =
    let read = c.in_ok-read.read in
    whole_read read.width c.args.bytes.now read.entry read.skipped c.in_ok-read.ensures.ok c.in_ok-numbers.numbers.items c.in_ok-extended.extended c.in_ok-numbers.ensures.value c.in_ok-numbers.ensures.small

pub returns-clause-ok : goal.returns-clause-ok
returns-clause-ok c =
    let read = c.in_ok-read.read in
    rw c.of.ensures (file_read read.width c.args.bytes.now read.entry read.skipped c.in_ok-read.ensures.ok c.section_after-section.result.now c.in_ok-numbers.numbers.items c.in_ok-extended.extended
    c.section_after-section.ensures c.in_ok-numbers.ensures.value c.in_ok-extended.ensures.ok c.in_ok-extended.ensures.sound c.in_ok-extended.ensures.good)
