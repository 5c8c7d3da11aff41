use Rattle.std.proofs.Common.{arith}
use Rattle.std.proofs.lemmas.List.{nil_from_length}
use Rattle.scr_terminal.proofs.EcmaReadingLaws.{first_alone, first_two, reads_after_first, reads_after_two}
use Rattle.scr_terminal.proofs.ecma.readings.read_spelled.Goals as goal

pub read_second-requires-clause-from : goal.read_second-requires-clause-from
read_second-requires-clause-from c =
    (first_alone c.args.charset c.args.first c.args.after.now c.requires.spelled c.requires.waiting (nil_from_length c.args.after.now (omega arith))).1

pub read_second-requires-clause-end : goal.read_second-requires-clause-end
read_second-requires-clause-end c =
    (first_alone c.args.charset c.args.first c.args.after.now c.requires.spelled c.requires.waiting (nil_from_length c.args.after.now (omega arith))).2

pub read_third-requires-clause-from : goal.read_third-requires-clause-from
read_third-requires-clause-from c =
    (first_two c.args.charset c.args.first c.args.after.now c.requires.spelled c.requires.waiting (omega arith)).0.1

pub read_third-requires-clause-end : goal.read_third-requires-clause-end
read_third-requires-clause-end c =
    (first_two c.args.charset c.args.first c.args.after.now c.requires.spelled c.requires.waiting (omega arith)).0.2

pub read_third-requires-clause-second : goal.read_third-requires-clause-second
read_third-requires-clause-second c =
    (first_two c.args.charset c.args.first c.args.after.now c.requires.spelled c.requires.waiting (omega arith)).0.3

pub returns-in-empty : goal.returns-in-empty
returns-in-empty c =
    reads_after_first c.args.charset c.args.first c.args.after.now c.args.byte c.read_second.result c.requires.spelled c.requires.waiting
    (nil_from_length c.args.after.now (omega arith)) c.read_second.ensures

pub returns-in-len1-up : goal.returns-in-len1-up
returns-in-len1-up c =
    reads_after_two c.args.charset c.args.first c.args.after.now c.args.byte c.read_third.result c.requires.spelled c.requires.waiting (omega arith)
    c.read_third.ensures
