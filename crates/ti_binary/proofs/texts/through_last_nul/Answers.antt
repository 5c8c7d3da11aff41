use Rattle.std.proofs.Common.{ap}
use Rattle.ti_binary.specs.Files.{is_nul}
use Rattle.ti_binary.proofs.NulLaws.{last_before, none_at_all}
use Rattle.ti_binary.proofs.texts.through_last_nul.Goals as goal

pub returns-then-bytes-end-eq0 : goal.returns-then-bytes-end-eq0
returns-then-bytes-end-eq0 c =
    last_before is_nul c.args.bytes.now c.loop-end.end 0 c.loop-end-test.true c.loop-end.invariant.few (ap is_nul c.if-bytes-end-eq0.true) c.loop-end.invariant.none

pub returns : goal.returns
returns c = none_at_all is_nul c.args.bytes.now c.loop-end.end c.loop-end-test.false c.loop-end.invariant.none
