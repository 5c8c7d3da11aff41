use Rattle.std.proofs.Common.{◌≡◌, ◌∙◌, ◌++◌, ap, arith, length, sym}
use lib.Utf8.{encode}
use Rattle.scr_keys.proofs.SequenceLaws.{next_long, whole_at}
use Rattle.scr_keys.proofs.WellFormedLaws.{begun_at, broken_at}
use Rattle.scr_keys.proofs.sequences.sequence_of.Goals as goal

pub returns-in-Some : goal.returns-in-Some
returns-in-Some c =
    let is : c.args.bytes.now ≡ encode c.in-Some.character ++ c.next.new.self.rest.now = sym (c.chars.ensures.rest ∙ c.in-Ok.ensures.cases.0) ∙ c.in-Some.ensures.steps.0 in
    whole_at c.args.bytes.now c.requires c.in-Ok.ensures.cases.1 c.in-Some.character c.next.new.self.rest.now is

pub returns-in-None : goal.returns-in-None
returns-in-None c =
    let is : c.chars.result.rest.now ≡ c.args.bytes.now = c.chars.ensures.rest ∙ c.in-Ok.ensures.cases.0 in
    absurd (omega (arith, ap length is, c.in-None.ensures.steps, next_long c.args.bytes.now c.requires))

pub returns-in-Err : goal.returns-in-Err
returns-in-Err c = begun_at c.args.bytes.now c.requires c.in-Err.fault.valid_up_to c.in-Err.ensures.cases.1 c.error_len.result (c.error_len.ensures ∙ c.in-Err.ensures.fault) c.if-is_none.ensures

pub returns-in-Err-2 : goal.returns-in-Err-2
returns-in-Err-2 c = broken_at c.args.bytes.now c.requires c.in-Err.fault.valid_up_to c.in-Err.ensures.cases.1 c.error_len.result (c.error_len.ensures ∙ c.in-Err.ensures.fault) c.if-is_none.ensures
