use Rattle.std.proofs.Common.{eqb, length, take, rules, tests, sym, ap, ◌∙◌, Some}
use Rattle.std.proofs.lemmas.Iterator.Splits.{YieldsList-from_slice_split}
use Rattle.std.proofs.lemmas.Iterator.Consumers.{YieldsList-turn, YieldsList-end}
use Rattle.std.proofs.lemmas.List.{length_push}
use Rattle.screen_calls.specs.Fields.{each, fields_of, hexadecimal_byte, hexadecimal_bytes}
use Rattle.screen_calls.specs.Reading.{read}
use Rattle.screen_calls.proofs.FieldLaws.{each_more, each_stops, each_all}
use Rattle.screen_calls.proofs.fields.hexadecimal_bytes.Goals as goal

pub returns-in_err-byte-clause-bad : goal.returns-in_err-byte-clause-bad
unfolding hexadecimal_bytes
returns-in_err-byte-clause-bad c = λ bad.
    let t = YieldsList-turn (YieldsList-from_slice_split _ (λ byte. eqb byte 32) c.args.text.now (cc) (cc) (cc) (λ x b q k. search (rules, tests))) c.loop-field.yielded _ c.loop-field.yielded_by _ _ c.in-Some.field c.in-Some.is c.next.ensures.steps in
    each_stops hexadecimal_byte (fields_of c.args.text.now) c.in-Some.field.now (length c.loop-field.yielded) t.0 t.1 (sym c.hexadecimal_byte.ensures ∙ ap read c.in_err-byte.was)

pub loop-field-preserved : goal.loop-field-preserved
loop-field-preserved c =
    let t = YieldsList-turn (YieldsList-from_slice_split _ (λ byte. eqb byte 32) c.args.text.now (cc) (cc) (cc) (λ x b q k. search (rules, tests))) c.loop-field.yielded _ c.loop-field.yielded_by _ _ c.in-Some.field c.in-Some.is c.next.ensures.steps in
    let fields = fields_of c.args.text.now in
    let more = each_more hexadecimal_byte fields c.in-Some.field.now (length c.loop-field.yielded) c.loop-field.bytes.items c.in_ok-byte.byte t.0 t.1
    c.loop-field.invariant (sym c.hexadecimal_byte.ensures ∙ ap read c.in_ok-byte.was) in
    let count = length_push c.loop-field.yielded c.in-Some.field in
    ap (λ n. each hexadecimal_byte (take n fields)) count ∙ more ∙ ap Some (search rules)

pub returns-clause-ok : goal.returns-clause-ok
unfolding hexadecimal_bytes
returns-clause-ok c =
    let t = YieldsList-end (YieldsList-from_slice_split _ (λ byte. eqb byte 32) c.args.text.now (cc) (cc) (cc) (λ x b q k. search (rules, tests))) c.loop-field.yielded _ c.loop-field.yielded_by _ _ c.in-None.is c.next.ensures.steps in
    sym (each_all hexadecimal_byte (fields_of c.args.text.now) (length c.loop-field.yielded) t.1) ∙ c.loop-field.invariant
