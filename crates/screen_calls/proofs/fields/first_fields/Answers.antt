use Rattle.std.proofs.Common.{◌≡◌, ◌+◌, eqb, length, map, take, rules, tests, arith, sym, ap, ◌∙◌}
use Rattle.std.proofs.lemmas.Iterator.Splits.{YieldsList-from_slice_split}
use Rattle.std.proofs.lemmas.Iterator.Consumers.{YieldsList-turn, YieldsList-end}
use Rattle.std.proofs.lemmas.List.{length_push}
use Rattle.screen_calls.specs.Fields.{fields_behind, fields_of}
use Rattle.screen_calls.proofs.FieldLaws.{has_room, taken_all, taken_more}
use Rattle.screen_calls.proofs.fields.first_fields.Goals as goal

pub loop-field-preserved : goal.loop-field-preserved
loop-field-preserved c =
    let t = YieldsList-turn (YieldsList-from_slice_split _ (λ byte. eqb byte 32) c.args.text.now (cc) (cc) (cc) (λ x b q k. search (rules, tests))) c.loop-field.yielded _ c.loop-field.yielded_by _ _ c.in-Some.field c.in-Some.is c.next.ensures.steps in
    let fields = fields_of c.args.text.now in
    let more = taken_more (λ field. field.now) fields c.loop-field.list.items c.in-Some.field (length c.loop-field.yielded) t.0 t.1 c.loop-field.invariant.0 in
    let count = length_push c.loop-field.yielded c.in-Some.field in
    let room = has_room (length c.loop-field.list.items) 10 (sym c.is_full.ensures.value ∙ c.if-is_full.false) c.loop-field.invariant.2 in (
      ap (map (λ field. field.now)) c.push.ensures.items ∙ more ∙ ap (λ n. take n fields) (sym count),
      omega (arith, c.push.ensures.len, c.loop-field.invariant.1),
      omega (arith, c.push.ensures.len, room),
    )

pub returns : goal.returns
unfolding fields_behind
returns c =
    let t = YieldsList-end (YieldsList-from_slice_split _ (λ byte. eqb byte 32) c.args.text.now (cc) (cc) (cc) (λ x b q k. search (rules, tests))) c.loop-field.yielded _ c.loop-field.yielded_by _ _ c.in-None.is c.next.ensures.steps in
    c.loop-field.invariant.0
    ∙ taken_all (fields_of c.args.text.now) (length c.loop-field.yielded) 10 t.1 (omega (arith, c.loop-field.invariant.1, c.loop-field.invariant.2))
