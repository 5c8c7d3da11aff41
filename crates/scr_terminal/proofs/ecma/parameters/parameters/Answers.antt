use Rattle.std.proofs.Common.{eqb, length, rules, tests, arith, sym, ap, ◌∙◌, take, Some}
use Rattle.std.specs.Prelude.{option_map}
use Rattle.std.proofs.lemmas.Iterator.Splits.{YieldsList-from_slice_split}
use Rattle.std.proofs.lemmas.Iterator.Consumers.{YieldsList-turn, YieldsList-end}
use Rattle.std.proofs.lemmas.List.{length_push}
use Rattle.scr_term.specs.Ecma.Meanings.{each_parameter}
use Rattle.scr_terminal.proofs.EcmaParameterLaws.{parts_of, part_is_digits, each_more, each_stops, each_all}
use Rattle.scr_terminal.proofs.ecma.parameters.parameters.Goals as goal

pub parameter-requires : goal.parameter-requires
parameter-requires c =
    let t = YieldsList-turn (YieldsList-from_slice_split _ (λ byte. eqb byte 59) c.args.bytes.now (cc) (cc) (cc) (λ x b q k. search (rules, tests))) c.loop-part.yielded _ c.loop-part.yielded_by _ _ c.in-Some.part c.in-Some.is c.next.ensures.steps in
    part_is_digits c.args.bytes.now c.in-Some.part.now (length c.loop-part.yielded) c.requires.digits t.0 t.1

pub returns-in_err-parameter : goal.returns-in_err-parameter
returns-in_err-parameter c =
    let t = YieldsList-turn (YieldsList-from_slice_split _ (λ byte. eqb byte 59) c.args.bytes.now (cc) (cc) (cc) (λ x b q k. search (rules, tests))) c.loop-part.yielded _ c.loop-part.yielded_by _ _ c.in-Some.part c.in-Some.is c.next.ensures.steps in
    let parts = parts_of c.args.bytes.now in
    let stops = each_stops parts c.in-Some.part.now (length c.loop-part.yielded) t.0 t.1 (sym c.parameter.ensures ∙ c.in_err-parameter.was) in
    ap (option_map (λ list. list.items)) c.from_residual.ensures ∙ sym stops

pub loop-part-preserved : goal.loop-part-preserved
loop-part-preserved c =
    let t = YieldsList-turn (YieldsList-from_slice_split _ (λ byte. eqb byte 59) c.args.bytes.now (cc) (cc) (cc) (λ x b q k. search (rules, tests))) c.loop-part.yielded _ c.loop-part.yielded_by _ _ c.in-Some.part c.in-Some.is c.next.ensures.steps in
    let parts = parts_of c.args.bytes.now in
    let more = each_more parts c.in-Some.part.now (length c.loop-part.yielded) c.loop-part.list.items c.in_ok-parameter.field-0 t.0 t.1
    c.loop-part.invariant.0 (sym c.parameter.ensures ∙ c.in_ok-parameter.was) in
    let count = length_push c.loop-part.yielded c.in-Some.part in (
      ap (λ n. each_parameter (take n parts)) count ∙ more ∙ ap Some (sym c.push.ensures.items),
      omega (arith, c.push.ensures.len, c.loop-part.invariant.1),
    )

pub returns : goal.returns
returns c =
    let t = YieldsList-end (YieldsList-from_slice_split _ (λ byte. eqb byte 59) c.args.bytes.now (cc) (cc) (cc) (λ x b q k. search (rules, tests))) c.loop-part.yielded _ c.loop-part.yielded_by _ _ c.in-None.is c.next.ensures.steps in
    sym c.loop-part.invariant.0 ∙ each_all (parts_of c.args.bytes.now) (length c.loop-part.yielded) t.1
