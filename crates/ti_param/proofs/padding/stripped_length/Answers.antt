use Rattle.std.proofs.Common.{◌∙◌, ◌≡◌, [], ap, arith, length, sym}
use Rattle.std.proofs.lemmas.List.{length-drop, take_rest}
use Rattle.ti_param.specs.Code.Padding.{padding_length}
use Rattle.ti_param.specs.Stripped.{stripped}
use Rattle.ti_param.proofs.PaddingLaws.{passed_all, passed_by, passed_over}
use Rattle.ti_param.proofs.StrippedLaws.{is_stripped}
use Rattle.ti_param.proofs.padding.stripped_length.Goals as goal

pub loop-index-init : goal.loop-index-init
loop-index-init c = record {
  counted = λ result s. let whole = ap length (is_stripped c.args.bytes.now result s) in omega (arith, whole);
  inside = omega arith;
  few = omega arith;
}

pub loop-index-preserved-then-passed-eq0 : goal.loop-index-preserved-then-passed-eq0
loop-index-preserved-then-passed-eq0 c =
    let i = c.loop-index.invariant in
    let bytes = c.args.bytes.now in
    let index = c.loop-index.index in
    let none = sym (c.padding_length-passed.ensures.value ∙ ap padding_length (take_rest bytes index)) ∙ c.if-passed-eq0.true in
    record {
      counted = λ result s. let whole = i.counted _ (passed_by bytes index result (omega (arith, c.loop-index-test.true)) none s) in omega (arith, whole);
      inside = omega (arith, c.loop-index-test.true);
      few = omega (arith, i.few);
    }

pub loop-index-preserved : goal.loop-index-preserved
loop-index-preserved c =
    let i = c.loop-index.invariant in
    let bytes = c.args.bytes.now in
    let index = c.loop-index.index in
    let n = c.padding_length-passed.result in
    let rest = take_rest bytes index in
    let long = c.padding_length-passed.ensures.value ∙ ap padding_length rest in
    record {
      counted = λ result s. i.counted result (passed_over index n bytes result long c.if-passed-eq0.false s);
      inside = omega (arith, c.padding_length-passed.ensures.bound, ap length rest, length-drop index bytes, c.loop-index-test.true);
      few = omega (arith, i.few);
    }

pub returns : goal.returns
returns c =
    let i = c.loop-index.invariant in
    let all = i.counted [] (passed_all c.args.bytes.now c.loop-index.index (omega (arith, c.loop-index-test.false, i.inside))) in
    omega (arith, all)
