use Rattle.std.proofs.Common.{◌∙◌, ◌++◌, [], length, sym, ap, subst, arith, append_assoc}
use Rattle.std.proofs.lemmas.List.{append-nil, length-drop, take_rest}
use Rattle.ti_param.specs.Padding.{Stripped}
use Rattle.ti_param.specs.Code.Padding.{padding_length}
use Rattle.ti_param.proofs.PaddingLaws.{passed_over, passed_by, passed_all}
use Rattle.ti_param.proofs.padding.one_pass.Goals as goal

pub loop-index-preserved-then-passed-eq0 : goal.loop-index-preserved-then-passed-eq0
loop-index-preserved-then-passed-eq0 c =
    let i = c.loop-index.invariant in
    let bytes = c.args.bytes.now in
    let index = c.loop-index.index in
    let none = sym (c.padding_length-passed.ensures.value ∙ ap padding_length (take_rest bytes index)) ∙ c.if-passed-eq0.true in
    (λ result s. subst (λ l. Stripped bytes l) (sym (ap (λ l. l ++ result) c.in_ok-push.ensures.items ∙ append_assoc c.loop-index.text.items _ result)) (i.0 _ (passed_by bytes index result (omega (arith, c.loop-index-test.true)) none s)), omega (arith, c.loop-index-test.true))

pub loop-index-preserved : goal.loop-index-preserved
loop-index-preserved c =
    let i = c.loop-index.invariant in
    let bytes = c.args.bytes.now in
    let index = c.loop-index.index in
    let n = c.padding_length-passed.result in
    let rest = take_rest bytes index in
    let long = c.padding_length-passed.ensures.value ∙ ap padding_length rest in
    (λ result s. i.0 result (passed_over index n bytes result long c.if-passed-eq0.false s), omega (arith, c.padding_length-passed.ensures.bound, ap length rest, length-drop index bytes, c.loop-index-test.true))

pub returns : goal.returns
returns c =
    let bytes = c.args.bytes.now in
    let index = c.loop-index.index in
    subst (Stripped bytes) (append-nil c.loop-index.text.items) (c.loop-index.invariant.0 [] (passed_all bytes index (omega (arith, c.loop-index-test.false, c.loop-index.invariant.1))))
