use Rattle.std.proofs.Common.{◌≡◌, ◌<◌, ◌-◌, sym, ◌∙◌, ap, arith, length, is_some, None, false, true, get_or}
use Rattle.ti_binary.proofs.KeptLaws.{kept_here, kept_before, whole-kept, is_some-option_map}
use Rattle.ti_binary.proofs.counts.text_count.Goals as goal

pub loop-count-init : goal.loop-count-init
loop-count-init c = record {
  few = omega arith;
  kept = whole-kept is_some c.args.entry.now.texts 512 c.requires.described.texts;
}

pub loop-count-preserved : goal.loop-count-preserved
loop-count-preserved c =
    let xs = c.args.entry.now.texts in
    let i = c.loop-count.count - 1 in
    let inside : i < length xs = omega (arith, c.loop-count-test.true, c.loop-count.invariant.few, c.requires.described.texts) in
    let absent : is_some (get_or xs i None) ≡ false = ap is_some (sym c.text.ensures.value) ∙ is_some-option_map (λ t. t.now) c.text.result ∙ sym c.if-is_some.ensures in
    record {
      few = omega (arith, c.loop-count.invariant.few);
      kept = kept_before is_some xs i c.loop-count.count None (omega (arith, c.loop-count-test.true)) inside absent c.loop-count.invariant.kept;
    }

pub returns-then-is_some-clause-kept : goal.returns-then-is_some-clause-kept
returns-then-is_some-clause-kept c =
    let xs = c.args.entry.now.texts in
    let i = c.loop-count.count - 1 in
    let inside : i < length xs = omega (arith, c.loop-count-test.true, c.loop-count.invariant.few, c.requires.described.texts) in
    let there : is_some (get_or xs i None) ≡ true = ap is_some (sym c.text.ensures.value) ∙ is_some-option_map (λ t. t.now) c.text.result ∙ sym c.if-is_some.ensures in
    kept_here is_some xs i c.loop-count.count None (omega (arith, c.loop-count-test.true)) inside there c.loop-count.invariant.kept
