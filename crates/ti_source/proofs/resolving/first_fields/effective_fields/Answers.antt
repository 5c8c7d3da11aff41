use Rattle.std.proofs.Common.{◌∙◌, arith, subst, sym, inl, inr}
use Rattle.std.proofs.lemmas.List.{take_all}
use Rattle.ti_source.specs.Code.FirstFields.{AreEffective}
use Rattle.ti_source.proofs.EffectiveLaws.{Sifted, none-sifted, one-more}
use Rattle.ti_source.proofs.IndexLaws.{take-at}
use Rattle.ti_source.proofs.resolving.first_fields.effective_fields.Goals.{then-takes_effect+in_ok-push, else-takes_effect}
use Rattle.ti_source.proofs.resolving.first_fields.effective_fields.Goals as goal

pub loop-i-init : goal.loop-i-init
loop-i-init c = rw c.in_ok-found.ensures (none-sifted c.in_ok-marks.marks.items c.in_ok-marks.ensures)

pub loop-i-preserved : goal.loop-i-preserved
loop-i-preserved c =
    subst (λ some. Sifted some c.takes_effect.new.marks.items c.if-takes_effect.found) (sym (take-at c.args.fields.now c.loop-i.i c.at-field.result.now c.at-field.ensures.value))
    (one-more _ c.loop-i.marks.items c.takes_effect.new.marks.items c.at-field.result.now c.loop-i.found c.if-takes_effect.found c.loop-i.invariant c.takes_effect.ensures.marks (elim c.if-takes_effect.branch [
      | then-takes_effect+in_ok-push w ↦ inl (sym c.takes_effect.ensures.result ∙ w.if-takes_effect.true, w.found-is ∙ w.in_ok-push.ensures)
      | else-takes_effect w ↦ inr (sym c.takes_effect.ensures.result ∙ w.if-takes_effect.false, w.found-is)
    ]))

pub returns : goal.returns
returns c = subst (λ all. AreEffective all c.loop-i.found) (take_all c.loop-i.i c.args.fields.now (omega arith)) c.loop-i.invariant.counts
