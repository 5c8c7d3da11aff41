use Rattle.std.proofs.Common.{◌≡◌, ◌∙◌, ◌<◌, refl, slice_get, length, Some, sym, ap, rules, arith}
use Rattle.std.proofs.lemmas.List.{take_all}
use Rattle.std.proofs.lemmas.Option.{slice_get-get_or}
use Rattle.ti_source.specs.Resolving.Named.{index_of}
use Rattle.ti_source.proofs.ListingLaws.{below-all, below-push}
use Rattle.ti_source.proofs.resolving.listing.several.Goals as goal

pub loop-other-preserved : goal.loop-other-preserved
loop-other-preserved c =
    let us = c.args.uses.now in
    let k = c.loop-other.other-index in
    let lt : k < length us = omega arith in
    let name = c.as_slice.result.now in
    let at : slice_get us k ≡ Some name = slice_get-get_or us k c.other-item.result lt ∙ ap Some (sym (c.as_slice.ensures.value ∙ c.other.view_is ∙ c.other-item.is)) in
    let index : index_of c.args.entries.now name ≡ Some c.in_ok-used.used = search rules in
    let steps = c.in_ok-steps_at.ensures in
    below-push c.args.entries.now c.args.marks.now us k c.in_ok-used.used name c.loop-other.steps c.in_ok-more.more c.in_ok-steps.steps steps.0 c.loop-other.invariant at index steps.1 (omega (arith, steps.2)) (omega arith)

pub returns : goal.returns
returns c =
    let us = c.args.uses.now in
    (c.in_ok-all.all, refl, below-all c.args.entries.now c.args.marks.now us c.loop-other.other-index c.loop-other.steps c.in_ok-all.all c.loop-other.invariant (take_all c.loop-other.other-index us (omega arith)) (omega arith))
