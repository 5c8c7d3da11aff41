use Rattle.std.proofs.Common.{◌≡◌, ◌∙◌, ◌<◌, ◌+◌, ◌++◌, ◌∷◌, Some, slice_get, get_or, length, is_some, map, drop, refl, ap, sym, subst, append_assoc, rules, arith}
use Rattle.std.proofs.lemmas.List.{drop_all, drop_more}
use Rattle.std.proofs.lemmas.Option.{slice_get-get_or}
use Rattle.ti_source.specs.declared.resolving.marks.Mark.TheVariants.{Done, Kept, Over}
use Rattle.ti_source.specs.Described.{Described}
use Rattle.ti_source.specs.Resolving.Named.{index_of}
use Rattle.ti_source.specs.Code.EntryWalk.{AreKnown, known, steps_at, steps_of, steps_of_all, steps_or_0}
use Rattle.ti_source.proofs.AloneLaws.{ok-more}
use Rattle.ti_source.proofs.GatherLaws.{gathering-end, gathering-go, gathering-known}
use Rattle.ti_source.proofs.IndexLaws.{get-lt}
use Rattle.ti_source.proofs.ListingLaws.{adds-kept, adds-over, all-below, below-known, done-of, effective-added, gathered-one, kept-of, on-ok-more, over-of, steps-among}
use Rattle.ti_source.proofs.resolving.listing.+listing.Goals as goal

pub add_fields-kept_at-requires : goal.add_fields-kept_at-requires
add_fields-kept_at-requires t c =
    let at : slice_get c.args.marks.now c.args.i ≡ Some (Kept c.in-Some-Kept.position) = search rules in
    let had = kept-of c.args.entries.now c.args.marks.now c.args.kept.now c.args.i c.in-Some-Kept.position c.requires.kept at in
    get-lt c.args.kept.now c.in-Some-Kept.position had.0 had.1

pub add_fields-at-requires : goal.add_fields-at-requires
add_fields-at-requires t c =
    let at : slice_get c.args.marks.now c.args.i ≡ Some (Over c.in-Some-Over.next c.in-Some-Over.field-0-1) = search rules in
    let over = over-of c.args.entries.now c.args.marks.now c.args.kept.now c.args.i c.in-Some-Over.next c.in-Some-Over.field-0-1 c.requires.kept at in
    get-lt c.args.entries.now c.args.i over.entry over.at

pub add_fields-add_fields-requires : goal.add_fields-add_fields-requires
add_fields-add_fields-requires t c =
    let at : slice_get c.args.marks.now c.args.i ≡ Some (Over c.in-Some-Over.next c.in-Some-Over.field-0-1) = search rules in
    let over = over-of c.args.entries.now c.args.marks.now c.args.kept.now c.args.i c.in-Some-Over.next c.in-Some-Over.field-0-1 c.requires.kept at in
    let here : steps_or_0 (steps_at c.args.marks.now (Some c.args.i)) ≡ c.in-Some-Over.field-0-1 = ap (λ o. steps_or_0 (steps_of o)) at in
    let there : steps_or_0 (steps_at c.args.marks.now (Some c.in-Some-Over.next)) ≡ over.below.0 = ap steps_or_0 over.below.1 in
    (omega (arith, here, there, over.below.2, c.decreases), (ap is_some over.below.1, c.requires.kept))

pub add_fields-at-requires-in-Some-Done : goal.add_fields-at-requires-in-Some-Done
add_fields-at-requires-in-Some-Done t c =
    let at : slice_get c.args.marks.now c.args.i ≡ Some (Done c.in-Some-Done.field-0-0) = search rules in
    let done = done-of c.args.entries.now c.args.marks.now c.args.kept.now c.args.i c.in-Some-Done.field-0-0 c.requires.kept at in
    get-lt c.args.entries.now c.args.i done.entry done.at

pub add_fields-add_gathered-requires : goal.add_fields-add_gathered-requires
add_fields-add_gathered-requires t c =
    let marks = c.args.marks.now in
    let entries = c.args.entries.now in
    let at : slice_get marks c.args.i ≡ Some (Done c.in-Some-Done.field-0-0) = search rules in
    let done = done-of entries marks c.args.kept.now c.args.i c.in-Some-Done.field-0-0 c.requires.kept at in
    let found : slice_get entries c.args.i ≡ Some c.at-in-Some-Done.result = c.at-in-Some-Done.ensures in
    let same : done.entry ≡ c.at-in-Some-Done.result = cc (done.at, found) in
    let P : Described → Type 0 = λ d. AreKnown marks (map (index_of entries) d.uses) in
    let Q : Described → Type 0 = λ d. steps_of_all marks (map (index_of entries) d.uses) < c.in-Some-Done.field-0-0 in
    let here : steps_or_0 (steps_at marks (Some c.args.i)) ≡ c.in-Some-Done.field-0-0 = ap (λ o. steps_or_0 (steps_of o)) at in
    let below : steps_of_all marks (map (index_of entries) c.at-in-Some-Done.result.uses) < c.in-Some-Done.field-0-0 = subst Q same (all-below marks (map (index_of entries) done.entry.uses) c.in-Some-Done.field-0-0 done.below) in
    (omega (arith, here, below, c.decreases), (subst P same (below-known marks (map (index_of entries) done.entry.uses) c.in-Some-Done.field-0-0 done.below), c.requires.kept))

pub add_fields-returns-in-Some-Kept : goal.add_fields-returns-in-Some-Kept
add_fields-returns-in-Some-Kept t c =
    let at : slice_get c.args.marks.now c.args.i ≡ Some (Kept c.in-Some-Kept.position) = search rules in
    let had = kept-of c.args.entries.now c.args.marks.now c.args.kept.now c.args.i c.in-Some-Kept.position c.requires.kept at in
    let same : c.kept_at.result.now ≡ had.0 = cc (c.kept_at.ensures, had.1) in
    on-ok-more c.extend.result c.extend.ensures (λ is. adds-kept c.args.entries.now c.args.i had.0 c.args.fields.now c.extend.new.self had.2 (is ∙ ap (λ fs. c.args.fields.now ++ fs) same))

pub add_fields-returns-in_ok-extend_from_slice-in-Some-Over : goal.add_fields-returns-in_ok-extend_from_slice-in-Some-Over
add_fields-returns-in_ok-extend_from_slice-in-Some-Over t c =
    let at : slice_get c.args.marks.now c.args.i ≡ Some (Over c.in-Some-Over.next c.in-Some-Over.field-0-1) = search rules in
    let over = over-of c.args.entries.now c.args.marks.now c.args.kept.now c.args.i c.in-Some-Over.next c.in-Some-Over.field-0-1 c.requires.kept at in
    on-ok-more c.add_fields.result c.add_fields.ensures (λ adds. adds-over c.args.entries.now c.args.marks.now c.args.i c.in-Some-Over.next c.in-Some-Over.field-0-1 c.at.result c.args.fields.now _ c.add_fields.new.fields over c.at.ensures (c.in_ok-extend_from_slice-in-Some-Over.ensures ∙ ap (λ ss. c.args.fields.now ++ ss) c.statements.ensures.value) adds)

pub add_gathered-returns-in-Some : goal.add_gathered-returns-in-Some
add_gathered-returns-in-Some t c =
    let index : index_of c.args.entries.now c.in-Some.other.now ≡ Some c.unwrap-used.result = search rules in
    on-ok-more c.add_fields.result c.add_fields.ensures (λ adds. gathered-one c.args.entries.now c.args.entry.now c.in-Some.other.now c.unwrap-used.result c.args.fields.now _ c.add_fields.new.fields c.in-Some.ensures index (c.in_ok-extend_from_slice.ensures ∙ ap (λ ss. c.args.fields.now ++ ss) c.statements.ensures.value) adds)

pub add_gathered-add_effective-requires : goal.add_gathered-add_effective-requires
add_gathered-add_effective-requires t c =
    let entries = c.args.entries.now in
    let marks = c.args.marks.now in
    let us = c.args.entry.now.uses in
    let k = c.loop-other.other-index in
    let lt : k < length us = rw (← c.uses-other-items.ensures.value) (omega arith) in
    let name = c.as_slice.result.now in
    let is = c.as_slice.ensures.value ∙ c.other.view_is ∙ c.other-item.is ∙ ap (λ xs. get_or xs k c.other-item.result) c.uses-other-items.ensures.value in
    let first : drop k us ≡ name ∷ drop (k + 1) us = drop_more us k c.other-item.result lt ∙ ap (λ x. x ∷ drop (k + 1) us) (sym is) in
    let at : slice_get us k ≡ Some name = slice_get-get_or us k c.other-item.result lt ∙ ap Some (sym is) in
    let index : index_of entries name ≡ Some c.unwrap-used-in-loop-other.result = rw (← c.index_of-in-loop-other.ensures) (search rules) in
    let there = gathering-known entries marks c.args.entry.now (drop k us) (drop (k + 1) us) name c.loop-other.invariant.0 c.loop-other.invariant.2 first in
    let few = steps-among entries marks us k c.unwrap-used-in-loop-other.result name at index in
    (omega (arith, few, c.decreases), (sym (ap (known marks) index) ∙ there, c.requires.kept))

pub add_gathered-loop-other-preserved : goal.add_gathered-loop-other-preserved
add_gathered-loop-other-preserved t c =
    let entries = c.args.entries.now in
    let marks = c.args.marks.now in
    let us = c.args.entry.now.uses in
    let k = c.loop-other.other-index in
    let lt : k < length us = rw (← c.uses-other-items.ensures.value) (omega arith) in
    let name = c.as_slice.result.now in
    let is = c.as_slice.ensures.value ∙ c.other.view_is ∙ c.other-item.is ∙ ap (λ xs. get_or xs k c.other-item.result) c.uses-other-items.ensures.value in
    let first : drop k us ≡ name ∷ drop (k + 1) us = drop_more us k c.other-item.result lt ∙ ap (λ x. x ∷ drop (k + 1) us) (sym is) in
    let index : index_of entries name ≡ Some c.unwrap-used-in-loop-other.result = rw (← c.index_of-in-loop-other.ensures) (search rules) in
    let got = c.loop-other.invariant.0 in
    let (more, is, effect) = c.in_ok-add_effective.ensures in (
      got ++ more,
      is ∙ ap (λ fs. fs ++ more) c.loop-other.invariant.1 ∙ append_assoc c.args.fields.now got more,
      gathering-go entries marks c.args.entry.now (drop k us) (drop (k + 1) us) name c.unwrap-used-in-loop-other.result got more (got ++ more) c.loop-other.invariant.2 first index effect refl,
    )

pub add_gathered-returns : goal.add_gathered-returns
add_gathered-returns t c =
    let us = c.args.entry.now.uses in
    (c.loop-other.invariant.0, c.loop-other.invariant.1, gathering-end c.args.entries.now c.args.marks.now c.args.entry.now _ c.loop-other.invariant.0 c.loop-other.invariant.2 (drop_all c.loop-other.other-index us (rw (← c.uses-other-items.ensures.value) (omega arith))))

pub add_effective-kept_at-requires : goal.add_effective-kept_at-requires
add_effective-kept_at-requires t c =
    let at : slice_get c.args.marks.now c.args.i ≡ Some (Kept c.in-Some-Kept.position) = search rules in
    let had = kept-of c.args.entries.now c.args.marks.now c.args.kept.now c.args.i c.in-Some-Kept.position c.requires.kept at in
    get-lt c.args.kept.now c.in-Some-Kept.position had.0 had.1

pub add_effective-returns-in-Some-Kept : goal.add_effective-returns-in-Some-Kept
add_effective-returns-in-Some-Kept t c =
    let at : slice_get c.args.marks.now c.args.i ≡ Some (Kept c.in-Some-Kept.position) = search rules in
    let had = kept-of c.args.entries.now c.args.marks.now c.args.kept.now c.args.i c.in-Some-Kept.position c.requires.kept at in
    let same : c.kept_at.result.now ≡ had.0 = cc (c.kept_at.ensures, had.1) in
    on-ok-more c.extend.result c.extend.ensures (λ is. (had.0, is ∙ ap (λ fs. c.args.fields.now ++ fs) same, had.2))

pub effective_at-returns : goal.effective_at-returns
effective_at-returns t c =
    ok-more c.effective_fields.result _ _ c.effective_fields.ensures (λ v counts. effective-added c.args.entries.now c.args.i c.new-fields.result _ v c.new-fields.ensures c.in_ok-add_fields.ensures counts)
