use Rattle.std.proofs.Common.{◌≡◌, ◌∙◌, ◌++◌, ◌∷◌, [], ap, length, map, refl, slice_get, set, Some, reverse, rules, subst}
use Rattle.ti_source.specs.declared.resolving.marks.Mark.TheVariants.{Kept}
use Rattle.ti_source.specs.Described.{Described}
use Rattle.ti_source.specs.Resolving.Named.{index_of}
use Rattle.ti_source.specs.Code.EntryWalk.{AreKnown}
use Rattle.ti_source.proofs.GatherLaws.{take-effect}
use Rattle.ti_source.proofs.WalkLaws.{left-stepped, leave-known, light-stepped}
use Rattle.ti_source.proofs.resolving.walk.EntryWalk.leave.Goals as goal

pub leading_use-requires-clause-known : goal.leading_use-requires-clause-known
leading_use-requires-clause-known c =
    let entries = c.args.entries.now in
    let k = leave-known entries c.args.self.now.marks.items c.args.self.now.kept.items c.args.i (reverse c.args.self.now.tasks.items) c.requires.walk in
    let at : slice_get entries c.args.i ≡ Some c.at-entry.result = c.at-entry.ensures in
    let same : k.0 ≡ c.at-entry.result = cc (k.1, at) in
    let P : Described → Type 0 = λ d. AreKnown c.args.self.now.marks.items (map (index_of entries) d.uses) in
    rw c.deref.ensures.value (subst P same k.2)

pub light_mark-requires-clause-known : goal.light_mark-requires-clause-known
light_mark-requires-clause-known c =
    let entries = c.args.entries.now in
    let k = leave-known entries c.args.self.now.marks.items c.args.self.now.kept.items c.args.i (reverse c.args.self.now.tasks.items) c.requires.walk in
    let at : slice_get entries c.args.i ≡ Some c.at-entry.result = c.at-entry.ensures in
    let same : k.0 ≡ c.at-entry.result = cc (k.1, at) in
    let P : Described → Type 0 = λ d. AreKnown c.args.self.now.marks.items (map (index_of entries) d.uses) in
    rw c.deref-3.ensures.value (subst P same k.2)

pub gathered-requires-clause-known : goal.gathered-requires-clause-known
gathered-requires-clause-known c =
    let entries = c.args.entries.now in
    let k = leave-known entries c.args.self.now.marks.items c.args.self.now.kept.items c.args.i (reverse c.args.self.now.tasks.items) c.requires.walk in
    let at : slice_get entries c.args.i ≡ Some c.at-entry.result = c.at-entry.ensures in
    let same : k.0 ≡ c.at-entry.result = cc (k.1, at) in
    let P : Described → Type 0 = λ d. AreKnown c.args.self.now.marks.items (map (index_of entries) d.uses) in
    rw c.deref-5.ensures.value (subst P same k.2)

pub returns-clause-ok : goal.returns-clause-ok
returns-clause-ok c =
    let entries = c.args.entries.now in
    let marks = c.args.self.now.marks.items in
    let kept = c.args.self.now.kept.items in
    let tasks = reverse c.args.self.now.tasks.items in
    let sized : c.args.self.now.kept.len ≡ length kept = search rules in
    let at : slice_get entries c.args.i ≡ Some c.at-entry.result = c.at-entry.ensures in
    let keep = take-effect entries c.args.i c.at-entry.result _ c.in_ok-fields-2.fields at c.in_ok-fields.ensures c.in_ok-fields-2.ensures in
    left-stepped entries marks _ kept c.push.new.self.items c.args.i _ tasks c.requires.walk keep (ap (λ n. set marks c.args.i (Kept n)) (c.len-position.ensures ∙ sized)) (c.in_ok-push.ensures.items ∙ ap (λ fs. kept ++ fs ∷ []) c.shrunk.ensures)

pub returns-in-Some-clause-ok : goal.returns-in-Some-clause-ok
returns-in-Some-clause-ok c =
    let entries = c.args.entries.now in
    let at : slice_get entries c.args.i ≡ Some c.at-entry.result = c.at-entry.ensures in
    light-stepped entries c.args.self.now.marks.items _ c.args.self.now.kept.items c.args.i c.at-entry.result c.in-Some.mark (reverse c.args.self.now.tasks.items) c.requires.walk at (search rules) refl
