use Rattle.std.proofs.Common.{◌≡◌, [], map, slice_get, Some, subst}
use Rattle.ti_source.specs.Described.{Described}
use Rattle.ti_source.specs.Resolving.Named.{index_of}
use Rattle.ti_source.specs.Code.EntryWalk.{AreKnown}
use Rattle.ti_source.proofs.AloneLaws.{ok-more}
use Rattle.ti_source.proofs.GatherLaws.{effective-entry, take-effect}
use Rattle.ti_source.proofs.IndexLaws.{get-lt}
use Rattle.ti_source.proofs.WalkLaws.{leave-known}
use Rattle.ti_source.proofs.resolving.walk.made.Goals as goal

pub gathered-requires-clause-known : goal.gathered-requires-clause-known
gathered-requires-clause-known c =
    let entries = c.args.entries.now in
    let k = leave-known entries c.args.marks.now c.args.kept.now c.args.i [] c.requires.walk in
    let at : slice_get entries c.args.i ≡ Some c.at-entry.result = c.at-entry.ensures in
    let same : k.0 ≡ c.at-entry.result = cc (k.1, at) in
    let P : Described → Type 0 = λ d. AreKnown c.args.marks.now (map (index_of entries) d.uses) in
    subst P same k.2

pub returns-clause-ok : goal.returns-clause-ok
returns-clause-ok c =
    let entries = c.args.entries.now in
    let at : slice_get entries c.args.i ≡ Some c.at-entry.result = c.at-entry.ensures in
    let keep = take-effect entries c.args.i c.at-entry.result _ c.in_ok-effective_fields.field-0 at c.in_ok-fields.ensures c.in_ok-effective_fields.ensures in
    ok-more c.merge-2.result _ _ c.merge-2.ensures.ok (λ e is. effective-entry entries c.args.i c.at-entry.result c.names.result.now c.in_ok-effective_fields.field-0 e at keep c.names.ensures.value is)

pub at-entry-requires : goal.at-entry-requires
at-entry-requires c =
    let entries = c.args.entries.now in
    let k = leave-known entries c.args.marks.now c.args.kept.now c.args.i [] c.requires.walk in
    get-lt entries c.args.i k.0 k.1
