use Rattle.std.proofs.Common.{◌≡◌, Some, length, slice_get, arith, rules}
use Rattle.ti_source.proofs.NamedLaws.{slice_get-at}
use Rattle.ti_source.proofs.PartLaws.{ends-within, part-at, parts-length}
use Rattle.ti_source.proofs.packed_lists.PackedLists.at.Goals as goal

pub start_at-requires : goal.start_at-requires
start_at-requires g c =
    let counted : length c.args.self.now ≡ length c.self.inside.ends.items = rw (← c.self.view_is) (parts-length 0 c.self.inside.items.items c.self.inside.ends.items) in
    rw c.deref-2.ensures.value (omega (arith, counted, c.requires))

pub index-requires : goal.index-requires
index-requires g c =
    let counted : length c.args.self.now ≡ length c.self.inside.ends.items = rw (← c.self.view_is) (parts-length 0 c.self.inside.items.items c.self.inside.ends.items) in
    let sized : c.self.inside.ends.len ≡ length c.self.inside.ends.items = search rules in
    omega (arith, counted, sized, c.requires)

pub part-requires-clause-order : goal.part-requires-clause-order
part-requires-clause-order g c =
    let counted : length c.args.self.now ≡ length c.self.inside.ends.items = rw (← c.self.view_is) (parts-length 0 c.self.inside.items.items c.self.inside.ends.items) in
    let at : slice_get c.self.inside.ends.items c.args.i ≡ Some c.index.result.now = slice_get-at c.self.inside.ends.items c.args.i c.index.result.now (omega (arith, counted, c.requires)) c.index.ensures in
    rw (c.start_at.ensures, c.deref-2.ensures.value) (ends-within 0 (length c.self.inside.items.items) c.args.i c.self.inside.ends.items c.index.result.now c.self.invariant at).0

pub part-requires-clause-inside : goal.part-requires-clause-inside
part-requires-clause-inside g c =
    let counted : length c.args.self.now ≡ length c.self.inside.ends.items = rw (← c.self.view_is) (parts-length 0 c.self.inside.items.items c.self.inside.ends.items) in
    let at : slice_get c.self.inside.ends.items c.args.i ≡ Some c.index.result.now = slice_get-at c.self.inside.ends.items c.args.i c.index.result.now (omega (arith, counted, c.requires)) c.index.ensures in
    rw c.deref.ensures.value (ends-within 0 (length c.self.inside.items.items) c.args.i c.self.inside.ends.items c.index.result.now c.self.invariant at).1

pub returns : goal.returns
returns g c =
    let counted : length c.args.self.now ≡ length c.self.inside.ends.items = rw (← c.self.view_is) (parts-length 0 c.self.inside.items.items c.self.inside.ends.items) in
    let at : slice_get c.self.inside.ends.items c.args.i ≡ Some c.index.result.now = slice_get-at c.self.inside.ends.items c.args.i c.index.result.now (omega (arith, counted, c.requires)) c.index.ensures in
    rw (← c.self.view_is, c.part.ensures, c.deref.ensures.value, c.start_at.ensures, c.deref-2.ensures.value) (part-at 0 c.self.inside.items.items c.args.i c.self.inside.ends.items c.index.result.now at)
