use Rattle.std.proofs.Common.{◌≡◌, Some, length, slice_get, arith, rules}
use Rattle.ti_source.proofs.NamedLaws.{slice_get-at}
use Rattle.ti_source.proofs.NoteLaws.{ends-within, note-at, notes-length}
use Rattle.ti_source.proofs.notes.Notes.at.Goals as goal

pub start_of-start-requires : goal.start_of-start-requires
start_of-start-requires c =
    let counted : length c.args.self.now ≡ length c.self.inside.places.items = rw (← c.self.view_is) (notes-length 0 c.self.inside.names.items c.self.inside.places.items) in
    rw c.deref.ensures.value (omega (arith, counted, c.requires))

pub index-place-requires : goal.index-place-requires
index-place-requires c =
    let counted : length c.args.self.now ≡ length c.self.inside.places.items = rw (← c.self.view_is) (notes-length 0 c.self.inside.names.items c.self.inside.places.items) in
    let sized : c.self.inside.places.len ≡ length c.self.inside.places.items = search rules in
    omega (arith, counted, sized, c.requires)

pub part-requires-clause-order : goal.part-requires-clause-order
part-requires-clause-order c =
    let counted : length c.args.self.now ≡ length c.self.inside.places.items = rw (← c.self.view_is) (notes-length 0 c.self.inside.names.items c.self.inside.places.items) in
    let at : slice_get c.self.inside.places.items c.args.i ≡ Some c.index-place.result.now = slice_get-at c.self.inside.places.items c.args.i c.index-place.result.now (omega (arith, counted, c.requires)) c.index-place.ensures in
    rw (c.start_of-start.ensures, c.deref.ensures.value) (ends-within 0 (length c.self.inside.names.items) c.args.i c.self.inside.places.items c.index-place.result.now c.self.invariant at).0

pub part-requires-clause-inside : goal.part-requires-clause-inside
part-requires-clause-inside c =
    let counted : length c.args.self.now ≡ length c.self.inside.places.items = rw (← c.self.view_is) (notes-length 0 c.self.inside.names.items c.self.inside.places.items) in
    let at : slice_get c.self.inside.places.items c.args.i ≡ Some c.index-place.result.now = slice_get-at c.self.inside.places.items c.args.i c.index-place.result.now (omega (arith, counted, c.requires)) c.index-place.ensures in
    rw c.deref-2.ensures.value (ends-within 0 (length c.self.inside.names.items) c.args.i c.self.inside.places.items c.index-place.result.now c.self.invariant at).1

pub returns : goal.returns
returns c =
    let counted : length c.args.self.now ≡ length c.self.inside.places.items = rw (← c.self.view_is) (notes-length 0 c.self.inside.names.items c.self.inside.places.items) in
    let at : slice_get c.self.inside.places.items c.args.i ≡ Some c.index-place.result.now = slice_get-at c.self.inside.places.items c.args.i c.index-place.result.now (omega (arith, counted, c.requires)) c.index-place.ensures in
    rw (← c.self.view_is, c.part.ensures, c.deref-2.ensures.value, c.start_of-start.ensures, c.deref.ensures.value) (note-at 0 c.self.inside.names.items c.args.i c.self.inside.places.items c.index-place.result.now at)
