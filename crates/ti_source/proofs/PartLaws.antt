-- Lists that are kept one after another.
use Rattle.std.proofs.Common.{◌≡◌, ◌≤◌, ◌<◌, ℕ, zero, suc, ◌+◌, ◌-◌, List, [], ◌∷◌, ◌++◌, Some, length, take, drop, slice_get, slice_index_or, sym, ap, refl, arith}
use Rattle.std.proofs.lemmas.List.{take-append-le, drop-append-le, length-drop}
use Rattle.std.proofs.Math.Seq.{drop-append_seam, take-length}
use Rattle.ti_source.specs.Code.PackedLists.{AreEnds, parts_from, start_at}

pub ends-after : (start all : ℕ) (ends : List ℕ) → AreEnds start all ends → start ≤ all
ends-after start all [] h = omega arith
ends-after start all (e ∷ es) h = let rest = ends-after e all es h.1 in omega (arith, h.0)

pub ends-push : (start all : ℕ) (ends : List ℕ) (end : ℕ) → AreEnds start all ends → all ≤ end → AreEnds start end (ends ++ end ∷ [])
ends-push start all [] end h more = (omega arith, refl)
ends-push start all (e ∷ es) end h more = (h.0, ends-push e all es end h.1 more)

pub parts-push : {A : Type 0} → (start : ℕ) (items part : List A) (ends : List ℕ) (end : ℕ) → AreEnds start (length items) ends → end ≡ length items + length part
    → parts_from start (items ++ part) (ends ++ end ∷ []) ≡ parts_from start items ends ++ part ∷ []
parts-push start items part [] end h is =
    let count : end - start ≡ length part = omega arith in
    rw (count, h, drop-append_seam, take-length) refl
parts-push start items part (e ∷ es) end h is =
    let below = ends-after e (length items) es h.1 in
    let dropped : drop start (items ++ part) ≡ drop start items ++ part = drop-append-le start items part (omega (arith, below, h.0)) in
    let left : length (drop start items) ≡ length items - start = length-drop start items in
    let taken : take (e - start) (drop start items ++ part) ≡ take (e - start) (drop start items) = take-append-le (e - start) (drop start items) part (omega (arith, below, h.0)) in
    rw (dropped, taken, parts-push e items part es end h.1 is) refl

pub parts-length : {A : Type 0} → (start : ℕ) (items : List A) (ends : List ℕ) → length (parts_from start items ends) ≡ length ends
parts-length start items [] = refl
parts-length start items (e ∷ es) = ap suc (parts-length e items es)

pub start-first : (start : ℕ) (ends : List ℕ) → start_at start zero ends ≡ start
start-first start [] = refl
start-first start (e ∷ es) = refl

pub end-at : (start i : ℕ) (ends : List ℕ) (d : ℕ) → i < length ends → slice_index_or ends i d ≡ start_at start (suc i) ends
end-at start i [] d lt = absurd (omega arith)
end-at start zero (e ∷ es) d lt = sym (start-first e es)
end-at start (suc i) (e ∷ es) d lt = end-at e i es d (omega arith)

pub end-before : (i : ℕ) (ends : List ℕ) (d : ℕ) → (i ≡ 0 → ⊥) → i < length ends → slice_index_or ends (i - 1) d ≡ start_at 0 i ends
end-before zero ends d some lt = absurd (some refl)
end-before (suc i) ends d some lt = let e : suc i - 1 ≡ i = omega arith in rw e (end-at 0 i ends d (omega arith))

pub part-at : {A : Type 0} → (start : ℕ) (items : List A) (i : ℕ) (ends : List ℕ) (end : ℕ) → slice_get ends i ≡ Some end
    → slice_get (parts_from start items ends) i ≡ Some (take (end - start_at start i ends) (drop (start_at start i ends) items))
part-at start items i [] end is = cc
part-at start items zero (e ∷ es) end is = let same : e ≡ end = cc in rw same refl
part-at start items (suc i) (e ∷ es) end is = part-at e items i es end is

pub ends-within : (start all i : ℕ) (ends : List ℕ) (end : ℕ) → AreEnds start all ends → slice_get ends i ≡ Some end → (start_at start i ends ≤ end) × (end ≤ all)
ends-within start all i [] end h is = cc
ends-within start all zero (e ∷ es) end h is =
    let same : e ≡ end = cc in
    let below = ends-after e all es h.1 in (omega (arith, h.0, same), omega (arith, below, same))
ends-within start all (suc i) (e ∷ es) end h is = ends-within e all i es end h.1 is
