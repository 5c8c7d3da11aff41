-- Notes whose names stand one after another.
use Rattle.std.proofs.Common.{◌≡◌, ◌≤◌, ◌<◌, ℕ, zero, suc, ◌+◌, ◌-◌, List, [], ◌∷◌, ◌++◌, Some, length, take, drop, slice_get, slice_index_or, sym, ap, refl, arith}
use Rattle.std.proofs.lemmas.List.{take-append-le, drop-append-le, length-drop}
use Rattle.std.proofs.Math.Seq.{drop-append_seam, take-length}
use Rattle.ti_source.specs.declared.notes.NotePlace.{NotePlace}
use Rattle.ti_source.specs.Code.Notes.{EndInOrder, notes_from, start_of}

pub ends-after : (start all : ℕ) (ps : List NotePlace) → EndInOrder start all ps → start ≤ all
ends-after start all [] h = omega arith
ends-after start all (p ∷ ps) h = let rest = ends-after p.end all ps h.1 in omega (arith, h.0)

pub in_order-push : (start all : ℕ) (ps : List NotePlace) (p : NotePlace) → EndInOrder start all ps → all ≤ p.end → EndInOrder start p.end (ps ++ p ∷ [])
in_order-push start all [] p h more = (omega arith, refl)
in_order-push start all (q ∷ ps) p h more = (h.0, in_order-push q.end all ps p h.1 more)

pub notes-push : (start : ℕ) (names name : List ℕ) (ps : List NotePlace) (p : NotePlace) → EndInOrder start (length names) ps → p.end ≡ length names + length name
    → notes_from start (names ++ name) (ps ++ p ∷ []) ≡ notes_from start names ps ++ (record { line = p.line; cause = p.cause; name = name }) ∷ []
notes-push start names name [] p h end =
    let count : p.end - start ≡ length name = omega arith in
    rw (count, h, drop-append_seam, take-length) refl
notes-push start names name (q ∷ ps) p h end =
    let below = ends-after q.end (length names) ps h.1 in
    let dropped : drop start (names ++ name) ≡ drop start names ++ name = drop-append-le start names name (omega (arith, below, h.0)) in
    let left : length (drop start names) ≡ length names - start = length-drop start names in
    let taken : take (q.end - start) (drop start names ++ name) ≡ take (q.end - start) (drop start names) = take-append-le (q.end - start) (drop start names) name (omega (arith, below, h.0)) in
    rw (dropped, taken, notes-push q.end names name ps p h.1 end) refl

pub notes-length : (start : ℕ) (names : List ℕ) (ps : List NotePlace) → length (notes_from start names ps) ≡ length ps
notes-length start names [] = refl
notes-length start names (p ∷ ps) = ap suc (notes-length p.end names ps)

pub start-first : (start : ℕ) (ps : List NotePlace) → start_of start zero ps ≡ start
start-first start [] = refl
start-first start (p ∷ ps) = refl

pub end-at : (start i : ℕ) (ps : List NotePlace) (d : NotePlace) → i < length ps → (slice_index_or ps i d).end ≡ start_of start (suc i) ps
end-at start i [] d lt = absurd (omega arith)
end-at start zero (q ∷ ps) d lt = sym (start-first q.end ps)
end-at start (suc i) (q ∷ ps) d lt = end-at q.end i ps d (omega arith)

pub end-before : (i : ℕ) (ps : List NotePlace) (d : NotePlace) → (i ≡ 0 → ⊥) → i < length ps → (slice_index_or ps (i - 1) d).end ≡ start_of 0 i ps
end-before zero ps d some lt = absurd (some refl)
end-before (suc i) ps d some lt = let e : suc i - 1 ≡ i = omega arith in rw e (end-at 0 i ps d (omega arith))

pub note-at : (start : ℕ) (names : List ℕ) (i : ℕ) (ps : List NotePlace) (p : NotePlace) → slice_get ps i ≡ Some p
    → slice_get (notes_from start names ps) i ≡ Some (record { line = p.line; cause = p.cause; name = take (p.end - start_of start i ps) (drop (start_of start i ps) names) })
note-at start names i [] p e = cc
note-at start names zero (q ∷ ps) p e = let same : q ≡ p = cc in rw same refl
note-at start names (suc i) (q ∷ ps) p e = note-at q.end names i ps p e

pub ends-within : (start all i : ℕ) (ps : List NotePlace) (p : NotePlace) → EndInOrder start all ps → slice_get ps i ≡ Some p → (start_of start i ps ≤ p.end) × (p.end ≤ all)
ends-within start all i [] p h e = cc
ends-within start all zero (q ∷ ps) p h e =
    let same : q.end ≡ p.end = ends-same q p cc in
    let below = ends-after q.end all ps h.1 in (omega (arith, h.0, same), omega (arith, below, same))
  where
    ends-same : (q p : NotePlace) → q ≡ p → q.end ≡ p.end
    ends-same q p e = ap (λ x. x.end) e
ends-within start all (suc i) (q ∷ ps) p h e = ends-within q.end all i ps p h.1 e
