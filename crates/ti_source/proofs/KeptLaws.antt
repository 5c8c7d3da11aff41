-- Entries that are kept as three lists.
use Rattle.std.proofs.Common.{◌≡◌, ℕ, zero, suc, List, [], ◌∷◌, ◌++◌, Some, length, slice_get, ap, refl, subst, arith}
use Rattle.ti_source.specs.declared.reading.statement.Statement.{Statement}
use Rattle.ti_source.specs.Described.{Described, IsDescribed}
use Rattle.ti_source.specs.Code.Kept.{AreDescribed, described_of}

pub described-length : (ns : List (List ℕ)) (ss : List (List Statement)) (us : List (List (List ℕ))) → length ss ≡ length ns → length us ≡ length ns → length (described_of ns ss us) ≡ length ns
described-length [] ss us p q = refl
described-length (n ∷ ns) [] us p q = absurd (omega arith)
described-length (n ∷ ns) (s ∷ ss) [] p q = absurd (omega arith)
described-length (n ∷ ns) (s ∷ ss) (u ∷ us) p q = ap suc (described-length ns ss us (omega arith) (omega arith))

pub described-push : (ns : List (List ℕ)) (ss : List (List Statement)) (us : List (List (List ℕ))) (n : List ℕ) (s : List Statement) (u : List (List ℕ)) → length ss ≡ length ns → length us ≡ length ns
    → described_of (ns ++ n ∷ []) (ss ++ s ∷ []) (us ++ u ∷ []) ≡ described_of ns ss us ++ (record { names = n; statements = s; uses = u }) ∷ []
described-push [] [] [] n s u p q = refl
described-push [] [] (v ∷ us) n s u p q = absurd (omega arith)
described-push [] (t ∷ ss) us n s u p q = absurd (omega arith)
described-push (m ∷ ns) [] us n s u p q = absurd (omega arith)
described-push (m ∷ ns) (t ∷ ss) [] n s u p q = absurd (omega arith)
described-push (m ∷ ns) (t ∷ ss) (v ∷ us) n s u p q = ap (λ ds. (record { names = m; statements = t; uses = v }) ∷ ds) (described-push ns ss us n s u (omega arith) (omega arith))

pub described-at : (ns : List (List ℕ)) (ss : List (List Statement)) (us : List (List (List ℕ))) (i : ℕ) (n : List ℕ) (s : List Statement) (u : List (List ℕ))
    → slice_get ns i ≡ Some n → slice_get ss i ≡ Some s → slice_get us i ≡ Some u → slice_get (described_of ns ss us) i ≡ Some (record { names = n; statements = s; uses = u })
described-at [] ss us i n s u p q r = cc
described-at (m ∷ ns) [] us i n s u p q r = cc
described-at (m ∷ ns) (t ∷ ss) [] i n s u p q r = cc
described-at (m ∷ ns) (t ∷ ss) (v ∷ us) zero n s u p q r = cc
described-at (m ∷ ns) (t ∷ ss) (v ∷ us) (suc i) n s u p q r = described-at ns ss us i n s u p q r

pub are_described-push : (ds : List Described) (d : Described) → AreDescribed ds → IsDescribed d → AreDescribed (ds ++ d ∷ [])
are_described-push [] d h new = (new, tt)
are_described-push (e ∷ ds) d h new = (h.0, are_described-push ds d h.1 new)

pub is_described-at : (ds : List Described) (i : ℕ) (d : Described) → AreDescribed ds → slice_get ds i ≡ Some d → IsDescribed d
is_described-at [] i d h e = cc
is_described-at (x ∷ ds) zero d h e = let same : x ≡ d = cc in subst IsDescribed same h.0
is_described-at (x ∷ ds) (suc i) d h e = is_described-at ds i d h.1 e
