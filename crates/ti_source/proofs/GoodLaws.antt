-- What a capability may have.
use Rattle.std.proofs.Common.{◌≡◌, ◌<◌, ℕ, zero, suc, List, [], ◌∷◌, ◌++◌, Some, get_or, length, slice_get, option_map, map, subst, refl, ap, ◌∙◌}
use Rattle.std.proofs.lemmas.Option.{slice_get_read, slice_get-map}
use Rattle.std.proofs.lemmas.List.{length-map}
use Rattle.ti_source.specs.declared.reading.statement.Statement.{Statement}
use Rattle.ti_source.specs.Described.{AreGood, IsGood}

pub AreGood-push : (ss : List Statement) (s : Statement) → AreGood ss → IsGood s.field_value → AreGood (ss ++ s ∷ [])
AreGood-push [] s all one = (one, tt)
AreGood-push (x ∷ xs) s all one = (all.0, AreGood-push xs s all.1 one)

pub AreGood-append : (ss more : List Statement) → AreGood ss → AreGood more → AreGood (ss ++ more)
AreGood-append [] more all rest = rest
AreGood-append (x ∷ xs) more all rest = (all.0, AreGood-append xs more all.1 rest)

-- each of them is
pub good-at : (ss : List Statement) (i : ℕ) (s : Statement) → AreGood ss → slice_get ss i ≡ Some s → IsGood s.field_value
good-at [] i s all at = cc
good-at (x ∷ xs) zero s all at = let same : x ≡ s = cc in subst (λ (y : Statement). IsGood y.field_value) same all.0
good-at (x ∷ xs) (suc i) s all at = good-at xs i s all.1 at

pub good-read : (ss : List Statement) (k : ℕ) (s : Statement) → AreGood ss → k < length ss → s ≡ get_or ss k s → IsGood s.field_value
good-read ss k s all lt is = good-at ss k s all (slice_get_read ss (length ss) k s refl lt is)

-- the same of values that stand for statements
pub good-seen : {R : Type 0} → (seen : R → Statement) (rs : List R) (k : ℕ) (r : R) → AreGood (map seen rs) → k < length (map seen rs) → r ≡ get_or rs k r → IsGood (seen r).field_value
good-seen seen rs k r all lt is =
    let room : k < length rs = rw (← length-map rs seen) lt in
    good-at (map seen rs) k (seen r) all (slice_get-map seen rs k ∙ ap (option_map seen) (slice_get_read rs (length rs) k r refl room is))
