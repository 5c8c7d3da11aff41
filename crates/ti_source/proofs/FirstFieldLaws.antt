-- An index of fields, from the last to the first.
use Rattle.std.proofs.Common.{◌≡◌, ◌∙◌, ℕ, zero, suc, ◌+◌, ◌<◌, ◌≤◌, Bool, true, false, ◌&&◌, eqb, cond, List, ◌∷◌, Option, Some, None, slice_get, slice_index_or, set, drop, length, replicate, refl, ap, sym, arith}
use Rattle.std.proofs.lemmas.Bool.Decides.{nat_tests}
use Rattle.std.proofs.lemmas.Bool.{eqb-true, eq-eqb}
use Rattle.std.proofs.lemmas.List.{drop_all, get_or-set_other, length-replicate}
use Rattle.std.proofs.lemmas.Grind.{get_or-set_at}
use Rattle.ti_caps.specs.declared.table.Kind.{Kind}
use Rattle.ti_caps.specs.declared.table.Kind.TheVariants.{Flag, Number, Text}
use Rattle.ti_caps.specs.Table.{same_kind}
use Rattle.ti_source.specs.declared.reading.statement.Statement.{Statement}
use Rattle.ti_source.specs.Code.FirstFields.{Indexes, field_at, first_of, ordinal}
use Rattle.ti_caps.specs.Slots.{positions_of}

abbrev no_place : Option ℕ
no_place = None

none-at : (n i : ℕ) → slice_index_or (replicate n no_place) i None ≡ None
none-at zero i = refl
none-at (suc n) zero = refl
none-at (suc n) (suc i) = none-at n i

pub nothing-indexed : (fields : List Statement) (index : List (Option ℕ)) → index ≡ replicate 640 None → Indexes fields (drop (length fields) fields) index
nothing-indexed fields index is kind slot small = rw (is, drop_all (length fields) fields (omega arith), none-at 640 (ordinal kind slot)) refl

-- a capability's place is its own
pub ordinal-own : (a b : Kind) (i j : ℕ) → i < positions_of a → j < positions_of b → ordinal a i ≡ ordinal b j → (same_kind b a && eqb j i) ≡ true
ordinal-own Flag Flag i j p q e = grind (arith, nat_tests)
ordinal-own Number Number i j p q e = grind (arith, nat_tests)
ordinal-own Text Text i j p q e = grind (arith, nat_tests)
ordinal-own Flag Number i j p q e = absurd (omega arith)
ordinal-own Flag Text i j p q e = absurd (omega arith)
ordinal-own Number Flag i j p q e = absurd (omega arith)
ordinal-own Number Text i j p q e = absurd (omega arith)
ordinal-own Text Flag i j p q e = absurd (omega arith)
ordinal-own Text Number i j p q e = absurd (omega arith)

pub same-ordinal : (a b : Kind) (i j : ℕ) → (same_kind b a && eqb j i) ≡ true → ordinal a i ≡ ordinal b j
same-ordinal Flag Flag i j e = sym (eqb-true j i e)
same-ordinal Number Number i j e = ap (λ n. 64 + n) (sym (eqb-true j i e))
same-ordinal Text Text i j e = ap (λ n. 128 + n) (sym (eqb-true j i e))
same-ordinal Flag Number i j e = cc
same-ordinal Flag Text i j e = cc
same-ordinal Number Flag i j e = cc
same-ordinal Number Text i j e = cc
same-ordinal Text Flag i j e = cc
same-ordinal Text Number i j e = cc

-- a kind has as many positions as the same kind
pub same-room : (a b : Kind) (i j : ℕ) → (same_kind b a && eqb j i) ≡ true → i < positions_of a → j < positions_of b
same-room Flag Flag i j e p = rw (eqb-true j i e) p
same-room Number Number i j e p = rw (eqb-true j i e) p
same-room Text Text i j e p = rw (eqb-true j i e) p
same-room Flag Number i j e p = cc
same-room Flag Text i j e p = cc
same-room Number Flag i j e p = cc
same-room Number Text i j e p = cc
same-room Text Flag i j e p = cc
same-room Text Number i j e p = cc

pub at-set : {A : Type 0} → (xs : List A) (i j : ℕ) (x d : A) → i < length xs → slice_index_or (set xs i x) j d ≡ cond (eqb i j) x (slice_index_or xs j d)
at-set xs i j x d lt = by (eqb i j) refl
  where
    by : (t : Bool) → eqb i j ≡ t → slice_index_or (set xs i x) j d ≡ cond t x (slice_index_or xs j d)
    by true e = get_or-set_at xs i j x d (sym (eqb-true i j e)) lt
    by false e = get_or-set_other xs i j x d (λ p. let q : eqb i j ≡ true = eq-eqb i j (sym p) in cc)

-- a field that has no place is in no index
pub without-ordinal : (fields further : List Statement) (index : List (Option ℕ)) (s : Statement) → positions_of s.kind ≤ s.slot.0 → Indexes fields further index → Indexes fields (s ∷ further) index
without-ordinal fields further index s far is kind slot small = by (same_kind s.kind kind && eqb s.slot.0 slot) refl
  where
    by : (t : Bool) → (same_kind s.kind kind && eqb s.slot.0 slot) ≡ t → field_at fields (slice_index_or index (ordinal kind slot) None) ≡ first_of kind slot (s ∷ further)
    by false e = rw e (is kind slot small)
    by true e = let near = same-room kind s.kind slot s.slot.0 e small in absurd (omega arith)

pub with-ordinal : (fields further : List Statement) (index : List (Option ℕ)) (s : Statement) (i : ℕ) → length index ≡ 640 → ordinal s.kind s.slot.0 < 640 → s.slot.0 < positions_of s.kind → slice_get fields i ≡ Some s → Indexes fields further index → Indexes fields (s ∷ further) (set index (ordinal s.kind s.slot.0) (Some i))
with-ordinal fields further index s i long inside near at is kind slot small = by (same_kind s.kind kind && eqb s.slot.0 slot) refl
  where
    by : (t : Bool) → (same_kind s.kind kind && eqb s.slot.0 slot) ≡ t → field_at fields (slice_index_or (set index (ordinal s.kind s.slot.0) (Some i)) (ordinal kind slot) None) ≡ first_of kind slot (s ∷ further)
    by true e =
        let here : eqb (ordinal s.kind s.slot.0) (ordinal kind slot) ≡ true = eq-eqb _ _ (sym (same-ordinal kind s.kind slot s.slot.0 e)) in
        rw (e, at-set index (ordinal s.kind s.slot.0) (ordinal kind slot) (Some i) None (omega arith), here, at) refl
    by false e = elsewhere (eqb (ordinal s.kind s.slot.0) (ordinal kind slot)) refl
      where
        elsewhere : (u : Bool) → eqb (ordinal s.kind s.slot.0) (ordinal kind slot) ≡ u → field_at fields (slice_index_or (set index (ordinal s.kind s.slot.0) (Some i)) (ordinal kind slot) None) ≡ first_of kind slot (s ∷ further)
        elsewhere false f = rw (e, at-set index (ordinal s.kind s.slot.0) (ordinal kind slot) (Some i) None (omega arith), f) (is kind slot small)
        elsewhere true f =
            let own = ordinal-own kind s.kind slot s.slot.0 small near (sym (eqb-true (ordinal s.kind s.slot.0) (ordinal kind slot) f)) in
            cc

pub long-index : (index : List (Option ℕ)) → index ≡ replicate 640 None → length index ≡ 640
long-index index is = ap length is ∙ length-replicate 640 no_place
