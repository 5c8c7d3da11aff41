-- The fields that take effect, in the order of all.
use Rattle.std.proofs.Common.{◌≡◌, ◌∙◌, ◌⊎◌, inl, inr, ℕ, zero, suc, ◌<◌, Bool, true, false, not, ◌&&◌, eqb, nat_lt, cond, List, [], ◌∷◌, ◌++◌, Option, Some, None, is_some, option_map, set, slice_index_or, length, replicate, refl, ap, sym, arith}
use Rattle.std.proofs.lemmas.Bool.Decides.{nat_tests}
use Rattle.std.proofs.lemmas.Bool.{eqb-true}
use Rattle.std.proofs.lemmas.List.{length-replicate, length-set}
use Rattle.ti_caps.specs.declared.table.Kind.{Kind}
use Rattle.ti_caps.specs.declared.table.Kind.TheVariants.{Flag, Number, Text}
use Rattle.ti_caps.specs.Table.{or_else, same_kind}
use Rattle.ti_source.specs.declared.reading.statement.FieldValue.{FieldValue}
use Rattle.ti_source.specs.declared.reading.statement.Statement.{Statement}
use Rattle.ti_source.specs.Reading.Sources.{concerns}
use Rattle.ti_source.specs.Resolving.Uses.{value_of_capability}
use Rattle.ti_source.specs.Code.FirstFields.{AreEffective, first_of, if_present, is_free, is_present, ordinal, takes_effect, with_mark}
use Rattle.ti_caps.specs.Slots.{positions_of}
use Rattle.ti_source.proofs.MergedBackLaws.{value_of_capability-append, or-none}
use Rattle.ti_source.proofs.FirstFieldLaws.{at-set, ordinal-own, same-ordinal, same-room}
use Rattle.ti_source.proofs.MarkLaws.{at-set as put-mark}

-- what fields say of a capability the first that is about it says
pub field_value-of-first : (kind : Kind) (slot : ℕ) (fields : List Statement) → value_of_capability kind slot fields ≡ option_map (λ (s : Statement). s.field_value) (first_of kind slot fields)
field_value-of-first kind slot [] = refl
field_value-of-first kind slot (s ∷ ss) = by (concerns kind slot s) (field_value-of-first kind slot ss)
  where
    by : (t : Bool) → value_of_capability kind slot ss ≡ option_map (λ (x : Statement). x.field_value) (first_of kind slot ss) → cond t (Some s.field_value) (value_of_capability kind slot ss) ≡ option_map (λ (x : Statement). x.field_value) (cond t (Some s) (first_of kind slot ss))
    by true e = refl
    by false e = e

-- what holds after some fields: the capabilities that they are about are marked, and those that take effect are there
pub record Sifted (before : List Statement) (marks : List Bool) (some : List Statement) : Type 0 where
  pub long : length marks ≡ 640
  pub marked : (kind : Kind) (slot : ℕ) → slot < positions_of kind → slice_index_or marks (ordinal kind slot) true ≡ is_some (value_of_capability kind slot before)
  pub counts : AreEffective before some

no-mark : (n i : ℕ) → i < n → slice_index_or (replicate n false) i true ≡ false
no-mark zero i lt = absurd (omega arith)
no-mark (suc n) zero lt = refl
no-mark (suc n) (suc i) lt = no-mark n i (omega arith)

inside : (kind : Kind) (slot : ℕ) → slot < positions_of kind → ordinal kind slot < 640
inside Flag slot small = omega arith
inside Number slot small = omega arith
inside Text slot small = omega arith

pub none-sifted : (marks : List Bool) → marks ≡ replicate 640 false → Sifted [] marks []
none-sifted marks is = record {
  long = ap length is ∙ length-replicate 640 false;
  marked = λ kind slot small. ap (λ ms. slice_index_or ms (ordinal kind slot) true) is ∙ no-mark 640 (ordinal kind slot) (inside kind slot small);
  counts = λ kind slot small. refl;
}

said : (o p : Option FieldValue) → is_some o ≡ true → or_else o p ≡ o
said None p h = cc
said (Some x) p h = refl

unsaid : (o : Option FieldValue) → is_some o ≡ false → o ≡ None
unsaid None h = refl
unsaid (Some x) h = cc

marked-if : (a b : Bool) → (a && not b) ≡ false → a ≡ true → b ≡ true
marked-if true true h e = refl
marked-if true false h e = cc
marked-if false b h e = cc

unmarked-if : (a b : Bool) → (a && not b) ≡ true → (a ≡ true) × (b ≡ false)
unmarked-if true false h = (refl, refl)
unmarked-if true true h = cc
unmarked-if false b h = cc

no-field_value : (kind : Kind) (slot : ℕ) (some : List Statement) (s : Statement) → concerns kind slot s ≡ false → value_of_capability kind slot (some ++ s ∷ []) ≡ value_of_capability kind slot some
no-field_value kind slot some s e = value_of_capability-append kind slot some (s ∷ []) ∙ rw e (or-none (value_of_capability kind slot some))

one-field_value : (kind : Kind) (slot : ℕ) (some : List Statement) (s : Statement) → concerns kind slot s ≡ true → value_of_capability kind slot (some ++ s ∷ []) ≡ or_else (value_of_capability kind slot some) (Some s.field_value)
one-field_value kind slot some s e = value_of_capability-append kind slot some (s ∷ []) ∙ rw e refl

kind-is : (a b : Kind) (t : Bool) → (same_kind a b && t) ≡ true → a ≡ b
kind-is Flag Flag t e = refl
kind-is Number Number t e = refl
kind-is Text Text t e = refl
kind-is Flag Number t e = cc
kind-is Flag Text t e = cc
kind-is Number Flag t e = cc
kind-is Number Text t e = cc
kind-is Text Flag t e = cc
kind-is Text Number t e = cc

-- one more field, whose capability is marked already or is none
sifted-passed : (before : List Statement) (marks : List Bool) (s : Statement) (some : List Statement) → Sifted before marks some → is_free marks s ≡ false → Sifted (before ++ s ∷ []) marks some
sifted-passed before marks s some so taken = record {
  long = so.long;
  marked = λ kind slot small. so.marked kind slot small ∙ ap is_some (sym (stays kind slot small));
  counts = λ kind slot small. so.counts kind slot small ∙ ap (if_present kind) (sym (stays kind slot small));
}
  where
    stays : (kind : Kind) (slot : ℕ) → slot < positions_of kind → value_of_capability kind slot (before ++ s ∷ []) ≡ value_of_capability kind slot before
    stays kind slot small = by (concerns kind slot s) refl
      where
        by : (t : Bool) → concerns kind slot s ≡ t → value_of_capability kind slot (before ++ s ∷ []) ≡ value_of_capability kind slot before
        by false e = no-field_value kind slot before s e
        by true e =
            let near = same-room kind s.kind slot s.slot.0 e small in
            let fits : nat_lt s.slot.0 (positions_of s.kind) ≡ true = grind (arith, nat_tests) in
            let marked : slice_index_or marks (ordinal s.kind s.slot.0) true ≡ true = marked-if _ _ taken fits in
            let there : is_some (value_of_capability kind slot before) ≡ true = sym (so.marked kind slot small) ∙ ap (λ o. slice_index_or marks o true) (same-ordinal kind s.kind slot s.slot.0 e) ∙ marked in
            one-field_value kind slot before s e ∙ said (value_of_capability kind slot before) (Some s.field_value) there

-- one more field, the first about its capability
sifted-first : (before : List Statement) (marks : List Bool) (s : Statement) (some after : List Statement) → Sifted before marks some → is_free marks s ≡ true → (is_present s.kind s.field_value ≡ true → after ≡ some ++ s ∷ []) → (is_present s.kind s.field_value ≡ false → after ≡ some) → Sifted (before ++ s ∷ []) (set marks (ordinal s.kind s.slot.0) true) after
sifted-first before marks s some after so free with without = record {
  long = length-set marks (ordinal s.kind s.slot.0) true ∙ so.long;
  marked = λ kind slot small. marked kind slot small (concerns kind slot s) refl;
  counts = λ kind slot small. counts kind slot small (concerns kind slot s) refl (is_present s.kind s.field_value) refl;
}
  where
    own : ℕ
    own = ordinal s.kind s.slot.0

    fits : nat_lt s.slot.0 (positions_of s.kind) ≡ true
    fits = (unmarked-if _ _ free).0

    small-own : s.slot.0 < positions_of s.kind
    small-own = grind (arith, nat_tests, fits)

    unmarked : slice_index_or marks own true ≡ false
    unmarked = (unmarked-if _ _ free).1

    none : (kind : Kind) (slot : ℕ) → slot < positions_of kind → concerns kind slot s ≡ true → value_of_capability kind slot before ≡ None
    none kind slot small e =
        unsaid (value_of_capability kind slot before) (sym (so.marked kind slot small) ∙ ap (λ o. slice_index_or marks o true) (same-ordinal kind s.kind slot s.slot.0 e) ∙ unmarked)

    first : (kind : Kind) (slot : ℕ) → slot < positions_of kind → concerns kind slot s ≡ true → value_of_capability kind slot (before ++ s ∷ []) ≡ Some s.field_value
    first kind slot small e = one-field_value kind slot before s e ∙ ap (λ o. or_else o (Some s.field_value)) (none kind slot small e)

    marked : (kind : Kind) (slot : ℕ) → slot < positions_of kind → (t : Bool) → concerns kind slot s ≡ t → slice_index_or (set marks own true) (ordinal kind slot) true ≡ is_some (value_of_capability kind slot (before ++ s ∷ []))
    marked kind slot small true e =
        ap (λ o. slice_index_or (set marks own true) o true) (same-ordinal kind s.kind slot s.slot.0 e) ∙ put-mark marks own ∙ ap is_some (sym (first kind slot small e))
    marked kind slot small false e = elsewhere (eqb own (ordinal kind slot)) refl
      where
        elsewhere : (u : Bool) → eqb own (ordinal kind slot) ≡ u → slice_index_or (set marks own true) (ordinal kind slot) true ≡ is_some (value_of_capability kind slot (before ++ s ∷ []))
        elsewhere false f =
            let lt : own < length marks = (let near = inside s.kind s.slot.0 small-own in omega (arith, so.long)) in
            at-set marks own (ordinal kind slot) true true lt ∙ rw f refl ∙ so.marked kind slot small ∙ ap is_some (sym (no-field_value kind slot before s e))
        elsewhere true f =
            let same = ordinal-own kind s.kind slot s.slot.0 small small-own (sym (eqb-true own (ordinal kind slot) f)) in
            cc

    counts : (kind : Kind) (slot : ℕ) → slot < positions_of kind → (t : Bool) → concerns kind slot s ≡ t → (u : Bool) → is_present s.kind s.field_value ≡ u → value_of_capability kind slot after ≡ if_present kind (value_of_capability kind slot (before ++ s ∷ []))
    counts kind slot small false e true p =
        ap (value_of_capability kind slot) (with p) ∙ no-field_value kind slot some s e ∙ so.counts kind slot small ∙ ap (if_present kind) (sym (no-field_value kind slot before s e))
    counts kind slot small false e false p =
        ap (value_of_capability kind slot) (without p) ∙ so.counts kind slot small ∙ ap (if_present kind) (sym (no-field_value kind slot before s e))
    counts kind slot small true e true p =
        let present : is_present kind s.field_value ≡ true = ap (λ k. is_present k s.field_value) (sym (kind-is s.kind kind (eqb s.slot.0 slot) e)) ∙ p in
        ap (value_of_capability kind slot) (with p) ∙ one-field_value kind slot some s e ∙ ap (λ o. or_else o (Some s.field_value)) (so.counts kind slot small ∙ ap (if_present kind) (none kind slot small e))
        ∙ rw present refl ∙ ap (if_present kind) (sym (first kind slot small e))
    counts kind slot small true e false p =
        let absent : is_present kind s.field_value ≡ false = ap (λ k. is_present k s.field_value) (sym (kind-is s.kind kind (eqb s.slot.0 slot) e)) ∙ p in
        ap (value_of_capability kind slot) (without p) ∙ so.counts kind slot small ∙ ap (if_present kind) (none kind slot small e) ∙ rw absent refl ∙ ap (if_present kind) (sym (first kind slot small e))

-- one more field
pub one-more : (before : List Statement) (marks put : List Bool) (s : Statement) (some after : List Statement) → Sifted before marks some → put ≡ with_mark marks s → ((takes_effect marks s ≡ true) × (after ≡ some ++ s ∷ [])) ⊎ ((takes_effect marks s ≡ false) × (after ≡ some)) → Sifted (before ++ s ∷ []) put after
one-more before marks put s some after so is kept = by (is_free marks s) refl
  where
    with : takes_effect marks s ≡ true → after ≡ some ++ s ∷ []
    with h = elim kept [ inl p ↦ p.1 | inr p ↦ cc (h, p.0) ]

    without : takes_effect marks s ≡ false → after ≡ some
    without h = elim kept [ inl p ↦ cc (h, p.0) | inr p ↦ p.1 ]

    by : (t : Bool) → is_free marks s ≡ t → Sifted (before ++ s ∷ []) put after
    by false f = rw (is, f, without (rw f refl)) (sifted-passed before marks s some so f)
    by true f = rw (is, f) (sifted-first before marks s some after so f (λ p. with (rw (f, p) refl)) (λ p. without (rw (f, p) refl)))
