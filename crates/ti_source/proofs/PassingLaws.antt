-- Entries that only pass on another.
use Rattle.std.proofs.Common.{◌≡◌, ◌∙◌, ℕ, Bool, true, false, ◌||◌, List, [], ◌∷◌, Option, Some, None, refl, ap, sym, subst, arith}
use Rattle.std.proofs.lemmas.List.FromFn.{get_or-map-range_with_len}
use Rattle.ti_caps.specs.declared.table.Kind.TheVariants.{Flag, Number, Text}
use Rattle.ti_caps.specs.Description.{Description, flag_at, number_at, text_at}
use Rattle.ti_caps.specs.Table.{or_else}
use Rattle.ti_source.specs.Described.{Described}
use Rattle.ti_source.specs.Resolving.Passing.{PassBack, PassOn}
use Rattle.ti_source.specs.Resolving.Uses.{Resolve, flag_by, flag_in, merged, more, nothing, number_by, number_in, text_by, text_in, value_of_capability}
use Rattle.ti_source.proofs.StandsForLaws.{map-range}

or-false : (b : Bool) → (b || false) ≡ b
or-false true = refl
or-false false = refl

or-nothing : {A : Type 0} (o : Option A) → or_else o None ≡ o
or-nothing None = refl
or-nothing (Some x) = refl

-- an entry without fields of its own over one resolved entry
over-one : (f g : Described) (us : List Description) → f.statements ≡ []
    → merged f (merged g us ∷ []) ≡ record { names = f.names; flags = (merged g us).flags; numbers = (merged g us).numbers; texts = (merged g us).texts }
unfolding merged
over-one f g us none = λ i. record {
  names = f.names;
  flags = map-range (flag_in f.statements (e ∷ [])) (flag_in g.statements us) 0 64 (λ j lt.
      ap (λ ss. flag_by (value_of_capability Flag j ss) (flag_at e j || false)) none ∙ or-false (flag_at e j)
      ∙ get_or-map-range_with_len (flag_in g.statements us) 0 64 j j false lt (omega arith)) i;
  numbers = map-range (number_in f.statements (e ∷ [])) (number_in g.statements us) 0 64 (λ j lt.
      ap (λ ss. number_by (value_of_capability Number j ss) (or_else (number_at e j) None)) none ∙ or-nothing (number_at e j)
      ∙ get_or-map-range_with_len (number_in g.statements us) 0 64 j j None lt (omega arith)) i;
  texts = map-range (text_in f.statements (e ∷ [])) (text_in g.statements us) 0 512 (λ j lt.
      ap (λ ss. text_by (value_of_capability Text j ss) (or_else (text_at e j) None)) none ∙ or-nothing (text_at e j)
      ∙ get_or-map-range_with_len (text_in g.statements us) 0 512 j j None lt (omega arith)) i;
}
  where
    e : Description
    e = merged g us

over-resolved : (f g : Described) (us : List Description) (d : Description) → f.statements ≡ [] → d ≡ merged g us
    → merged f (d ∷ []) ≡ record { names = f.names; flags = d.flags; numbers = d.numbers; texts = d.texts }
over-resolved f g us d none is = rw is (over-one f g us none)

head-is : {x y : Description} {xs ys : List Description} → x ∷ xs ≡ y ∷ ys → x ≡ y
head-is p = cc

none-resolved : (entries : List Described) (ds : List Description) → Resolve entries [] ds → ds ≡ []
none-resolved entries ds nothing = refl

-- one name resolves to one entry, which is some entry over others
record IsOne (entries : List Described) (name : List ℕ) (ds : List Description) : Type 0 where
  e : Description
  one : ds ≡ e ∷ []
  g : Described
  us : List Description
  is : e ≡ merged g us

one-resolved : (entries : List Described) (name : List ℕ) (ds : List Description) → Resolve entries (name ∷ []) ds → IsOne entries name ds
one-resolved entries name ds (more {found = f} {used = us} {ds = es} {d = e} finds uses is rest) = record {
  e = e;
  one = ap (λ xs. e ∷ xs) (none-resolved entries es rest);
  g = f.1;
  us = us;
  is = is;
}

named : (d : Description) (own names : List ℕ) → names ≡ own
    → ◌≡◌ {A = Description} (record { names = names; flags = d.flags; numbers = d.numbers; texts = d.texts }) (record { names = own; flags = d.flags; numbers = d.numbers; texts = d.texts })
named d own names is = λ i. record { names = is i; flags = d.flags; numbers = d.numbers; texts = d.texts }

pub pass-on : PassOn
pass-on entries name own other d p r =
    let o = one-resolved entries other (d ∷ []) r in
    let same : d ≡ o.e = head-is o.one in
    more p.finds (subst (λ us. Resolve entries us (d ∷ [])) (sym p.uses) r) (sym (over-resolved p.found.1 o.g o.us d p.none (same ∙ o.is) ∙ named d own p.found.1.names p.names)) nothing

pub pass-back : PassBack
pass-back entries name own other d p (more {found = f} {used = us} finds uses is rest) =
    let same : f ≡ p.found = cc (finds, p.finds) in
    let others = subst (λ (x : ℕ × Described). Resolve entries x.1.uses us) same uses in
    let r = subst (λ ns. Resolve entries ns us) p.uses others in
    let o = one-resolved entries other us r in (
      o.e,
      subst (λ ds. Resolve entries (other ∷ []) ds) o.one r,
      is ∙ ap (λ (x : ℕ × Described). merged x.1 us) same ∙ ap (merged p.found.1) o.one
          ∙ over-resolved p.found.1 o.g o.us o.e p.none o.is ∙ named o.e own p.found.1.names p.names,
    )
