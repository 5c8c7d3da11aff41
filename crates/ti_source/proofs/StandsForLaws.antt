-- The fields that take effect of an entry and of those that it uses, as its resolved entry.
use Rattle.std.proofs.Common.{◌≡◌, ◌∙◌, ℕ, zero, suc, ◌+◌, ◌<◌, Bool, true, false, ◌||◌, List, [], ◌∷◌, Option, Some, None, map, refl, ap, sym, arith}
use Rattle.std.specs.List.{list_any, range_with_len}
use Rattle.std.proofs.lemmas.List.FromFn.{get_or-map-range_with_len}
use Rattle.ti_caps.specs.declared.table.Kind.{Kind}
use Rattle.ti_caps.specs.declared.table.Kind.TheVariants.{Flag, Number, Text}
use Rattle.ti_caps.specs.Description.{Description, flag_at, number_at, text_at}
use Rattle.ti_caps.specs.Table.{or_else}
use Rattle.ti_source.specs.declared.reading.statement.FieldValue.{FieldValue}
use Rattle.ti_source.specs.declared.reading.statement.FieldValue.TheVariants as field_value
use Rattle.ti_source.specs.declared.reading.statement.Statement.{Statement}
use Rattle.ti_source.specs.Described.{Described}
use Rattle.ti_source.specs.Resolving.Uses.{first_number, first_text, flag_by, flag_in, merged, number_by, number_in, value_of_capability, text_by, text_in}
use Rattle.ti_source.specs.Code.FirstFields.{AreEffective, first_value, flag_value, if_present, number_value, value_in, text_value}
use Rattle.ti_caps.specs.Slots.{positions_of}
use Rattle.ti_source.specs.Code.EntryWalk.{Gathers, StandsFor}

-- the first of the used entries that speaks
first-flag : (us : List Description) (slot : ℕ) → first_value us Flag slot ≡ flag_value (list_any (λ u. flag_at u slot) us)
first-flag [] slot = refl
first-flag (u ∷ us) slot = ap (or_else (flag_value (flag_at u slot))) (first-flag us slot) ∙ by (flag_at u slot)
  where
    by : (b : Bool) → or_else (flag_value b) (flag_value (list_any (λ v. flag_at v slot) us)) ≡ flag_value (b || list_any (λ v. flag_at v slot) us)
    by true = refl
    by false = refl

first-number : (us : List Description) (slot : ℕ) → first_value us Number slot ≡ number_value (first_number slot us)
first-number [] slot = refl
first-number (u ∷ us) slot = ap (or_else (number_value (number_at u slot))) (first-number us slot) ∙ by (number_at u slot)
  where
    by : (o : Option ℕ) → or_else (number_value o) (number_value (first_number slot us)) ≡ number_value (or_else o (first_number slot us))
    by None = refl
    by (Some n) = refl

first-text : (us : List Description) (slot : ℕ) → first_value us Text slot ≡ text_value (first_text slot us)
first-text [] slot = refl
first-text (u ∷ us) slot = ap (or_else (text_value (text_at u slot))) (first-text us slot) ∙ by (text_at u slot)
  where
    by : (o : Option (List ℕ)) → or_else (text_value o) (text_value (first_text slot us)) ≡ text_value (or_else o (first_text slot us))
    by None = refl
    by (Some t) = refl

-- of the entry's own field and theirs what is present
flag-kept : (o : Option FieldValue) (b : Bool) → if_present Flag (or_else o (flag_value b)) ≡ flag_value (flag_by o b)
flag-kept None true = refl
flag-kept None false = refl
flag-kept (Some field_value.Present) b = refl
flag-kept (Some (field_value.Number n)) b = refl
flag-kept (Some (field_value.Text t)) b = refl
flag-kept (Some field_value.Cancelled) b = refl

number-kept : (o : Option FieldValue) (n : Option ℕ) → if_present Number (or_else o (number_value n)) ≡ number_value (number_by o n)
number-kept None None = refl
number-kept None (Some n) = refl
number-kept (Some field_value.Present) n = refl
number-kept (Some (field_value.Number m)) n = refl
number-kept (Some (field_value.Text t)) n = refl
number-kept (Some field_value.Cancelled) n = refl

text-kept : (o : Option FieldValue) (t : Option (List ℕ)) → if_present Text (or_else o (text_value t)) ≡ text_value (text_by o t)
text-kept None None = refl
text-kept None (Some t) = refl
text-kept (Some field_value.Present) t = refl
text-kept (Some (field_value.Number m)) t = refl
text-kept (Some (field_value.Text s)) t = refl
text-kept (Some field_value.Cancelled) t = refl

-- and back
flag-back : (b : Bool) → flag_by (flag_value b) false ≡ b
flag-back true = refl
flag-back false = refl

number-back : (o : Option ℕ) → number_by (number_value o) None ≡ o
number-back None = refl
number-back (Some n) = refl

text-back : (o : Option (List ℕ)) → text_by (text_value o) None ≡ o
text-back None = refl
text-back (Some t) = refl

pub map-range : {A : Type 0} → (f g : ℕ → A) (a n : ℕ) → ((j : ℕ) → j < a + n → f j ≡ g j) → map f (range_with_len a n) ≡ map g (range_with_len a n)
map-range f g a zero e = refl
map-range f g a (suc n) e =
    ap (λ x. x ∷ map f (range_with_len (a + 1) n)) (e a (omega arith)) ∙ ap (λ xs. g a ∷ xs) (map-range f g (a + 1) n (λ j lt. e j (omega arith)))

flag-present : (d : Described) (used : List Description) (slot : ℕ) → if_present Flag (or_else (value_of_capability Flag slot d.statements) (first_value used Flag slot)) ≡ flag_value (flag_in d.statements used slot)
flag-present d used slot =
    ap (λ o. if_present Flag (or_else (value_of_capability Flag slot d.statements) o)) (first-flag used slot)
    ∙ flag-kept (value_of_capability Flag slot d.statements) (list_any (λ u. flag_at u slot) used)

number-present : (d : Described) (used : List Description) (slot : ℕ) → if_present Number (or_else (value_of_capability Number slot d.statements) (first_value used Number slot)) ≡ number_value (number_in d.statements used slot)
number-present d used slot =
    ap (λ o. if_present Number (or_else (value_of_capability Number slot d.statements) o)) (first-number used slot)
    ∙ number-kept (value_of_capability Number slot d.statements) (first_number slot used)

text-present : (d : Described) (used : List Description) (slot : ℕ) → if_present Text (or_else (value_of_capability Text slot d.statements) (first_value used Text slot)) ≡ text_value (text_in d.statements used slot)
text-present d used slot =
    ap (λ o. if_present Text (or_else (value_of_capability Text slot d.statements) o)) (first-text used slot)
    ∙ text-kept (value_of_capability Text slot d.statements) (first_text slot used)

-- what a resolved entry has
pub merged-says : (d : Described) (used : List Description) (kind : Kind) (slot : ℕ) → slot < positions_of kind → if_present kind (or_else (value_of_capability kind slot d.statements) (first_value used kind slot)) ≡ value_in (merged d used) kind slot
unfolding merged
merged-says d used Flag slot small =
    flag-present d used slot ∙ ap flag_value (sym (get_or-map-range_with_len (flag_in d.statements used) 0 64 slot slot false small (omega arith)))
merged-says d used Number slot small =
    number-present d used slot ∙ ap number_value (sym (get_or-map-range_with_len (number_in d.statements used) 0 64 slot slot None small (omega arith)))
merged-says d used Text slot small =
    text-present d used slot ∙ ap text_value (sym (get_or-map-range_with_len (text_in d.statements used) 0 512 slot slot None small (omega arith)))

-- the fields that take effect stand for the resolved entry
pub stands-for : (entries : List Described) (d : Described) (all some : List Statement) → (g : Gathers entries d all) → AreEffective all some → StandsFor d.names some (merged d g.used)
unfolding merged
stands-for entries d all some g counts = record {
  says = λ kind slot small. counts kind slot small ∙ g.says kind slot small ∙ merged-says d g.used kind slot small;
  whole = λ i. record {
    names = d.names;
    flags = map-range (flag_in some []) (flag_in d.statements g.used) 0 64 (λ j lt. ap (λ o. flag_by o false) (flag j lt) ∙ flag-back (flag_in d.statements g.used j)) i;
    numbers = map-range (number_in some []) (number_in d.statements g.used) 0 64 (λ j lt. ap (λ o. number_by o None) (number j lt) ∙ number-back (number_in d.statements g.used j)) i;
    texts = map-range (text_in some []) (text_in d.statements g.used) 0 512 (λ j lt. ap (λ o. text_by o None) (text j lt) ∙ text-back (text_in d.statements g.used j)) i;
  };
}
  where
    flag : (slot : ℕ) → slot < 64 → value_of_capability Flag slot some ≡ flag_value (flag_in d.statements g.used slot)
    flag slot small = counts Flag slot small ∙ g.says Flag slot small ∙ flag-present d g.used slot

    number : (slot : ℕ) → slot < 64 → value_of_capability Number slot some ≡ number_value (number_in d.statements g.used slot)
    number slot small = counts Number slot small ∙ g.says Number slot small ∙ number-present d g.used slot

    text : (slot : ℕ) → slot < 512 → value_of_capability Text slot some ≡ text_value (text_in d.statements g.used slot)
    text slot small = counts Text slot small ∙ g.says Text slot small ∙ text-present d g.used slot
