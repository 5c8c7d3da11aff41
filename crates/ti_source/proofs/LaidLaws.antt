-- A field over those after it.
use Rattle.std.proofs.Common.{◌≡◌, ◌∙◌, ℕ, zero, suc, ◌+◌, ◌<◌, ◌≤◌, Bool, true, false, eqb, List, [], ◌∷◌, Some, None, map, set, replicate, length, drop, refl, ap, sym, arith}
use Rattle.std.specs.List.{range_with_len}
use Rattle.std.proofs.lemmas.Bool.{eqb-true, eq-eqb}
use Rattle.std.proofs.lemmas.List.{drop_all}
use Rattle.ti_caps.specs.declared.table.Kind.{Kind}
use Rattle.ti_caps.specs.declared.table.Kind.TheVariants.{Flag, Number, Text}
use Rattle.ti_caps.specs.Description.{Description, bare}
use Rattle.ti_source.specs.declared.reading.statement.FieldValue.{FieldValue}
use Rattle.ti_source.specs.declared.reading.statement.Statement.{Statement}
use Rattle.ti_source.specs.Resolving.Uses.{flag_by, flag_in, merged, number_by, number_in, text_by, text_in}
use Rattle.ti_caps.specs.Slots.{positions_of}
use Rattle.ti_source.specs.Code.Laid.{IsLaid}
use Rattle.ti_source.specs.Code.EntryWalk.{of_fields}

-- two functions that agree on some numbers
range-same : {A : Type 0} → (f g : ℕ → A) (k n : ℕ) → ((j : ℕ) → k ≤ j → j < k + n → g j ≡ f j) → map g (range_with_len k n) ≡ map f (range_with_len k n)
range-same f g k zero same = refl
range-same f g k (suc n) same =
    rw (same k (omega arith) (omega arith), range-same f g (k + 1) n (λ j more less. same j (omega arith) (omega arith))) refl

-- two functions that agree but at one number
range-set : {A : Type 0} → (f g : ℕ → A) (k n i at : ℕ) (v : A) → at ≡ k + i → g at ≡ v → ((j : ℕ) → (j ≡ at → ⊥) → g j ≡ f j) → map g (range_with_len k n) ≡ set (map f (range_with_len k n)) i v
range-set f g k zero i at v is here there = refl
range-set f g k (suc n) zero at v is here there =
    let first : at ≡ k = omega arith in
    rw (ap g (sym first) ∙ here, range-same f g (k + 1) n (λ j more less. there j (λ e. absurd (omega arith)))) refl
range-set f g k (suc n) (suc i) at v is here there =
    rw (there k (λ e. absurd (omega arith)), range-set f g (k + 1) n i at v (omega arith) here there) refl

abbrev says : Kind → ℕ → FieldValue → Statement
says kind slot v = record { kind = kind; slot = record { 0 = slot }; field_value = v }

unlike : (i j : ℕ) → (j ≡ i → ⊥) → eqb i j ≡ false
unlike i j other = by (eqb i j) refl
  where
    by : (t : Bool) → eqb i j ≡ t → t ≡ false
    by true e = absurd (other (sym (eqb-true i j e)))
    by false e = refl

alike : (i : ℕ) → eqb i i ≡ true
alike i = eq-eqb i i refl

flags-laid : (n slot : ℕ) (v : FieldValue) (further : List Statement) → map (flag_in (says Flag slot v ∷ further) []) (range_with_len 0 n) ≡ set (map (flag_in further []) (range_with_len 0 n)) slot (flag_by (Some v) false)
flags-laid n slot v further =
    range-set (flag_in further []) (flag_in (says Flag slot v ∷ further) []) 0 n slot slot (flag_by (Some v) false) (omega arith) (rw (alike slot) refl) (λ j other. rw (unlike slot j other) refl)

numbers-laid : (n slot : ℕ) (v : FieldValue) (further : List Statement) → map (number_in (says Number slot v ∷ further) []) (range_with_len 0 n) ≡ set (map (number_in further []) (range_with_len 0 n)) slot (number_by (Some v) None)
numbers-laid n slot v further =
    range-set (number_in further []) (number_in (says Number slot v ∷ further) []) 0 n slot slot (number_by (Some v) None) (omega arith) (rw (alike slot) refl) (λ j other. rw (unlike slot j other) refl)

texts-laid : (n slot : ℕ) (v : FieldValue) (further : List Statement) → map (text_in (says Text slot v ∷ further) []) (range_with_len 0 n) ≡ set (map (text_in further []) (range_with_len 0 n)) slot (text_by (Some v) None)
texts-laid n slot v further =
    range-set (text_in further []) (text_in (says Text slot v ∷ further) []) 0 n slot slot (text_by (Some v) None) (omega arith) (rw (alike slot) refl) (λ j other. rw (unlike slot j other) refl)

-- the entry of fields, where each kind has so many positions
abbrev sized : ℕ → ℕ → List ℕ → List Statement → Description
sized n m names fields = record {
  names = names;
  flags = map (flag_in fields []) (range_with_len 0 n);
  numbers = map (number_in fields []) (range_with_len 0 n);
  texts = map (text_in fields []) (range_with_len 0 m);
}

sized-flag : (n m : ℕ) (names : List ℕ) (further : List Statement) (slot : ℕ) (v : FieldValue) → record (sized n m names further) { flags = set (map (flag_in further []) (range_with_len 0 n)) slot (flag_by (Some v) false) } ≡ sized n m names (says Flag slot v ∷ further)
sized-flag n m names further slot v = ap (λ fs. record (sized n m names further) { flags = fs }) (sym (flags-laid n slot v further))

sized-number : (n m : ℕ) (names : List ℕ) (further : List Statement) (slot : ℕ) (v : FieldValue) → record (sized n m names further) { numbers = set (map (number_in further []) (range_with_len 0 n)) slot (number_by (Some v) None) } ≡ sized n m names (says Number slot v ∷ further)
sized-number n m names further slot v = ap (λ ns. record (sized n m names further) { numbers = ns }) (sym (numbers-laid n slot v further))

sized-text : (n m : ℕ) (names : List ℕ) (further : List Statement) (slot : ℕ) (v : FieldValue) → record (sized n m names further) { texts = set (map (text_in further []) (range_with_len 0 m)) slot (text_by (Some v) None) } ≡ sized n m names (says Text slot v ∷ further)
sized-text n m names further slot v = ap (λ ts. record (sized n m names further) { texts = ts }) (sym (texts-laid m slot v further))

pub flag-laid : (s : Statement) (d e : Description) → s.kind ≡ Flag → e ≡ record d { flags = set d.flags s.slot.0 (flag_by (Some s.field_value) false) } → IsLaid s d e
unfolding merged
flag-laid s d e kind after names further before =
    after ∙ ap (λ (x : Description). record x { flags = set x.flags s.slot.0 (flag_by (Some s.field_value) false) }) before
    ∙ sized-flag 64 512 names further s.slot.0 s.field_value ∙ ap (λ k. sized 64 512 names (says k s.slot.0 s.field_value ∷ further)) (sym kind)

pub number-laid : (s : Statement) (d e : Description) → s.kind ≡ Number → e ≡ record d { numbers = set d.numbers s.slot.0 (number_by (Some s.field_value) None) } → IsLaid s d e
unfolding merged
number-laid s d e kind after names further before =
    after ∙ ap (λ (x : Description). record x { numbers = set x.numbers s.slot.0 (number_by (Some s.field_value) None) }) before
    ∙ sized-number 64 512 names further s.slot.0 s.field_value ∙ ap (λ k. sized 64 512 names (says k s.slot.0 s.field_value ∷ further)) (sym kind)

pub text-laid : (s : Statement) (d e : Description) → s.kind ≡ Text → e ≡ record d { texts = set d.texts s.slot.0 (text_by (Some s.field_value) None) } → IsLaid s d e
unfolding merged
text-laid s d e kind after names further before =
    after ∙ ap (λ (x : Description). record x { texts = set x.texts s.slot.0 (text_by (Some s.field_value) None) }) before
    ∙ sized-text 64 512 names further s.slot.0 s.field_value ∙ ap (λ k. sized 64 512 names (says k s.slot.0 s.field_value ∷ further)) (sym kind)

-- a field at no position changes nothing
far : (n m : ℕ) (names : List ℕ) (further : List Statement) (kind : Kind) (slot : ℕ) (v : FieldValue) → (kind ≡ Text → m ≤ slot) → ((kind ≡ Text → ⊥) → n ≤ slot) → sized n m names further ≡ sized n m names (says kind slot v ∷ further)
far n m names further Flag slot v text other =
    let out : n ≤ slot = other (λ e. cc) in
    ap (λ fs. record (sized n m names further) { flags = fs }) (sym (range-same (flag_in further []) (flag_in (says Flag slot v ∷ further) []) 0 n (λ j low high. rw (unlike slot j (λ e. absurd (omega arith))) refl)))
far n m names further Number slot v text other =
    let out : n ≤ slot = other (λ e. cc) in
    ap (λ ns. record (sized n m names further) { numbers = ns }) (sym (range-same (number_in further []) (number_in (says Number slot v ∷ further) []) 0 n (λ j low high. rw (unlike slot j (λ e. absurd (omega arith))) refl)))
far n m names further Text slot v text other =
    let out : m ≤ slot = text refl in
    ap (λ ts. record (sized n m names further) { texts = ts }) (sym (range-same (text_in further []) (text_in (says Text slot v ∷ further) []) 0 m (λ j low high. rw (unlike slot j (λ e. absurd (omega arith))) refl)))

pub far-laid : (s : Statement) (d e : Description) → positions_of s.kind ≤ s.slot.0 → e ≡ d → IsLaid s d e
unfolding merged
far-laid s d e out same names further before = same ∙ before ∙ by s.kind out
  where
    by : (kind : Kind) → positions_of kind ≤ s.slot.0 → sized 64 512 names further ≡ sized 64 512 names (says kind s.slot.0 s.field_value ∷ further)
    by Flag out = far 64 512 names further Flag s.slot.0 s.field_value (λ e. cc) (λ other. out)
    by Number out = far 64 512 names further Number s.slot.0 s.field_value (λ e. cc) (λ other. out)
    by Text out = far 64 512 names further Text s.slot.0 s.field_value (λ e. out) (λ other. absurd (other refl))

constant : {A : Type 0} → (x : A) (f : ℕ → A) (k n : ℕ) → ((j : ℕ) → f j ≡ x) → replicate n x ≡ map f (range_with_len k n)
constant x f k zero same = refl
constant x f k (suc n) same = rw (same k, ← constant x f (k + 1) n same) refl

-- the entry of no fields
pub none-laid : (names : List ℕ) (fields : List Statement) (d : Description) (n : ℕ) → d ≡ bare names → n ≡ length fields → d ≡ merged (of_fields names (drop n fields)) []
unfolding merged
none-laid names fields d n is all =
    is ∙ by 64 512 ∙ ap (λ fs. sized 64 512 names fs) (sym (drop_all n fields (omega arith)))
  where
    by : (n m : ℕ) → record { names = names; flags = replicate n false; numbers = replicate n None; texts = replicate m None } ≡ sized n m names []
    by n m =
        let f = constant false (flag_in [] []) 0 n (λ j. refl) in
        let g = constant None (number_in [] []) 0 n (λ j. refl) in
        let h = constant None (text_in [] []) 0 m (λ j. refl) in
        λ i. record { names = names; flags = f i; numbers = g i; texts = h i }
