-- The statements of what has a name, as an entry that is resolved.
use Rattle.std.proofs.Common.{◌≡◌, ◌∙◌, ℕ, zero, suc, ◌+◌, ◌<◌, Bool, true, false, ◌&&◌, ◌||◌, eqb, cond, List, [], ◌∷◌, ◌++◌, map, get_or, Option, Some, None, refl, ap, sym, add-zero, arith}
use Rattle.std.specs.List.{range_with_len, list_any}
use Rattle.std.proofs.lemmas.Bool.Decides.{nat_tests}
use Rattle.ti_caps.specs.declared.table.Kind.{Kind}
use Rattle.ti_caps.specs.declared.table.Kind.TheVariants.{Flag, Number, Text}
use Rattle.ti_caps.specs.Table.{name_at, or_else, same_kind}
use Rattle.ti_caps.specs.Description.{Description}
use Rattle.ti_source.specs.declared.reading.statement.FieldValue.{FieldValue}
use Rattle.ti_source.specs.declared.reading.statement.Statement.{Statement}
use Rattle.ti_source.specs.Printing.Print.{if_named, named_only}
use Rattle.ti_source.specs.Reading.Sources.{concerns}
use Rattle.ti_source.specs.Code.FirstFields.{flag_value, number_value, text_value}
use Rattle.ti_source.specs.Resolving.Uses.{value_of_capability, flag_by, number_by, text_by, flag_in, number_in, text_in, merged}
use Rattle.ti_source.proofs.StatementsBackLaws.{named_statement, statements_from, of-other-kind}

value_of_capability-cond : (t : Bool) (s : FieldValue) (x y : Option FieldValue) → cond t (Some s) (or_else x y) ≡ or_else (cond t (Some s) x) y
value_of_capability-cond true s x y = refl
value_of_capability-cond false s x y = refl

pub value_of_capability-append : (kind : Kind) (j : ℕ) (xs ys : List Statement) → value_of_capability kind j (xs ++ ys) ≡ or_else (value_of_capability kind j xs) (value_of_capability kind j ys)
value_of_capability-append kind j [] ys = refl
value_of_capability-append kind j (x ∷ xs) ys =
    ap (λ o. cond (concerns kind j x) (Some x.field_value) o) (value_of_capability-append kind j xs ys) ∙ value_of_capability-cond (concerns kind j x) x.field_value (value_of_capability kind j xs) (value_of_capability kind j ys)

-- what no statement speaks of
value_of_capability-none : (kind : Kind) (j : ℕ) (ss : List Statement) → list_any (concerns kind j) ss ≡ false → value_of_capability kind j ss ≡ None
value_of_capability-none kind j [] e = refl
value_of_capability-none kind j (s ∷ ss) e = by (concerns kind j s) e (value_of_capability-none kind j ss)
  where
    by : (t : Bool) → (t || list_any (concerns kind j) ss) ≡ false → (list_any (concerns kind j) ss ≡ false → value_of_capability kind j ss ≡ None) → cond t (Some s.field_value) (value_of_capability kind j ss) ≡ None
    by true h rest = cc
    by false h rest = rest h

other-index : (kind : Kind) (k j : ℕ) (name : Option (List ℕ)) (o : Option FieldValue) → eqb k j ≡ false → value_of_capability kind j (named_statement kind k name o) ≡ None
other-index kind k j None o ne = refl
other-index kind k j (Some name) None ne = refl
other-index kind k j (Some name) (Some s) ne = rw ne (by (same_kind kind kind))
  where
    by : (t : Bool) → cond (t && false) (Some s) None ≡ None
    by true = refl
    by false = refl

same-self : (kind : Kind) → same_kind kind kind ≡ true
same-self Flag = refl
same-self Number = refl
same-self Text = refl

eqb-self : (k : ℕ) → eqb k k ≡ true
eqb-self k = grind (arith, nat_tests)

own-index : (kind : Kind) (k : ℕ) (name : Option (List ℕ)) (o : Option FieldValue) → value_of_capability kind k (named_statement kind k name o) ≡ if_named name None o
own-index kind k None o = refl
own-index kind k (Some name) None = refl
own-index kind k (Some name) (Some s) = rw (same-self kind, eqb-self k) refl

below : (kind : Kind) (k j : ℕ) (os : List (Option FieldValue)) → j < k → value_of_capability kind j (statements_from kind k os) ≡ None
below kind k j [] lt = refl
below kind k j (o ∷ os) lt =
    let other : eqb k j ≡ false = grind (arith, nat_tests) in
    value_of_capability-append kind j (named_statement kind k (name_at kind k) o) (statements_from kind (suc k) os)
    ∙ rw (other-index kind k j (name_at kind k) o other, below kind (suc k) j os (omega arith)) refl

pub or-none : (x : Option FieldValue) → or_else x None ≡ x
or-none None = refl
or-none (Some s) = refl

absent : (name : Option (List ℕ)) → if_named {A = Option FieldValue} name None None ≡ None
absent None = refl
absent (Some name) = refl

-- what they say of a place
field_value-at : (kind : Kind) (k j : ℕ) (os : List (Option FieldValue)) → value_of_capability kind (k + j) (statements_from kind k os) ≡ if_named (name_at kind (k + j)) None (get_or os j None)
field_value-at kind k j [] = sym (absent (name_at kind (k + j)))
field_value-at kind k zero (o ∷ os) =
    rw (add-zero) (value_of_capability-append kind k (named_statement kind k (name_at kind k) o) (statements_from kind (suc k) os)
    ∙ ap (or_else (value_of_capability kind k (named_statement kind k (name_at kind k) o))) (below kind (suc k) k os (omega arith))
    ∙ or-none (value_of_capability kind k (named_statement kind k (name_at kind k) o)) ∙ own-index kind k (name_at kind k) o)
field_value-at kind k (suc j) (o ∷ os) =
    let steps : k + suc j ≡ suc k + j = omega arith in
    let other : eqb k (suc k + j) ≡ false = grind (arith, nat_tests) in
    rw steps (value_of_capability-append kind (suc k + j) (named_statement kind k (name_at kind k) o) (statements_from kind (suc k) os)
    ∙ ap (λ x. or_else x (value_of_capability kind (suc k + j) (statements_from kind (suc k) os))) (other-index kind k (suc k + j) (name_at kind k) o other)
    ∙ field_value-at kind (suc k) j os)

field_value-of-index : (kind : Kind) (j : ℕ) (os : List (Option FieldValue)) → value_of_capability kind j (statements_from kind 0 os) ≡ if_named (name_at kind j) None (get_or os j None)
field_value-of-index kind j os =
    let none : 0 + j ≡ j = omega arith in
    ap (λ i. value_of_capability kind i (statements_from kind 0 os)) (sym none) ∙ field_value-at kind 0 j os ∙ ap (λ i. if_named (name_at kind i) None (get_or os j None)) none

abbrev no_value : Option FieldValue
no_value = None

flag-field_value-at : (bs : List Bool) (j : ℕ) → get_or (map flag_value bs) j no_value ≡ flag_value (get_or bs j false)
flag-field_value-at [] j = refl
flag-field_value-at (b ∷ bs) zero = refl
flag-field_value-at (b ∷ bs) (suc j) = flag-field_value-at bs j

number-field_value-at : (ns : List (Option ℕ)) (j : ℕ) → get_or (map number_value ns) j no_value ≡ number_value (get_or ns j None)
number-field_value-at [] j = refl
number-field_value-at (n ∷ ns) zero = refl
number-field_value-at (n ∷ ns) (suc j) = number-field_value-at ns j

text-field_value-at : (ts : List (Option (List ℕ))) (j : ℕ) → get_or (map text_value ts) j no_value ≡ text_value (get_or ts j None)
text-field_value-at [] j = refl
text-field_value-at (t ∷ ts) zero = refl
text-field_value-at (t ∷ ts) (suc j) = text-field_value-at ts j

flag-named : (name : Option (List ℕ)) (b : Bool) → flag_by (if_named name None (flag_value b)) false ≡ if_named name false b
flag-named None b = refl
flag-named (Some name) true = refl
flag-named (Some name) false = refl

number-named : (name : Option (List ℕ)) (o : Option ℕ) → number_by (if_named name None (number_value o)) None ≡ if_named name None o
number-named None o = refl
number-named (Some name) None = refl
number-named (Some name) (Some n) = refl

text-named : (name : Option (List ℕ)) (o : Option (List ℕ)) → text_by (if_named name None (text_value o)) None ≡ if_named name None o
text-named None o = refl
text-named (Some name) None = refl
text-named (Some name) (Some t) = refl

-- the statements of a printed description
abbrev pub all_statements : Description → List Statement
all_statements d =
    (statements_from Flag 0 (map flag_value d.flags) ++ statements_from Number 0 (map number_value d.numbers)) ++ statements_from Text 0 (map text_value d.texts)

three : (x y z : Option FieldValue) (kind : Kind) (j : ℕ) (a b c : List Statement) → value_of_capability kind j a ≡ x → value_of_capability kind j b ≡ y → value_of_capability kind j c ≡ z → value_of_capability kind j ((a ++ b) ++ c) ≡ or_else (or_else x y) z
three x y z kind j a b c p q r =
    value_of_capability-append kind j (a ++ b) c ∙ ap (λ o. or_else o (value_of_capability kind j c)) (value_of_capability-append kind j a b) ∙ rw (p, q, r) refl

none-of : (kind other : Kind) (j : ℕ) (os : List (Option FieldValue)) → same_kind kind other ≡ false → value_of_capability other j (statements_from kind 0 os) ≡ None
none-of kind other j os e = value_of_capability-none other j (statements_from kind 0 os) (of-other-kind kind other 0 j os e)

flag-back : (d : Description) (j : ℕ) → flag_in (all_statements d) [] j ≡ if_named (name_at Flag j) false (get_or d.flags j false)
flag-back d j =
    let fs = map flag_value d.flags in
    let ns = map number_value d.numbers in
    let ts = map text_value d.texts in
    let field_value = if_named (name_at Flag j) None (get_or fs j no_value) in
    let all : value_of_capability Flag j (all_statements d) ≡ field_value =
    three field_value None None Flag j (statements_from Flag 0 fs) (statements_from Number 0 ns) (statements_from Text 0 ts) (field_value-of-index Flag j fs) (none-of Number Flag j ns refl) (none-of Text Flag j ts refl)
    ∙ or-none (or_else field_value None) ∙ or-none field_value in
    ap (λ o. flag_by o false) all ∙ ap (λ o. flag_by (if_named (name_at Flag j) None o) false) (flag-field_value-at d.flags j) ∙ flag-named (name_at Flag j) (get_or d.flags j false)

number-back : (d : Description) (j : ℕ) → number_in (all_statements d) [] j ≡ if_named (name_at Number j) None (get_or d.numbers j None)
number-back d j =
    let fs = map flag_value d.flags in
    let ns = map number_value d.numbers in
    let ts = map text_value d.texts in
    let field_value = if_named (name_at Number j) None (get_or ns j no_value) in
    let all : value_of_capability Number j (all_statements d) ≡ field_value =
    three None field_value None Number j (statements_from Flag 0 fs) (statements_from Number 0 ns) (statements_from Text 0 ts) (none-of Flag Number j fs refl) (field_value-of-index Number j ns) (none-of Text Number j ts refl)
    ∙ or-none field_value in
    ap (λ o. number_by o None) all ∙ ap (λ o. number_by (if_named (name_at Number j) None o) None) (number-field_value-at d.numbers j) ∙ number-named (name_at Number j) (get_or d.numbers j None)

text-back : (d : Description) (j : ℕ) → text_in (all_statements d) [] j ≡ if_named (name_at Text j) None (get_or d.texts j None)
text-back d j =
    let fs = map flag_value d.flags in
    let ns = map number_value d.numbers in
    let ts = map text_value d.texts in
    let all : value_of_capability Text j (all_statements d) ≡ if_named (name_at Text j) None (get_or ts j no_value) =
    three None None (if_named (name_at Text j) None (get_or ts j no_value)) Text j (statements_from Flag 0 fs) (statements_from Number 0 ns) (statements_from Text 0 ts) (none-of Flag Text j fs refl) (none-of Number Text j ns refl) (field_value-of-index Text j ts) in
    ap (λ o. text_by o None) all ∙ ap (λ o. text_by (if_named (name_at Text j) None o) None) (text-field_value-at d.texts j) ∙ text-named (name_at Text j) (get_or d.texts j None)

map-same : {A B : Type 0} → (f g : A → B) (xs : List A) → ((x : A) → f x ≡ g x) → map f xs ≡ map g xs
map-same f g [] e = refl
map-same f g (x ∷ xs) e = ap (λ y. y ∷ map f xs) (e x) ∙ ap (λ ys. g x ∷ ys) (map-same f g xs e)

-- an entry of these statements, which uses none, is the description without its unnamed capabilities
pub merged-back : (d : Description) → merged (record { names = d.names; statements = all_statements d; uses = [] }) [] ≡ named_only d
unfolding merged named_only
merged-back d =
    let flags = map-same (flag_in (all_statements d) []) (λ j. if_named (name_at Flag j) false (get_or d.flags j false)) (range_with_len 0 64) (flag-back d) in
    let numbers = map-same (number_in (all_statements d) []) (λ j. if_named (name_at Number j) None (get_or d.numbers j None)) (range_with_len 0 64) (number-back d) in
    let texts = map-same (text_in (all_statements d) []) (λ j. if_named (name_at Text j) None (get_or d.texts j None)) (range_with_len 0 512) (text-back d) in
    λ i. record { names = d.names; flags = flags i; numbers = numbers i; texts = texts i }
