-- What the fields of an entry mean beside those before them.
use Rattle.std.proofs.Common.{◌≡◌, ◌∙◌, ℕ, Bool, true, false, ◌&&◌, ◌||◌, eqb, List, [], ◌∷◌, ◌++◌, refl, ap, sym, append_assoc, append-nil}
use Rattle.std.specs.List.{list_any}
use Rattle.std.proofs.lemmas.Bool.{eqb-true, and_parts}
use Rattle.std.proofs.lemmas.Grind.{flat_map-append}
use Rattle.std.proofs.lemmas.List.Folds.{list_any-append}
use Rattle.ti_caps.specs.declared.table.Kind.{Kind}
use Rattle.ti_caps.specs.declared.table.Kind.TheVariants.{Flag, Number, Text}
use Rattle.ti_caps.specs.Table.{same_kind}
use Rattle.ti_source.specs.declared.note.Note.{Note}
use Rattle.ti_source.specs.declared.reading.statement.Statement.{Statement}
use Rattle.ti_source.specs.Reading.Sources.{NumberedField, Meaning, Silent, Doubtful, States, Numberless, Uses, meaning, each_after, each_beside, means_one, is_given, meant_statement, statement, note, meant_use, uses, concerns}
use Rattle.ti_source.specs.Code.OpenEntry.{OpenEntry, open_entry, with_meant}

-- ---- lists

pub each-more : {A B : Type 0} → (f : List A → A → List B) (before xs : List A) (x : A) → each_after f before (xs ++ x ∷ []) ≡ each_after f before xs ++ f (before ++ xs) x
each-more f before [] x = append-nil (f before x) ∙ ap (λ b. f b x) (sym (append-nil before))
each-more f before (y ∷ ys) x =
    ap (λ r. f before y ++ r) (each-more f (before ++ y ∷ []) ys x ∙ ap (λ b. each_after f (before ++ y ∷ []) ys ++ f b x) (append_assoc before (y ∷ []) ys))
    ∙ sym (append_assoc (f before y) (each_after f (before ++ y ∷ []) ys) (f (before ++ y ∷ ys) x))

pub each-append : {A B : Type 0} → (f : List A → A → List B) (before xs ys : List A) → each_after f before (xs ++ ys) ≡ each_after f before xs ++ each_after f (before ++ xs) ys
each-append f before [] ys = ap (λ b. each_after f b ys) (sym (append-nil before))
each-append f before (x ∷ xs) ys =
    ap (λ r. f before x ++ r) (each-append f (before ++ x ∷ []) xs ys ∙ ap (λ b. each_after f (before ++ x ∷ []) xs ++ each_after f b ys) (append_assoc before (x ∷ []) xs))
    ∙ sym (append_assoc (f before x) (each_after f (before ++ x ∷ []) xs) (each_after f (before ++ x ∷ xs) ys))

-- ---- which capabilities fields speak of

same-kind : (a b : Kind) → same_kind a b ≡ true → a ≡ b
same-kind Flag Flag e = refl
same-kind Number Number e = refl
same-kind Text Text e = refl
same-kind Flag Number e = cc
same-kind Flag Text e = cc
same-kind Number Flag e = cc
same-kind Number Text e = cc
same-kind Text Flag e = cc
same-kind Text Number e = cc

or-false : (a : Bool) → (a || false) ≡ a
or-false true = refl
or-false false = refl

or-assoc : (a b c : Bool) → ((a || b) || c) ≡ (a || (b || c))
or-assoc true b c = refl
or-assoc false b c = refl

-- a field that counts and one that speaks again leave the same capabilities given
given-one : (kind : Kind) (slot : ℕ) (before : List NumberedField) (m : Meaning) → (is_given kind slot before || list_any (concerns kind slot) (meant_statement before m)) ≡ (is_given kind slot before || means_one kind slot m)
given-one kind slot before Silent = refl
given-one kind slot before (Doubtful cause name) = refl
given-one kind slot before Numberless = refl
given-one kind slot before (Uses other) = refl
given-one kind slot before (States name k s what) = by (is_given k s before) (same_kind k kind && eqb s slot) refl refl
  where
    by : (t same : Bool) → is_given k s before ≡ t → (same_kind k kind && eqb s slot) ≡ same → (is_given kind slot before || list_any (concerns kind slot) (meant_statement before (States name k s what))) ≡ (is_given kind slot before || means_one kind slot (States name k s what))
    by false same e p = rw e (ap (λ x. is_given kind slot before || x) (or-false (same_kind k kind && eqb s slot)))
    by true false e p = rw (e, p) refl
    by true true e p =
        let parts = and_parts (same_kind k kind) (eqb s slot) p in
        let there : is_given kind slot before ≡ true = ap (λ x. is_given x slot before) (sym (same-kind k kind parts.0)) ∙ ap (λ x. is_given k x before) (sym (eqb-true s slot parts.1)) ∙ e in
        rw (there) refl

given-more : (kind : Kind) (slot : ℕ) (before xs : List NumberedField) → (is_given kind slot before || list_any (concerns kind slot) (each_after statement before xs)) ≡ is_given kind slot (before ++ xs)
given-more kind slot before [] = or-false (is_given kind slot before) ∙ ap (is_given kind slot) (sym (append-nil before))
given-more kind slot before (x ∷ xs) =
    let P = concerns kind slot in
    let Q : NumberedField → Bool = λ f. means_one kind slot (meaning f.form) in
    let rest = each_after statement (before ++ x ∷ []) xs in
    ap (λ t. is_given kind slot before || t) (list_any-append P (statement before x) rest)
    ∙ sym (or-assoc (is_given kind slot before) (list_any P (statement before x)) (list_any P rest))
    ∙ ap (λ t. t || list_any P rest) (given-one kind slot before (meaning x.form) ∙ ap (λ t. is_given kind slot before || t) (sym (or-false (Q x))) ∙ sym (list_any-append Q before (x ∷ [])))
    ∙ given-more kind slot (before ++ x ∷ []) xs
    ∙ ap (is_given kind slot) (append_assoc before (x ∷ []) xs)

-- the statements of fields are about the capabilities that the fields are about
pub given-all : (kind : Kind) (slot : ℕ) (fs : List NumberedField) → list_any (concerns kind slot) (each_beside statement fs) ≡ is_given kind slot fs
given-all kind slot fs = given-more kind slot [] fs

-- ---- one more field

pub uses-more : (fs : List NumberedField) (x : NumberedField) → uses (fs ++ x ∷ []) ≡ uses fs ++ meant_use (meaning x.form)
uses-more fs x = flat_map-append (λ f. meant_use (meaning f.form)) fs (x ∷ []) ∙ ap (λ r. uses fs ++ r) (append-nil (meant_use (meaning x.form)))

abbrev put : List ℕ → List Statement → List (List ℕ) → List Note → OpenEntry
put names ss us ns = record { entry = record { names = names; statements = ss; uses = us }; notes = ns }

pub open_entry-more : (names : List ℕ) (ns : List Note) (fs : List NumberedField) (x : NumberedField) → with_meant fs x.line (meaning x.form) (open_entry names ns fs) ≡ open_entry names ns (fs ++ x ∷ [])
open_entry-more names ns fs x =
    let statements : each_beside statement (fs ++ x ∷ []) ≡ each_beside statement fs ++ statement fs x = each-more statement [] fs x in
    let notes : (ns ++ each_beside note (fs ++ x ∷ [])) ≡ (ns ++ each_beside note fs) ++ note fs x =
    ap (λ r. ns ++ r) (each-more note [] fs x) ∙ sym (append_assoc ns (each_beside note fs) (note fs x)) in
    λ i. put names (sym statements i) (sym (uses-more fs x) i) (sym notes i)
