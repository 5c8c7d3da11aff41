-- The lines of a printed text have the statements of what has a name, one after another.
use Rattle.std.proofs.Common.{◌≡◌, ◌∙◌, ℕ, suc, ◌≤◌, ◌<◌, Bool, true, false, ◌&&◌, ◌||◌, eqb, List, [], ◌∷◌, ◌++◌, Option, Some, None, IfSome, refl, ap, sym, subst, append_assoc, append-nil, arith}
use Rattle.std.specs.List.{list_all, list_any}
use Rattle.std.proofs.lemmas.Bool.Decides.{nat_tests}
use Rattle.std.proofs.lemmas.Grind.{flat_map-append}
use Rattle.std.proofs.lemmas.List.Folds.{list_any-append}
use Rattle.ti_caps.specs.declared.table.Kind.{Kind}
use Rattle.ti_caps.specs.Table.{name_at, same_kind}
use Rattle.ti_source.specs.declared.reading.statement.FieldValue.{FieldValue}
use Rattle.ti_source.specs.declared.reading.statement.Statement.{Statement}
use Rattle.ti_source.specs.Reading.SourceLine.{lines}
use Rattle.ti_source.specs.Printing.Print.{field_line, lines_from}
use Rattle.ti_source.specs.Reading.Sources as source
use Rattle.ti_source.specs.Reading.Sources.{NumberedField, concerns, continuing, each_after, each_beside, field_fault, is_given, meaning, meant_use, next_line, note, numbered, numbered_fields, uses}
use Rattle.ti_source.specs.Code.Lines.{lines_of_fields}
use Rattle.ti_source.proofs.BlockLaws.{continuing-both, lines-both}
use Rattle.ti_source.proofs.MeaningLaws.{each-append, given-all}
use Rattle.ti_source.proofs.TableBytesLaws.{both, is_graphic}
use Rattle.ti_source.proofs.LinesBackLaws.{ended, lines-ended, no_feed}
use Rattle.ti_source.proofs.FieldsBackLaws.{IsValue, line-of-value}
use Rattle.ti_source.proofs.FormsBackLaws.{AreFound, Fits, IsPrinted, is-printed, value_of}

abbrev pub statement : Kind → ℕ → FieldValue → Statement
statement kind slot s = record { kind = kind; slot = record { 0 = slot }; field_value = s }

-- the line and the statement of what a capability has, by its name
abbrev pub value_text : Option (List ℕ) → Option FieldValue → List ℕ
value_text name None = []
value_text name (Some s) = field_line name (value_of s)

abbrev pub value_line : Kind → ℕ → Option FieldValue → List ℕ
value_line kind slot o = value_text (name_at kind slot) o

abbrev pub named_statement : Kind → ℕ → Option (List ℕ) → Option FieldValue → List Statement
named_statement kind slot None o = []
named_statement kind slot (Some name) None = []
named_statement kind slot (Some name) (Some s) = statement kind slot s ∷ []

abbrev pub statements_from : Kind → ℕ → List (Option FieldValue) → List Statement
statements_from kind k [] = []
statements_from kind k (o ∷ os) = named_statement kind k (name_at kind k) o ++ statements_from kind (suc k) os

abbrev pub AllFit : Kind → List (Option FieldValue) → Type 0
AllFit kind [] = Unit {0}
AllFit kind (o ∷ os) = IfSome o (Fits kind) × AllFit kind os

-- fields without a fault or a note, of which these are the statements
pub record Holds (fs : List NumberedField) (ss : List Statement) : Type 0 where
  pub statements : each_beside source.statement fs ≡ ss
  pub notes : each_beside note fs ≡ []
  pub faults : each_beside field_fault fs ≡ []
  pub uses : uses fs ≡ []

one-line : (n slot : ℕ) (kind : Kind) (s : FieldValue) (name : List ℕ) (fs : List NumberedField) (ss : List Statement) → IsPrinted kind slot s name → list_any (concerns kind slot) ss ≡ false → Holds fs ss → Holds (fs ++ numbered_fields n ((9 ∷ (name ++ value_of s)) ∷ [] ∷ [])) (ss ++ statement kind slot s ∷ [])
unfolding meaning
one-line n slot kind s name fs ss is fresh h =
    let xs = numbered_fields n ((9 ∷ (name ++ value_of s)) ∷ [] ∷ []) in
    let given : is_given kind slot fs ≡ false = sym (given-all kind slot fs) ∙ ap (list_any (concerns kind slot)) h.statements ∙ fresh in
    let statements : each_after source.statement fs xs ≡ statement kind slot s ∷ [] = rw (is.means, given, is.kept) refl in
    let notes : each_after note fs xs ≡ [] = rw (is.means, given, is.small) refl in
    let faults : each_after field_fault fs xs ≡ [] = rw is.means refl in
    let own : uses xs ≡ [] = rw is.means refl in
    record {
      statements = each-append source.statement [] fs xs ∙ (λ i. h.statements i ++ statements i);
      notes = each-append note [] fs xs ∙ (λ i. h.notes i ++ notes i);
      faults = each-append field_fault [] fs xs ∙ (λ i. h.faults i ++ faults i);
      uses = flat_map-append (λ f. meant_use (meaning f.form)) fs xs ∙ (λ i. h.uses i ++ own i);
    }

graphic-no_feed : (b : ℕ) → is_graphic b ≡ true → no_feed b ≡ true
graphic-no_feed b e = grind (arith, nat_tests)

no-feeds : (v : List ℕ) → list_all is_graphic v ≡ true → list_all no_feed v ≡ true
no-feeds [] e = refl
no-feeds (b ∷ bs) e =
    let parts = both (is_graphic b) (list_all is_graphic bs) e in
    rw (graphic-no_feed b parts.0) (no-feeds bs parts.1)

-- lines of a text are taken, each of which continues an entry; the fields of the entry and of these lines have these
-- statements
pub record Goes (n : ℕ) (text rest : List ℕ) (fs : List NumberedField) (ss : List Statement) : Type 0 where
  pub line : ℕ
  pub taken : List (ℕ × List (List ℕ))
  pub cut : numbered n (lines text) ≡ lines_of_fields taken ++ numbered line (lines rest)
  pub holds : Holds (fs ++ continuing (lines_of_fields taken)) ss

pub Goes-none : (n : ℕ) (text rest : List ℕ) (fs : List NumberedField) (ss : List Statement) → text ≡ rest → Holds fs ss → Goes n text rest fs ss
Goes-none n text rest fs ss same h = record {
  line = n;
  taken = [];
  cut = ap (λ x. numbered n (lines x)) same;
  holds = subst (λ x. Holds x ss) (sym (append-nil fs)) h;
}

pub Goes-then : (n : ℕ) (text mid rest : List ℕ) (fs : List NumberedField) (ss st : List Statement) (one : Goes n text mid fs ss) → Goes one.line mid rest (fs ++ continuing (lines_of_fields one.taken)) st → Goes n text rest fs st
Goes-then n text mid rest fs ss st one two = record {
  line = two.line;
  taken = one.taken ++ two.taken;
  cut = one.cut ∙ ap (λ x. lines_of_fields one.taken ++ x) two.cut ∙ sym (append_assoc (lines_of_fields one.taken) (lines_of_fields two.taken) (numbered two.line (lines rest))) ∙ ap (λ x. x ++ numbered two.line (lines rest)) (sym (lines-both one.taken two.taken));
  holds = subst (λ x. Holds x st) (append_assoc fs (continuing (lines_of_fields one.taken)) (continuing (lines_of_fields two.taken)) ∙ ap (λ x. fs ++ x) (sym (continuing-both one.taken two.taken))) two.holds;
}

Goes-line : (n : ℕ) (v rest : List ℕ) (fs : List NumberedField) (ss : List Statement) → IsValue v → list_all no_feed (9 ∷ v) ≡ true → Holds (fs ++ numbered_fields n ((9 ∷ v) ∷ [] ∷ [])) ss → Goes n (ended (9 ∷ v) rest) rest fs ss
Goes-line n v rest fs ss is plain h = record {
  line = next_line n;
  taken = (n, (9 ∷ v) ∷ [] ∷ []) ∷ [];
  cut = ap (numbered n) (lines-ended (9 ∷ v) rest plain) ∙ ap (λ l. (n, l) ∷ numbered (next_line n) (lines rest)) (line-of-value v is);
  holds = subst (λ x. Holds (fs ++ x) ss) (sym (append-nil (numbered_fields n ((9 ∷ v) ∷ [] ∷ [])))) h;
}

field-ended : (name value rest : List ℕ) → field_line (Some name) value ++ rest ≡ ended (9 ∷ (name ++ value)) rest
field-ended name value rest =
    ap (λ xs. 9 ∷ xs) (append_assoc name (value ++ 44 ∷ 10 ∷ []) rest ∙ ap (λ xs. name ++ xs) (append_assoc value (44 ∷ 10 ∷ []) rest) ∙ sym (append_assoc name value (44 ∷ 10 ∷ rest)))

one : AreFound → (n k : ℕ) (kind : Kind) (o : Option FieldValue) (name : Option (List ℕ)) (fs : List NumberedField) (ss : List Statement) (rest : List ℕ) → name_at kind k ≡ name → IfSome o (Fits kind) → list_any (concerns kind k) ss ≡ false → Holds fs ss → Goes n (value_text name o ++ rest) rest fs (ss ++ named_statement kind k name o)
one table n k kind None None fs ss rest at fits fresh h = Goes-none n rest rest fs (ss ++ []) refl (subst (Holds fs) (sym (append-nil ss)) h)
one table n k kind None (Some name) fs ss rest at fits fresh h = Goes-none n rest rest fs (ss ++ []) refl (subst (Holds fs) (sym (append-nil ss)) h)
one table n k kind (Some s) None fs ss rest at fits fresh h = Goes-none n rest rest fs (ss ++ []) refl (subst (Holds fs) (sym (append-nil ss)) h)
one table n k kind (Some s) (Some name) fs ss rest at fits fresh h =
    let is = is-printed table kind k s name at fits in
    let goes = Goes-line n (name ++ value_of s) rest fs (ss ++ statement kind k s ∷ []) is.value (no-feeds (name ++ value_of s) is.value.graphic) (one-line n k kind s name fs ss is fresh h) in
    subst (λ x. Goes n x rest fs (ss ++ statement kind k s ∷ [])) (sym (field-ended name (value_of s) rest)) goes

other-index : (kind : Kind) (k j : ℕ) (name : Option (List ℕ)) (o : Option FieldValue) → k < j → list_any (concerns kind j) (named_statement kind k name o) ≡ false
other-index kind k j None o lt = refl
other-index kind k j (Some name) None lt = refl
other-index kind k j (Some name) (Some s) lt = let other : eqb k j ≡ false = grind (arith, nat_tests) in rw other (by (same_kind kind kind))
  where
    by : (t : Bool) → ((t && false) || false) ≡ false
    by true = refl
    by false = refl

-- no statement speaks of these capabilities from a place on
abbrev pub IsFresh : Kind → ℕ → List Statement → Type 0
IsFresh kind k ss = (j : ℕ) → k ≤ j → list_any (concerns kind j) ss ≡ false

still-fresh : (kind : Kind) (k : ℕ) (name : Option (List ℕ)) (o : Option FieldValue) (ss : List Statement) → IsFresh kind k ss → IsFresh kind (suc k) (ss ++ named_statement kind k name o)
still-fresh kind k name o ss fresh j le =
    list_any-append (concerns kind j) ss (named_statement kind k name o) ∙ rw (fresh j (omega arith), other-index kind k j name o (omega arith)) refl

-- the lines of one kind
pub goes-on : AreFound → (kind : Kind) (os : List (Option FieldValue)) (n k : ℕ) (fs : List NumberedField) (ss : List Statement) (rest : List ℕ) → AllFit kind os → IsFresh kind k ss → Holds fs ss → Goes n (lines_from (value_line kind) k os ++ rest) rest fs (ss ++ statements_from kind k os)
goes-on table kind [] n k fs ss rest fits fresh h = Goes-none n rest rest fs (ss ++ []) refl (subst (Holds fs) (sym (append-nil ss)) h)
goes-on table kind (o ∷ os) n k fs ss rest fits fresh h =
    let name = name_at kind k in
    let added = named_statement kind k name o in
    let more = lines_from (value_line kind) (suc k) os in
    let first = one table n k kind o name fs ss (more ++ rest) refl fits.0 (fresh k (omega arith)) h in
    let others = goes-on table kind os first.line (suc k) (fs ++ continuing (lines_of_fields first.taken)) (ss ++ added) rest fits.1 (still-fresh kind k name o ss fresh) first.holds in
    let both-are = Goes-then n (value_line kind k o ++ (more ++ rest)) (more ++ rest) rest fs (ss ++ added) ((ss ++ added) ++ statements_from kind (suc k) os) first others in
    subst (λ x. Goes n x rest fs (ss ++ (added ++ statements_from kind (suc k) os))) (sym (append_assoc (value_line kind k o) more rest))
    (subst (λ x. Goes n (value_line kind k o ++ (more ++ rest)) rest fs x) (append_assoc ss added (statements_from kind (suc k) os)) both-are)

-- the statements of one kind speak of no other
pub of-other-kind : (kind other : Kind) (k j : ℕ) (os : List (Option FieldValue)) → same_kind kind other ≡ false → list_any (concerns other j) (statements_from kind k os) ≡ false
of-other-kind kind other k j [] e = refl
of-other-kind kind other k j (o ∷ os) e =
    list_any-append (concerns other j) (named_statement kind k (name_at kind k) o) (statements_from kind (suc k) os) ∙ rw (here (name_at kind k) o, of-other-kind kind other (suc k) j os e) refl
  where
    here : (name : Option (List ℕ)) (p : Option FieldValue) → list_any (concerns other j) (named_statement kind k name p) ≡ false
    here None p = refl
    here (Some name) None = refl
    here (Some name) (Some s) = rw e refl
