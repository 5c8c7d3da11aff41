-- A printed text is read again as the description without its unnamed capabilities.
use Rattle.std.proofs.Common.{◌≡◌, ◌∙◌, ℕ, suc, ◌+◌, ◌≤◌, Bool, true, false, not, ◌&&◌, eqb, leb, cond, List, [], ◌∷◌, ◌++◌, take, drop, map, length, get_or, Option, Some, None, IfSome, Ok, bytes_eq, refl, ap, sym, append_assoc, append-nil, arith}
use Rattle.std.specs.List.{list_all, list_any, slice_split, before_first, after_first, prefix_len}
use Rattle.std.proofs.lemmas.Bool.Decides.{nat_tests}
use Rattle.std.proofs.lemmas.List.Folds.{list_any-append}
use Rattle.std.proofs.lemmas.Slice.Eq.{bytes_eq-Decides}
use Rattle.ti_caps.specs.declared.table.Kind.{Kind}
use Rattle.ti_caps.specs.declared.table.Kind.TheVariants.{Flag, Number, Text}
use Rattle.ti_caps.specs.Names.{alternatives, are_names, begins_with_hash, first_name, has_bytes, has_no_blank, is_bar, is_name_byte}
use Rattle.ti_caps.specs.Description.{Description, IsDescription}
use Rattle.ti_source.specs.declared.reading.statement.FieldValue.{FieldValue}
use Rattle.ti_source.specs.Described.{Described}
use Rattle.ti_source.specs.Reading.Escape.{IsText}
use Rattle.ti_source.specs.Reading.Field.{fields, is_blank}
use Rattle.ti_source.specs.Reading.SourceLine.{SourceLine, Skipped, NonAscii, Begins, begins_blank, begins_hash, is_ascii, is_comma, line_of, lines}
use Rattle.ti_source.specs.Resolving.Named.{found_from, has_name}
use Rattle.ti_source.specs.Printing.Print.{flag_line, lines_from, number_line, text_line, named_only, printed}
use Rattle.ti_source.specs.Reading.Sources.{concerns, continuing, each_beside, field_fault, meaning, names_faults, numbered, numbered_fields, source_lines, source_of, unless_faulty}
use Rattle.ti_source.specs.Code.Blocks.{source_after}
use Rattle.ti_source.specs.Code.Lines.{lines_of_fields}
use Rattle.ti_source.specs.Resolving.Uses.{Resolved, more, nothing}
use Rattle.ti_source.specs.Printing.ReadBack.{ReadsBack}
use Rattle.ti_source.proofs.BytesLaws.{has-texts}
use Rattle.ti_source.proofs.TableBytesLaws.{both}
use Rattle.ti_source.proofs.LinesBackLaws.{ended, lines-ended, no-lines, no_feed}
use Rattle.ti_source.proofs.FieldsBackLaws.{not-all-blank}
use Rattle.ti_source.proofs.FormsBackLaws.{AreFound, Fits, drop-one-more, one-first, one-more, take-front}
use Rattle.ti_source.proofs.BlockLaws.{block-is}
use Rattle.ti_source.proofs.StatementsBackLaws.{AllFit, Goes-then, Holds, goes-on, of-other-kind, value_line, statements_from}
use Rattle.ti_source.specs.Code.FirstFields.{flag_value, number_value, text_value}
use Rattle.ti_source.proofs.MergedBackLaws.{all_statements, merged-back}

-- how a line of names begins
record HeadPlain (b : ℕ) : Type 0 where
  hash : eqb b 35 ≡ false
  blank : is_blank b ≡ false

-- what names are
record AreNames (names : List ℕ) : Type 0 where
  letters : list_all is_name_byte names ≡ true
  whole : has_no_blank (first_name names) ≡ true
  plain : begins_with_hash (first_name names) ≡ false

not-true : (t : Bool) → not t ≡ true → t ≡ false
not-true true h = cc
not-true false h = refl

names-are : (names : List ℕ) → are_names names ≡ true → AreNames names
names-are names e =
    let one = both (leb 1 (length names) && leb (length names) 511) (list_all is_name_byte names && (list_all has_bytes (alternatives names) && (has_no_blank (first_name names) && not (begins_with_hash (first_name names))))) e in
    let two = both (list_all is_name_byte names) (list_all has_bytes (alternatives names) && (has_no_blank (first_name names) && not (begins_with_hash (first_name names)))) one.1 in
    let three = both (list_all has_bytes (alternatives names)) (has_no_blank (first_name names) && not (begins_with_hash (first_name names))) two.1 in
    let four = both (has_no_blank (first_name names)) (not (begins_with_hash (first_name names))) three.1 in
    record { letters = two.0; whole = four.0; plain = not-true (begins_with_hash (first_name names)) four.1 }

first-of : (b : ℕ) (bs : List ℕ) → is_bar b ≡ false → (more : List ℕ) × (first_name (b ∷ bs) ≡ b ∷ more)
first-of b bs e =
    let n = prefix_len (λ x. not (is_bar x)) bs in
    let index : prefix_len (λ x. not (is_bar x)) (b ∷ bs) ≡ suc n = rw e (one-first n) in
    (take n bs, ap (λ k. take k (b ∷ bs)) index)

head-plain : (b : ℕ) (bs : List ℕ) → AreNames (b ∷ bs) → HeadPlain b
head-plain b bs is = by (is_bar b) refl
  where
    by : (t : Bool) → is_bar b ≡ t → HeadPlain b
    by true e = record { hash = grind (arith, nat_tests); blank = grind (arith, nat_tests) }
    by false e =
        let first = first-of b bs e in
        let letter : is_name_byte b ≡ true = (both (is_name_byte b) (list_all is_name_byte bs) is.letters).0 in
        let no_hash : eqb b 35 ≡ false = ap begins_with_hash (sym first.1) ∙ is.plain in
        let no_blank : has_no_blank (b ∷ first.0) ≡ true = ap has_no_blank (sym first.1) ∙ is.whole in
        let one : not (eqb b 32) ≡ true = (both (not (eqb b 32)) (has_no_blank first.0) no_blank).0 in
        record { hash = no_hash; blank = grind (arith, nat_tests) }

letter-ascii : (b : ℕ) → is_name_byte b ≡ true → is_ascii b ≡ true
letter-ascii b e = grind (arith, nat_tests)

letter-no_comma : (b : ℕ) → is_name_byte b ≡ true → eqb b 44 ≡ false
letter-no_comma b e = grind (arith, nat_tests)

letter-no_feed : (b : ℕ) → is_name_byte b ≡ true → no_feed b ≡ true
letter-no_feed b e = grind (arith, nat_tests)

all-ascii : (bs : List ℕ) → list_all is_name_byte bs ≡ true → list_all is_ascii (bs ++ 44 ∷ []) ≡ true
all-ascii [] e = refl
all-ascii (b ∷ bs) e =
    let parts = both (is_name_byte b) (list_all is_name_byte bs) e in
    rw (letter-ascii b parts.0) (all-ascii bs parts.1)

all-no_feed : (bs : List ℕ) → list_all is_name_byte bs ≡ true → list_all no_feed bs ≡ true
all-no_feed [] e = refl
all-no_feed (b ∷ bs) e =
    let parts = both (is_name_byte b) (list_all is_name_byte bs) e in
    rw (letter-no_feed b parts.0) (all-no_feed bs parts.1)

comma-at : (bs : List ℕ) → list_all is_name_byte bs ≡ true → prefix_len (λ x. not (is_comma x)) (bs ++ 44 ∷ []) ≡ length bs
comma-at [] e = refl
comma-at (b ∷ bs) e =
    let parts = both (is_name_byte b) (list_all is_name_byte bs) e in
    rw (letter-no_comma b parts.0) (ap (λ k. 1 + k) (comma-at bs parts.1) ∙ one-first (length bs))

names-before : (bs : List ℕ) → list_all is_name_byte bs ≡ true → before_first is_comma (bs ++ 44 ∷ []) ≡ bs
names-before bs e = ap (λ k. take k (bs ++ 44 ∷ [])) (comma-at bs e) ∙ take-front bs (44 ∷ [])

nothing-after : (bs : List ℕ) → list_all is_name_byte bs ≡ true → after_first is_comma (bs ++ 44 ∷ []) ≡ []
nothing-after bs e =
    ap (λ k. drop (k + 1) (bs ++ 44 ∷ [])) (comma-at bs e) ∙ ap (λ k. drop k (bs ++ 44 ∷ [])) (one-more (length bs)) ∙ drop-one-more bs (44 ∷ [])

chain : (h a k t : Bool) (x y : SourceLine) → h ≡ false → a ≡ false → k ≡ true → t ≡ false → cond h Skipped (cond a Skipped (cond k (cond t x y) NonAscii)) ≡ y
chain h a k t x y p q r s = rw (p, q, r, s) refl

begins : (bytes : List ℕ) → begins_hash bytes ≡ false → list_all is_blank bytes ≡ false → list_all is_ascii bytes ≡ true → begins_blank bytes ≡ false → line_of bytes ≡ Begins (before_first is_comma bytes) (fields (after_first is_comma bytes))
begins bytes p q r s = chain (begins_hash bytes) (list_all is_blank bytes) (list_all is_ascii bytes) (begins_blank bytes) _ (Begins (before_first is_comma bytes) (fields (after_first is_comma bytes))) p q r s

names-line : (names : List ℕ) → are_names names ≡ true → line_of (names ++ 44 ∷ []) ≡ Begins names ([] ∷ [])
names-line [] e = cc
names-line (b ∷ bs) e =
    let is = names-are (b ∷ bs) e in
    let head = head-plain b bs is in
    begins ((b ∷ bs) ++ 44 ∷ []) head.hash (not-all-blank (b ∷ bs)) (all-ascii (b ∷ bs) is.letters) head.blank
    ∙ ap (λ x. Begins x (fields (after_first is_comma ((b ∷ bs) ++ 44 ∷ [])))) (names-before (b ∷ bs) is.letters)
    ∙ ap (λ x. Begins (b ∷ bs) (fields x)) (nothing-after (b ∷ bs) is.letters)

none-taken : (names : List (List ℕ)) → list_any (λ name. false) names ≡ false
none-taken [] = refl
none-taken (n ∷ ns) = none-taken ns

same-lines : {A : Type 0} → (kind : Kind) (line : ℕ → A → List ℕ) (h : A → Option FieldValue) → ((k : ℕ) (x : A) → line k x ≡ value_line kind k (h x)) → (k : ℕ) (xs : List A) → lines_from line k xs ≡ lines_from (value_line kind) k (map h xs)
same-lines kind line h each k [] = refl
same-lines kind line h each k (x ∷ xs) =
    ap (λ l. l ++ lines_from line (suc k) xs) (each k x) ∙ ap (λ ls. value_line kind k (h x) ++ ls) (same-lines kind line h each (suc k) xs)

flag-same : (k : ℕ) (b : Bool) → flag_line k b ≡ value_line Flag k (flag_value b)
flag-same k true = refl
flag-same k false = refl

number-same : (k : ℕ) (o : Option ℕ) → number_line k o ≡ value_line Number k (number_value o)
number-same k None = refl
number-same k (Some n) = refl

text-same : (k : ℕ) (o : Option (List ℕ)) → text_line k o ≡ value_line Text k (text_value o)
text-same k None = refl
text-same k (Some t) = refl

flags-fit : (bs : List Bool) → AllFit Flag (map flag_value bs)
flags-fit [] = tt
flags-fit (true ∷ bs) = (tt, flags-fit bs)
flags-fit (false ∷ bs) = (tt, flags-fit bs)

number-fits : (o : Option ℕ) → IfSome o (λ n. n ≤ 32767) → IfSome (number_value o) (Fits Number)
number-fits None h = tt
number-fits (Some n) h = h

numbers-fit : (ns : List (Option ℕ)) → ((slot : ℕ) → IfSome (get_or ns slot None) (λ n. n ≤ 32767)) → AllFit Number (map number_value ns)
numbers-fit [] h = tt
numbers-fit (o ∷ os) h = (number-fits o (h 0), numbers-fit os (λ slot. h (suc slot)))

text-fits : (o : Option (List ℕ)) → IfSome o IsText → IfSome (text_value o) (Fits Text)
text-fits None h = tt
text-fits (Some t) h = h

texts-fit : (ts : List (Option (List ℕ))) → ((slot : ℕ) → IfSome (get_or ts slot None) IsText) → AllFit Text (map text_value ts)
texts-fit [] h = tt
texts-fit (o ∷ os) h = (text-fits o (h 0), texts-fit os (λ slot. h (suc slot)))

-- the lines of one kind
abbrev flags_of : Description → List ℕ
flags_of d = lines_from (value_line Flag) 0 (map flag_value d.flags)

abbrev numbers_of : Description → List ℕ
numbers_of d = lines_from (value_line Number) 0 (map number_value d.numbers)

abbrev texts_of : Description → List ℕ
texts_of d = lines_from (value_line Text) 0 (map text_value d.texts)

-- a text in the order in which it is read
ordered : (names a b c : List ℕ) → names ++ (44 ∷ 10 ∷ []) ++ a ++ b ++ c ≡ ended names (a ++ (b ++ (c ++ [])))
ordered names a b c =
    append_assoc ((names ++ (44 ∷ 10 ∷ [])) ++ a) b c ∙ append_assoc (names ++ (44 ∷ 10 ∷ [])) a (b ++ c) ∙ append_assoc names (44 ∷ 10 ∷ []) (a ++ (b ++ c))
    ∙ ap (λ x. ended names (a ++ (b ++ x))) (sym (append-nil c))

printed-is : (d : Description) → printed d ≡ ended d.names (flags_of d ++ (numbers_of d ++ (texts_of d ++ [])))
unfolding printed
printed-is d =
    ap (λ x. d.names ++ (44 ∷ 10 ∷ []) ++ x ++ lines_from number_line 0 d.numbers ++ lines_from text_line 0 d.texts) (same-lines Flag flag_line flag_value flag-same 0 d.flags)
    ∙ ap (λ x. d.names ++ (44 ∷ 10 ∷ []) ++ flags_of d ++ x ++ lines_from text_line 0 d.texts) (same-lines Number number_line number_value number-same 0 d.numbers)
    ∙ ap (λ x. d.names ++ (44 ∷ 10 ∷ []) ++ flags_of d ++ numbers_of d ++ x) (same-lines Text text_line text_value text-same 0 d.texts)
    ∙ ordered d.names (flags_of d) (numbers_of d) (texts_of d)

abbrev entry_of : Description → Described
entry_of d = record { names = d.names; statements = all_statements d; uses = [] }

-- the printed text is one block
record IsOneBlock (d : Description) : Type 0 where
  taken : List (ℕ × List (List ℕ))
  cut : source_lines (printed d) ≡ (1, Begins d.names ([] ∷ [])) ∷ lines_of_fields taken
  holds : Holds (numbered_fields 1 ([] ∷ []) ++ continuing (lines_of_fields taken)) (all_statements d)

holds-nothing : Holds (numbered_fields 1 ([] ∷ [])) []
unfolding meaning
holds-nothing = record { statements = refl; notes = refl; faults = refl; uses = refl }

-- a line of names and others, which are cut to their end
cut-block : (text names rest : List ℕ) (taken : List (ℕ × SourceLine)) (n : ℕ) → are_names names ≡ true → text ≡ ended names rest → numbered 2 (lines rest) ≡ taken ++ numbered n (lines []) → source_lines text ≡ (1, Begins names ([] ∷ [])) ∷ taken
cut-block text names rest taken n good is cut =
    let begin : SourceLine → List (ℕ × SourceLine) = λ l. (1, l) ∷ numbered 2 (lines rest) in
    let here : source_lines text ≡ begin (line_of (names ++ 44 ∷ [])) =
    ap source_lines is ∙ ap (numbered 1) (lines-ended names rest (all-no_feed names (names-are names good).letters)) in
    let none : (taken ++ numbered n (lines [])) ≡ taken = ap (λ ls. taken ++ numbered n ls) no-lines ∙ append-nil taken in
    let all : numbered 2 (lines rest) ≡ taken = cut ∙ none in
    let named : begin (line_of (names ++ 44 ∷ [])) ≡ begin (Begins names ([] ∷ [])) = ap begin (names-line names good) in
    here ∙ named ∙ ap (λ ls. (1, Begins names ([] ∷ [])) ∷ ls) all

is-one-block : AreFound → (d : Description) → IsDescription d → IsOneBlock d
is-one-block table d is =
    let fs = map flag_value d.flags in
    let ns = map number_value d.numbers in
    let ts = map text_value d.texts in
    let flags = statements_from Flag 0 fs in
    let numbers = statements_from Number 0 ns in
    let texts = statements_from Text 0 ts in
    let xs = numbered_fields 1 ([] ∷ []) in
    let after_numbers = texts_of d ++ [] in
    let after_flags = numbers_of d ++ after_numbers in
    let first = goes-on table Flag fs 2 0 xs [] after_flags (flags-fit d.flags) (λ j le. refl) holds-nothing in
    let second = goes-on table Number ns first.line 0 (xs ++ continuing (lines_of_fields first.taken)) flags after_numbers (numbers-fit d.numbers is.small) (λ j le. of-other-kind Flag Number 0 j fs refl) first.holds in
    let third = goes-on table Text ts second.line 0 ((xs ++ continuing (lines_of_fields first.taken)) ++ continuing (lines_of_fields second.taken)) (flags ++ numbers) [] (texts-fit d.texts (has-texts d is)) (λ j le. list_any-append (concerns Text j) flags numbers ∙ rw (of-other-kind Flag Text 0 j fs refl, of-other-kind Number Text 0 j ns refl) refl) second.holds in
    let later = Goes-then first.line after_flags after_numbers [] (xs ++ continuing (lines_of_fields first.taken)) (flags ++ numbers) ((flags ++ numbers) ++ texts) second third in
    let all = Goes-then 2 (flags_of d ++ after_flags) after_flags [] xs flags ((flags ++ numbers) ++ texts) first later in
    record {
      taken = all.taken;
      cut = cut-block (printed d) d.names (flags_of d ++ after_flags) (lines_of_fields all.taken) all.line is.named (printed-is d) all.cut;
      holds = all.holds;
    }

read : AreFound → (d : Description) → IsDescription d → source_of (printed d) ≡ Ok (record { entries = entry_of d ∷ []; notes = [] })
unfolding source_of
read table d is =
    let block = is-one-block table d is in
    let fields = numbered_fields 1 ([] ∷ []) ++ continuing (lines_of_fields block.taken) in
    let names : names_faults 1 d.names [] ≡ [] = rw (is.named, none-taken (alternatives d.names)) refl in
    let faults : (names_faults 1 d.names [] ++ each_beside field_fault fields) ≡ [] = rw (names, block.holds.faults) refl in
    ap (source_after []) block.cut ∙ block-is [] 1 d.names ([] ∷ []) block.taken fields refl
    ∙ (λ i. unless_faulty (faults i) (record { entries = (record { names = d.names; statements = block.holds.statements i; uses = block.holds.uses i }) ∷ []; notes = block.holds.notes i }))

first-part : (p : ℕ → Bool) (bs : List ℕ) → (further : List (List ℕ)) × (slice_split p bs ≡ before_first p bs ∷ further)
first-part p [] = ([], refl)
first-part p (b ∷ bs) = by (p b) refl (first-part p bs)
  where
    by : (t : Bool) → p b ≡ t → (further : List (List ℕ)) × (slice_split p bs ≡ before_first p bs ∷ further) → (further : List (List ℕ)) × (slice_split p (b ∷ bs) ≡ before_first p (b ∷ bs) ∷ further)
    by true e rest = (slice_split p bs, rw e refl)
    by false e rest =
        let n = prefix_len (λ x. not (p x)) bs in
        let index : prefix_len (λ x. not (p x)) (b ∷ bs) ≡ suc n = rw e (one-first n) in
        let front : before_first p (b ∷ bs) ≡ b ∷ take n bs = ap (λ k. take k (b ∷ bs)) index in
        let parts : slice_split p (b ∷ bs) ≡ (b ∷ take n bs) ∷ rest.0 = rw (e, rest.1) refl in
        (rest.0, parts ∙ ap (λ x. x ∷ rest.0) (sym front))

is-first : (d : Description) → are_names d.names ≡ true → has_name (first_name d.names) (entry_of d) ≡ true
is-first d e =
    let parts = first-part is_bar d.names in
    let self : bytes_eq (first_name d.names) (first_name d.names) ≡ true = (bytes_eq-Decides (first_name d.names) (first_name d.names)).1 refl in
    let among : list_any (bytes_eq (first_name d.names)) (first_name d.names ∷ parts.0) ≡ true = rw self refl in
    let there : list_any (bytes_eq (first_name d.names)) (alternatives d.names) ≡ true = ap (list_any (bytes_eq (first_name d.names))) parts.1 ∙ among in
    pair (has_no_blank (first_name d.names)) (list_any (bytes_eq (first_name d.names)) (alternatives d.names)) (names-are d.names e).whole there
  where
    pair : (a b : Bool) → a ≡ true → b ≡ true → (a && b) ≡ true
    pair a b p q = rw (p, q) refl

resolves : (d : Description) → are_names d.names ≡ true → Resolved (entry_of d ∷ []) (first_name d.names) (named_only d)
resolves d e =
    let found : found_from 0 (first_name d.names) (entry_of d ∷ []) ≡ Some (0, entry_of d) = ap (λ t. cond t (Some (0, entry_of d)) None) (is-first d e) in
    more found nothing (sym (merged-back d)) nothing

pub reads-back : AreFound → (d : Description) → IsDescription d → ReadsBack d
reads-back table d is = (entry_of d, read table d is, resolves d is.named)
