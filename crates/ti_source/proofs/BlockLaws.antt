-- The blocks of a source: what each adds to those before it.
use Rattle.std.proofs.Common.{OnOk, ◌≡◌, ◌∙◌, ℕ, List, [], ◌∷◌, ◌++◌, map, Result, Ok, Err, refl, ap, sym, subst, inl, inr, append_assoc, append-nil, length, length-append, ◌<◌, arith}
use Rattle.std.specs.List.{flat_map}
use Rattle.std.proofs.lemmas.List.{map-append}
use Rattle.std.proofs.lemmas.Grind.{flat_map-append}
use Rattle.ti_source.specs.declared.faults.SourceFault.{SourceFault}
use Rattle.ti_source.specs.declared.faults.SourceFault.TheVariants.{FieldBeforeEntry, NotAscii}
use Rattle.ti_source.specs.Reading.SourceLine.{SourceLine, Skipped, NonAscii, Continues, Begins}
use Rattle.ti_source.specs.Reading.Sources.{NumberedField, Whole, WrittenEntry, each_after, each_beside, field_fault, described, notes_on, names_faults, numbered_fields, continuing, written_entries, continued_faults, begun_faults, line_faults, source_lines, source_of, unless_faulty, whole_of}
use Rattle.ti_source.specs.Code.Blocks.{IsBlock, IsBetween, ReadsBlock, source_after}
use Rattle.ti_source.specs.Code.Lines.{EndsBlock, lines_of_fields, unskipped}
use Rattle.ti_source.specs.Code.OpenEntry.{OpenEntry, Adds, AddsBlock, open_entry}
use Rattle.ti_source.specs.Result.{Fails, Gives}
use Rattle.ti_source.proofs.MeaningLaws.{each-append}
use Rattle.ti_source.proofs.OpenEntryLaws.{Adds-then, faultless, fails-first}

-- ---- lines that are skipped

unskipped-continuing : (ls : List (ℕ × SourceLine)) → continuing (unskipped ls) ≡ continuing ls
unskipped-continuing [] = refl
unskipped-continuing ((k, Skipped) ∷ ls) = unskipped-continuing ls
unskipped-continuing ((k, NonAscii) ∷ ls) = unskipped-continuing ls
unskipped-continuing ((k, Continues fs) ∷ ls) = ap (λ r. numbered_fields k fs ++ r) (unskipped-continuing ls)
unskipped-continuing ((k, Begins names fs) ∷ ls) = refl

unskipped-entries : (ls : List (ℕ × SourceLine)) → written_entries (unskipped ls) ≡ written_entries ls
unskipped-entries [] = refl
unskipped-entries ((k, Skipped) ∷ ls) = unskipped-entries ls
unskipped-entries ((k, NonAscii) ∷ ls) = unskipped-entries ls
unskipped-entries ((k, Continues fs) ∷ ls) = unskipped-entries ls
unskipped-entries ((k, Begins names fs) ∷ ls) =
    λ i. (record { names = names; fields = numbered_fields k fs ++ unskipped-continuing ls i }) ∷ unskipped-entries ls i

unskipped-append : (ls ks : List (ℕ × SourceLine)) → unskipped (ls ++ ks) ≡ unskipped ls ++ unskipped ks
unskipped-append [] ks = refl
unskipped-append ((k, Skipped) ∷ ls) ks = unskipped-append ls ks
unskipped-append ((k, NonAscii) ∷ ls) ks = ap (λ r. (k, NonAscii) ∷ r) (unskipped-append ls ks)
unskipped-append ((k, Continues fs) ∷ ls) ks = ap (λ r. (k, Continues fs) ∷ r) (unskipped-append ls ks)
unskipped-append ((k, Begins names fs) ∷ ls) ks = ap (λ r. (k, Begins names fs) ∷ r) (unskipped-append ls ks)

unskipped-faults : (before ls : List (ℕ × SourceLine)) → each_after line_faults (unskipped before) (unskipped ls) ≡ each_after line_faults before ls
unfolding line_faults
unskipped-faults before [] = refl
unskipped-faults before ((k, Skipped) ∷ ls) =
    ap (λ b. each_after line_faults b (unskipped ls)) (sym (append-nil (unskipped before)) ∙ sym (unskipped-append before ((k, Skipped) ∷ []))) ∙ unskipped-faults (before ++ (k, Skipped) ∷ []) ls
unskipped-faults before ((k, NonAscii) ∷ ls) =
    ap (λ r. NotAscii k ∷ r) (ap (λ b. each_after line_faults b (unskipped ls)) (sym (unskipped-append before ((k, NonAscii) ∷ []))) ∙ unskipped-faults (before ++ (k, NonAscii) ∷ []) ls)
unskipped-faults before ((k, Continues fs) ∷ ls) =
    ap (λ ws. continued_faults k fs ws ++ each_after line_faults (unskipped before ++ (k, Continues fs) ∷ []) (unskipped ls)) (unskipped-entries before)
    ∙ ap (λ r. continued_faults k fs (written_entries before) ++ r) (ap (λ b. each_after line_faults b (unskipped ls)) (sym (unskipped-append before ((k, Continues fs) ∷ []))) ∙ unskipped-faults (before ++ (k, Continues fs) ∷ []) ls)
unskipped-faults before ((k, Begins names fs) ∷ ls) =
    ap (λ ws. begun_faults k names fs ws ++ each_after line_faults (unskipped before ++ (k, Begins names fs) ∷ []) (unskipped ls)) (unskipped-entries before)
    ∙ ap (λ r. begun_faults k names fs (written_entries before) ++ r) (ap (λ b. each_after line_faults b (unskipped ls)) (sym (unskipped-append before ((k, Begins names fs) ∷ []))) ∙ unskipped-faults (before ++ (k, Begins names fs) ∷ []) ls)

-- they add nothing
pub unskipped-all : (ls : List (ℕ × SourceLine)) → source_after [] (unskipped ls) ≡ source_after [] ls
unskipped-all ls =
    (λ i. unless_faulty (unskipped-faults [] ls i) (record { entries = map described (unskipped-entries ls i); notes = flat_map notes_on (unskipped-entries ls i) }))

-- ---- a block

continuing-block : (before : List (ℕ × SourceLine)) (n : ℕ) (names : List ℕ) (fields : List (List ℕ)) (more : List (ℕ × SourceLine)) → continuing (before ++ (n, Begins names fields) ∷ more) ≡ continuing before
continuing-block [] n names fields more = refl
continuing-block ((k, Skipped) ∷ ls) n names fields more = continuing-block ls n names fields more
continuing-block ((k, NonAscii) ∷ ls) n names fields more = continuing-block ls n names fields more
continuing-block ((k, Continues fs) ∷ ls) n names fields more = ap (λ r. numbered_fields k fs ++ r) (continuing-block ls n names fields more)
continuing-block ((k, Begins others fs) ∷ ls) n names fields more = refl

entries-block : (before : List (ℕ × SourceLine)) (n : ℕ) (names : List ℕ) (fields : List (List ℕ)) (more : List (ℕ × SourceLine)) → written_entries (before ++ (n, Begins names fields) ∷ more) ≡ written_entries before ++ written_entries ((n, Begins names fields) ∷ more)
entries-block [] n names fields more = refl
entries-block ((k, Skipped) ∷ ls) n names fields more = entries-block ls n names fields more
entries-block ((k, NonAscii) ∷ ls) n names fields more = entries-block ls n names fields more
entries-block ((k, Continues fs) ∷ ls) n names fields more = entries-block ls n names fields more
entries-block ((k, Begins others fs) ∷ ls) n names fields more =
    λ i. (record { names = others; fields = numbered_fields k fs ++ continuing-block ls n names fields more i }) ∷ entries-block ls n names fields more i

no-entries : (taken : List (ℕ × List (List ℕ))) → written_entries (lines_of_fields taken) ≡ []
no-entries [] = refl
no-entries (t ∷ ts) = no-entries ts

-- the entries of lines and a block
entries-are : (before : List (ℕ × SourceLine)) (n : ℕ) (names : List ℕ) (fields : List (List ℕ)) (taken : List (ℕ × List (List ℕ))) →
    written_entries (before ++ (n, Begins names fields) ∷ lines_of_fields taken) ≡ written_entries before ++ (record { names = names; fields = numbered_fields n fields ++ continuing (lines_of_fields taken) }) ∷ []
entries-are before n names fields taken =
    entries-block before n names fields (lines_of_fields taken)
    ∙ ap (λ ws. written_entries before ++ (record { names = names; fields = numbered_fields n fields ++ continuing (lines_of_fields taken) }) ∷ ws) (no-entries taken)

pub lines-both : (xs ys : List (ℕ × List (List ℕ))) → lines_of_fields (xs ++ ys) ≡ lines_of_fields xs ++ lines_of_fields ys
lines-both xs ys = map-append (λ t. (t.0, Continues t.1)) xs ys

pub continuing-both : (xs ys : List (ℕ × List (List ℕ))) → continuing (lines_of_fields (xs ++ ys)) ≡ continuing (lines_of_fields xs) ++ continuing (lines_of_fields ys)
continuing-both [] ys = refl
continuing-both (x ∷ xs) ys =
    ap (λ r. numbered_fields x.0 x.1 ++ r) (continuing-both xs ys) ∙ sym (append_assoc (numbered_fields x.0 x.1) (continuing (lines_of_fields xs)) (continuing (lines_of_fields ys)))

-- a line more
continuing-more : (taken : List (ℕ × List (List ℕ))) (k : ℕ) (fs : List (List ℕ)) → continuing (lines_of_fields (taken ++ (k, fs) ∷ [])) ≡ continuing (lines_of_fields taken) ++ numbered_fields k fs
continuing-more taken k fs =
    continuing-both taken ((k, fs) ∷ []) ∙ ap (λ r. continuing (lines_of_fields taken) ++ r) (append-nil (numbered_fields k fs))

last-faults : (n : ℕ) (fields : List (List ℕ)) (ws : List WrittenEntry) (w : WrittenEntry) → continued_faults n fields (ws ++ w ∷ []) ≡ each_after field_fault w.fields (numbered_fields n fields)
last-faults n fields [] w = refl
last-faults n fields (v ∷ []) w = refl
last-faults n fields (v ∷ u ∷ ws) w = last-faults n fields (u ∷ ws) w

-- the faults of lines that continue an entry with these fields
continued-are : (before : List (ℕ × SourceLine)) (n : ℕ) (names : List ℕ) (fields : List (List ℕ)) (read taken : List (ℕ × List (List ℕ))) →
    each_after line_faults (before ++ (n, Begins names fields) ∷ lines_of_fields read) (lines_of_fields taken) ≡ each_after field_fault (numbered_fields n fields ++ continuing (lines_of_fields read)) (continuing (lines_of_fields taken))
unfolding line_faults
continued-are before n names fields read [] = refl
continued-are before n names fields read (t ∷ ts) =
    let ls = lines_of_fields ts in
    let xs = numbered_fields n fields ++ continuing (lines_of_fields read) in
    let ys = numbered_fields t.0 t.1 in
    let block : List (ℕ × SourceLine) → List (ℕ × SourceLine) = λ more. before ++ (n, Begins names fields) ∷ more in
    let here : continued_faults t.0 t.1 (written_entries (block (lines_of_fields read))) ≡ each_after field_fault xs ys =
    ap (continued_faults t.0 t.1) (entries-are before n names fields read) ∙ last-faults t.0 t.1 (written_entries before) (record { names = names; fields = xs }) in
    let later : each_after line_faults (block (lines_of_fields read) ++ (t.0, Continues t.1) ∷ []) ls ≡ each_after field_fault (xs ++ ys) (continuing ls) =
    ap (λ b. each_after line_faults b ls) (append_assoc before ((n, Begins names fields) ∷ lines_of_fields read) ((t.0, Continues t.1) ∷ []) ∙ ap block (sym (lines-both read (t ∷ []))))
    ∙ continued-are before n names fields (read ++ t ∷ []) ts
    ∙ ap (λ r. each_after field_fault r (continuing ls)) (ap (λ r. numbered_fields n fields ++ r) (continuing-more read t.0 t.1) ∙ sym (append_assoc (numbered_fields n fields) (continuing (lines_of_fields read)) ys)) in
    (λ i. here i ++ later i) ∙ sym (each-append field_fault xs ys (continuing ls))

-- the faults of a block: that of its names, and those of its fields
faults-are : (before : List (ℕ × SourceLine)) (n : ℕ) (names : List ℕ) (fields : List (List ℕ)) (taken : List (ℕ × List (List ℕ))) →
    each_after line_faults before ((n, Begins names fields) ∷ lines_of_fields taken) ≡ names_faults n names (map described (written_entries before)) ++ each_beside field_fault (numbered_fields n fields ++ continuing (lines_of_fields taken))
unfolding line_faults
faults-are before n names fields taken =
    let xs = numbered_fields n fields in
    let ys = continuing (lines_of_fields taken) in
    let of_names = names_faults n names (map described (written_entries before)) in
    ap (λ r. (of_names ++ each_beside field_fault xs) ++ r) (continued-are before n names fields [] taken ∙ ap (λ r. each_after field_fault r ys) (append-nil xs))
    ∙ append_assoc of_names (each_beside field_fault xs) (each_after field_fault xs ys)
    ∙ ap (λ r. of_names ++ r) (sym (each-append field_fault [] xs ys))

-- what a block adds
pub block-is : (before : List (ℕ × SourceLine)) (n : ℕ) (names : List ℕ) (fields : List (List ℕ)) (taken : List (ℕ × List (List ℕ))) (all : List NumberedField) → all ≡ numbered_fields n fields ++ continuing (lines_of_fields taken) →
    source_after before ((n, Begins names fields) ∷ lines_of_fields taken)
    ≡ unless_faulty (names_faults n names (map described (written_entries before)) ++ each_beside field_fault all)
    (record { entries = map described (written_entries before) ++ described (record { names = names; fields = all }) ∷ []; notes = flat_map notes_on (written_entries before) ++ notes_on (record { names = names; fields = all }) })
block-is before n names fields taken all is =
    let w : WrittenEntry = record { names = names; fields = all } in
    let ws = written_entries before in
    let ls = before ++ (n, Begins names fields) ∷ lines_of_fields taken in
    let whole : written_entries ls ≡ ws ++ w ∷ [] =
    entries-are before n names fields taken ∙ ap (λ r. ws ++ (record { names = names; fields = r }) ∷ []) (sym is) in
    let entries : map described (written_entries ls) ≡ map described ws ++ described w ∷ [] = ap (map described) whole ∙ map-append described ws (w ∷ []) in
    let notes : flat_map notes_on (written_entries ls) ≡ flat_map notes_on ws ++ notes_on w =
    ap (flat_map notes_on) whole ∙ flat_map-append notes_on ws (w ∷ []) ∙ ap (λ r. flat_map notes_on ws ++ r) (append-nil (notes_on w)) in
    let faults = faults-are before n names fields taken ∙ ap (λ r. names_faults n names (map described ws) ++ each_beside field_fault r) (sym is) in
    λ i. unless_faulty (faults i) (record { entries = entries i; notes = notes i })

-- ---- one block after another

pub goes-on : (before xs ys : List (ℕ × SourceLine)) (w : Whole) → source_after before xs ≡ Ok w → (w ≡ whole_of (before ++ xs)) × (source_after (before ++ xs) ys ≡ source_after before (xs ++ ys))
goes-on before xs ys w e =
    let p = faultless (each_after line_faults before xs) (whole_of (before ++ xs)) w e in
    let faults : each_after line_faults before (xs ++ ys) ≡ each_after line_faults (before ++ xs) ys =
    each-append line_faults before xs ys ∙ ap (λ es. es ++ each_after line_faults (before ++ xs) ys) p.0 in
    (sym p.1, λ i. unless_faulty (sym faults i) (whole_of (append_assoc before xs ys i)))

pub fails-on : (e : SourceFault) (before xs ys : List (ℕ × SourceLine)) → Fails e (source_after before xs) → Fails e (source_after before (xs ++ ys))
fails-on e before xs ys fails =
    rw (each-append line_faults before xs ys) (fails-first e (each_after line_faults before xs) (each_after line_faults (before ++ xs) ys) (whole_of (before ++ xs)) (whole_of (before ++ (xs ++ ys))) fails)

pub not_ascii-is : (before : List (ℕ × SourceLine)) (n : ℕ) → source_after before ((n, NonAscii) ∷ []) ≡ Err (NotAscii n)
unfolding line_faults
not_ascii-is before n = refl

pub before_entry-is : (before : List (ℕ × SourceLine)) (n : ℕ) (fields : List (List ℕ)) → written_entries before ≡ [] → source_after before ((n, Continues fields) ∷ []) ≡ Err (FieldBeforeEntry n)
unfolding line_faults
before_entry-is before n fields none = rw none refl

-- ---- the lines of a block one after another

-- some lines of the block were taken, and their fields added
pub record BlockSoFar (fields : List NumberedField) (old : OpenEntry) (lines : List (ℕ × SourceLine)) (now : OpenEntry) (left : List (ℕ × SourceLine)) : Type 0 where
  pub taken : List (ℕ × List (List ℕ))
  pub cut : lines ≡ lines_of_fields taken ++ left
  pub adds : Adds (fields ++ continuing (lines_of_fields taken)) old (Ok (tt {0})) now

pub block-starts : (fields : List NumberedField) (old now : OpenEntry) (lines : List (ℕ × SourceLine)) → Adds fields old (Ok (tt {0})) now → BlockSoFar fields old lines now lines
block-starts fields old now lines adds =
    let P : List NumberedField → Type 0 = λ xs. Adds xs old (Ok (tt {0})) now in
    record { taken = []; cut = refl; adds = subst P (sym (append-nil fields)) adds }

-- one line more
next-cut : (taken : List (ℕ × List (List ℕ))) (lines left rest : List (ℕ × SourceLine)) (n : ℕ) (gs : List (List ℕ)) → lines ≡ lines_of_fields taken ++ left → left ≡ (n, Continues gs) ∷ rest → lines ≡ lines_of_fields (taken ++ (n, gs) ∷ []) ++ rest
next-cut taken lines left rest n gs cut first =
    cut ∙ ap (λ r. lines_of_fields taken ++ r) first ∙ sym (append_assoc (lines_of_fields taken) ((n, Continues gs) ∷ []) rest) ∙ ap (λ r. r ++ rest) (sym (lines-both taken ((n, gs) ∷ [])))

next-adds : (fields : List NumberedField) (taken : List (ℕ × List (List ℕ))) (n : ℕ) (gs : List (List ℕ)) (old mid new : OpenEntry) (r : Result (Unit {0}) SourceFault) → Adds (fields ++ continuing (lines_of_fields taken)) old (Ok (tt {0})) mid → Adds (numbered_fields n gs) mid r new → Adds (fields ++ continuing (lines_of_fields (taken ++ (n, gs) ∷ []))) old r new
next-adds fields taken n gs old mid new r one two =
    let P : List NumberedField → Type 0 = λ xs. Adds xs old r new in
    subst P (append_assoc fields (continuing (lines_of_fields taken)) (numbered_fields n gs) ∙ ap (λ q. fields ++ q) (sym (continuing-more taken n gs)))
    (Adds-then (tt {0}) (fields ++ continuing (lines_of_fields taken)) (numbered_fields n gs) old mid new r one two)

pub block-goes : (fields : List NumberedField) (old mid new : OpenEntry) (lines left rest : List (ℕ × SourceLine)) (n : ℕ) (gs : List (List ℕ)) → BlockSoFar fields old lines mid left → left ≡ (n, Continues gs) ∷ rest → Adds (numbered_fields n gs) mid (Ok (tt {0})) new → BlockSoFar fields old lines new rest
block-goes fields old mid new lines left rest n gs h first adds =
    record { taken = h.taken ++ (n, gs) ∷ []; cut = next-cut h.taken lines left rest n gs h.cut first; adds = next-adds fields h.taken n gs old mid new (Ok (tt {0})) h.adds adds }

not-ok : (r : Result (Unit {0}) SourceFault) (e : SourceFault) (P : Type 0) → r ≡ Err e → OnOk r P
not-ok (Ok d) e P failed = cc
not-ok (Err f) e P failed = tt

pub block-fails : (fields : List NumberedField) (old mid new : OpenEntry) (lines left rest : List (ℕ × SourceLine)) (n : ℕ) (gs : List (List ℕ)) (r : Result (Unit {0}) SourceFault) (e : SourceFault) → BlockSoFar fields old lines mid left → left ≡ (n, Continues gs) ∷ rest → r ≡ Err e → Adds (numbered_fields n gs) mid r new → AddsBlock fields old lines r new rest
block-fails fields old mid new lines left rest n gs r e h first failed adds = record {
  taken = h.taken ++ (n, gs) ∷ [];
  cut = next-cut h.taken lines left rest n gs h.cut first;
  adds = next-adds fields h.taken n gs old mid new r h.adds adds;
  ends = not-ok r e (EndsBlock rest) failed;
}

-- ---- a block that is read

pub not-ascii : (before lines : List (ℕ × SourceLine)) (n : ℕ) → IsBlock before (n, NonAscii) lines (Err (NotAscii n)) lines
not-ascii before lines n =
    record { taken = []; cut = refl; gives = inr (not_ascii-is before n); ends = tt }

pub before-entry : (before lines : List (ℕ × SourceLine)) (n : ℕ) (fields : List (List ℕ)) → IsBetween before ((n, Continues fields) ∷ lines) → IsBlock before (n, Continues fields) lines (Err (FieldBeforeEntry n)) lines
before-entry before lines n fields (inl none) =
    record { taken = []; cut = refl; gives = inr (before_entry-is before n fields none); ends = tt }
before-entry before lines n fields (inr ends) = absurd ends

pub names-fail : {A : Type 0} → (before lines : List (ℕ × SourceLine)) (n : ℕ) (names : List ℕ) (fields : List (List ℕ)) (source : Whole) (x : A) (answer : Result Whole SourceFault) (e : SourceFault) → source ≡ whole_of before → answer ≡ Err e → Fails e (unless_faulty (names_faults n names source.entries) x) → IsBlock before (n, Begins names fields) lines answer lines
names-fail {A} before lines n names fields source x answer e is failed fails =
    let own : Fails e (unless_faulty (names_faults n names (map described (written_entries before))) x) =
    subst (λ (w : Whole). Fails e (unless_faulty (names_faults n names w.entries) x)) is fails in
    record {
      taken = [];
      cut = refl;
      gives = rw (failed, block-is before n names fields [] _ refl) (fails-first e (names_faults n names (map described (written_entries before))) _ x _ own);
      ends = rw failed tt;
    }

-- an entry that has begun
pub begun-is : (before : List (ℕ × SourceLine)) (names : List ℕ) (source : Whole) (old : OpenEntry) → source ≡ whole_of before → old ≡ record { entry = record { names = names; statements = []; uses = [] }; notes = source.notes } → old ≡ open_entry names (flat_map notes_on (written_entries before)) []
begun-is before names source old is same =
    same ∙ (λ i. record { entry = record { names = names; statements = []; uses = [] }; notes = (ap (λ (w : Whole). w.notes) is ∙ sym (append-nil (flat_map notes_on (written_entries before)))) i })

pub fields-fail : (before lines left : List (ℕ × SourceLine)) (n : ℕ) (names : List ℕ) (fields : List (List ℕ)) (old new : OpenEntry) (r : Result (Unit {0}) SourceFault) (answer : Result Whole SourceFault) (e : SourceFault) → names_faults n names (map described (written_entries before)) ≡ [] → old ≡ open_entry names (flat_map notes_on (written_entries before)) [] → r ≡ Err e → answer ≡ Err e → AddsBlock (numbered_fields n fields) old lines r new left → IsBlock before (n, Begins names fields) lines answer left
fields-fail before lines left n names fields old new r answer e none is failed answered h =
    let all = numbered_fields n fields ++ continuing (lines_of_fields h.taken) in
    let fails : Fails e (unless_faulty (each_beside field_fault all) (open_entry names (flat_map notes_on (written_entries before)) all)) =
    rw failed at (h.adds names (flat_map notes_on (written_entries before)) [] is) in
    record {
      taken = lines_of_fields h.taken;
      cut = h.cut;
      gives = rw (answered, block-is before n names fields h.taken all refl, none) (fails-any e (each_beside field_fault all) _ _ fails);
      ends = rw answered tt;
    }
  where
    fails-any : {A B : Type 0} → (f : SourceFault) (es : List SourceFault) (x : A) (y : B) → Fails f (unless_faulty es x) → Fails f (unless_faulty es y)
    fails-any f es x y (inl k) = inl k
    fails-any f [] x y (inr k) = cc
    fails-any f (g ∷ gs) x y (inr k) = let same : g ≡ f = cc in inr (ap Err same)

pub block-read : (before lines left : List (ℕ × SourceLine)) (n : ℕ) (names : List ℕ) (fields : List (List ℕ)) (source : Whole) (old new : OpenEntry) (answer : Result Whole SourceFault) → source ≡ whole_of before → names_faults n names (map described (written_entries before)) ≡ [] → old ≡ open_entry names (flat_map notes_on (written_entries before)) [] → AddsBlock (numbered_fields n fields) old lines (Ok (tt {0})) new left → Gives answer (Ok (record { entries = source.entries ++ new.entry ∷ []; notes = new.notes })) → IsBlock before (n, Begins names fields) lines answer left
block-read before lines left n names fields source old new answer from none is h gives =
    let all = numbered_fields n fields ++ continuing (lines_of_fields h.taken) in
    let ws = written_entries before in
    let p = faultless (each_beside field_fault all) (open_entry names (flat_map notes_on ws) all) new (h.adds names (flat_map notes_on ws) [] is) in
    let faults : (names_faults n names (map described ws) ++ each_beside field_fault all) ≡ [] = rw (none, p.0) refl in
    let same : source_after before ((n, Begins names fields) ∷ lines_of_fields h.taken) ≡ Ok (record { entries = source.entries ++ new.entry ∷ []; notes = new.notes }) =
    block-is before n names fields h.taken all refl
    ∙ (λ i. unless_faulty (faults i) (record { entries = (sym from i).entries ++ (p.1 i).entry ∷ []; notes = (p.1 i).notes })) in
    record { taken = lines_of_fields h.taken; cut = h.cut; gives = subst (Gives answer) (sym same) gives; ends = on-ok answer (EndsBlock left) h.ends }
  where
    on-ok : (r : Result Whole SourceFault) (P : Type 0) → P → OnOk r P
    on-ok (Ok x) P k = k
    on-ok (Err e) P k = tt

-- ---- all blocks

-- some lines were read, and what they and those that are left are is this source
pub record ReadSoFar (wanted : Result Whole SourceFault) (source : Whole) (lines : List (ℕ × SourceLine)) : Type 0 where
  pub before : List (ℕ × SourceLine)
  pub is : source ≡ whole_of before
  pub between : IsBetween before lines
  pub gives : source_after before lines ≡ wanted

pub read-starts : (bytes : List ℕ) (source : Whole) (lines : List (ℕ × SourceLine)) → source ≡ whole_of [] → lines ≡ unskipped (source_lines bytes) → ReadSoFar (source_of bytes) source lines
unfolding source_of
read-starts bytes source lines none all =
    record { before = []; is = none; between = inl refl; gives = ap (source_after []) all ∙ unskipped-all (source_lines bytes) }

pub read-goes : (wanted : Result Whole SourceFault) (source next : Whole) (lines rest left : List (ℕ × SourceLine)) (line : ℕ × SourceLine) → ReadSoFar wanted source lines → lines ≡ line ∷ rest → ReadsBlock source line rest (Ok next) left → ReadSoFar wanted next left
read-goes wanted source next lines rest left line h first reads =
    let block = reads h.before h.is (subst (IsBetween h.before) first h.between) in
    let on = goes-on h.before (line ∷ block.taken) left next block.gives in
    record {
      before = h.before ++ line ∷ block.taken;
      is = on.0;
      between = inr block.ends;
      gives = on.1 ∙ ap (λ ls. source_after h.before (line ∷ ls)) (sym block.cut) ∙ ap (source_after h.before) (sym first) ∙ h.gives;
    }

pub read-fails : (wanted : Result Whole SourceFault) (source : Whole) (lines rest left : List (ℕ × SourceLine)) (line : ℕ × SourceLine) (e : SourceFault) → ReadSoFar wanted source lines → lines ≡ line ∷ rest → ReadsBlock source line rest (Err e) left → Fails e wanted
read-fails wanted source lines rest left line e h first reads =
    let block = reads h.before h.is (subst (IsBetween h.before) first h.between) in
    let all : source_after h.before ((line ∷ block.taken) ++ left) ≡ wanted =
    ap (λ ls. source_after h.before (line ∷ ls)) (sym block.cut) ∙ ap (source_after h.before) (sym first) ∙ h.gives in
    subst (λ w. Fails e w) all (fails-on e h.before (line ∷ block.taken) left block.gives)

pub read-smaller : (wanted answer : Result Whole SourceFault) (source : Whole) (lines rest left : List (ℕ × SourceLine)) (line : ℕ × SourceLine) → ReadSoFar wanted source lines → lines ≡ line ∷ rest → ReadsBlock source line rest answer left → length left < length lines
read-smaller wanted answer source lines rest left line h first reads =
    let block = reads h.before h.is (subst (IsBetween h.before) first h.between) in
    rw (first, block.cut) (let sum = length-append block.taken left in omega (arith, sum))
