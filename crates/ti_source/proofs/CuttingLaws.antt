-- The fields that are read are those of the line.
use Rattle.std.proofs.Common.{◌≡◌, ◌≢◌, ◌∙◌, ℕ, Bool, true, false, eqb, List, [], ◌∷◌, ◌++◌, refl, ap, sym, subst, arith, append-nil}
use Rattle.std.specs.List.{onto_first}
use Rattle.std.proofs.lemmas.Bool.{eqb-true}
use Rattle.std.proofs.lemmas.Bool.Decides.{nat_tests}
use Rattle.ti_source.specs.Reading.Field.{takes_next, fields}
use Rattle.ti_source.specs.Reading.Cutting.{IsField, AreFields, more, last, cut, AreCut}
use Rattle.ti_source.specs.Reading.Cutting as cutting

test-of : (b k : ℕ) → b ≢ k → eqb b k ≡ false
test-of b k ne = grind (arith, nat_tests)

unlike : (b k : ℕ) → eqb b k ≡ false → b ≢ k
unlike b k e is = grind (arith, nat_tests)

-- `\` and `^` are no commas
no-comma : (a : ℕ) → takes_next a ≡ true → eqb a 44 ≡ false
no-comma a e = by (eqb a 44) refl
  where
    by : (t : Bool) → eqb a 44 ≡ t → t ≡ false
    by true is = let same : a ≡ 44 = eqb-true a 44 is in let never : false ≡ true = ap takes_next (sym same) ∙ e in absurd (cc (never))
    by false is = refl

byte-first : (b : ℕ) (bs : List ℕ) → takes_next b ≡ false → b ≢ 44 → fields (b ∷ bs) ≡ onto_first b (fields bs)
byte-first b bs e ne = let comma = test-of b 44 ne in rw (comma, e) refl

pair-first : (a b : ℕ) (bs : List ℕ) → takes_next a ≡ true → fields (a ∷ b ∷ bs) ≡ onto_first a (onto_first b (fields bs))
pair-first a b bs e = let comma = no-comma a e in rw (comma, e) refl

cut-first : (a : ℕ) → takes_next a ≡ true → fields (a ∷ []) ≡ (a ∷ []) ∷ []
cut-first a e = let comma = no-comma a e in rw comma refl

-- ---- the fields of a line are those that are read

field-first : {field : List ℕ} → IsField field → (further : List ℕ) (part : List ℕ) (others : List (List ℕ)) → fields further ≡ part ∷ others → fields (field ++ further) ≡ (field ++ part) ∷ others
field-first cutting.nothing further part others e = e
field-first (cutting.byte {b = b} {bytes = bs} n ne is) further part others e =
    byte-first b (bs ++ further) n ne ∙ ap (onto_first b) (field-first is further part others e)
field-first (cutting.pair {a = a} {b = b} {bytes = bs} y is) further part others e =
    pair-first a b (bs ++ further) y ∙ ap (λ ps. onto_first a (onto_first b ps)) (field-first is further part others e)

cut-is : {bytes : List ℕ} {parts : List (List ℕ)} → AreFields bytes parts → parts ≡ fields bytes
cut-is (more {field = f} {rest = rest} {others = others} is r) =
    ap (λ os. f ∷ os) (cut-is r) ∙ ap (λ x. x ∷ fields rest) (sym (append-nil f)) ∙ sym (field-first is (44 ∷ rest) [] (fields rest) refl)
cut-is (last {field = f} is) =
    ap (λ x. x ∷ []) (sym (append-nil f)) ∙ sym (field-first is [] [] [] refl) ∙ ap fields (append-nil f)
cut-is (cut {field = f} a is y) = sym (field-first is (a ∷ []) (a ∷ []) [] (cut-first a y))

-- ---- the fields that are read are those of the line

with-byte : {bytes : List ℕ} {parts : List (List ℕ)} (b : ℕ) → takes_next b ≡ false → b ≢ 44 → AreFields bytes parts → AreFields (b ∷ bytes) (onto_first b parts)
with-byte b n ne (more is r) = more (cutting.byte n ne is) r
with-byte b n ne (last is) = last (cutting.byte n ne is)
with-byte b n ne (cut a is y) = cut a (cutting.byte n ne is) y

with-pair : {bytes : List ℕ} {parts : List (List ℕ)} (a b : ℕ) → takes_next a ≡ true → AreFields bytes parts → AreFields (a ∷ b ∷ bytes) (onto_first a (onto_first b parts))
with-pair a b e (more is r) = more (cutting.pair e is) r
with-pair a b e (last is) = last (cutting.pair e is)
with-pair a b e (cut c is y) = cut c (cutting.pair e is) y

step : (b : ℕ) (bs : List ℕ) (s t : Bool) → eqb b 44 ≡ s → takes_next b ≡ t → AreFields bs (fields bs) → ((a : ℕ) (cs : List ℕ) → bs ≡ a ∷ cs → AreFields cs (fields cs)) → AreFields (b ∷ bs) (fields (b ∷ bs))
step b bs true t is e here further =
    subst (λ x. AreFields (x ∷ bs) (fields (x ∷ bs))) (sym (eqb-true b 44 is)) (more cutting.nothing here)
step b bs false false is e here further =
    subst (AreFields (b ∷ bs)) (sym (byte-first b bs e (unlike b 44 is))) (with-byte b e (unlike b 44 is) here)
step b [] false true is e here further =
    subst (AreFields (b ∷ [])) (sym (cut-first b e)) (cut b cutting.nothing e)
step b (a ∷ cs) false true is e here further =
    subst (AreFields (b ∷ a ∷ cs)) (sym (pair-first b a cs e)) (with-pair b a e (further a cs refl))

-- the fields of a text and of what follows its first byte
both : (bs : List ℕ) → AreFields bs (fields bs) × ((a : ℕ) (cs : List ℕ) → bs ≡ a ∷ cs → AreFields cs (fields cs))
both [] = (last cutting.nothing, λ a cs e. cc)
both (b ∷ bs) = put (both bs)
  where
    put : AreFields bs (fields bs) × ((a : ℕ) (cs : List ℕ) → bs ≡ a ∷ cs → AreFields cs (fields cs)) → AreFields (b ∷ bs) (fields (b ∷ bs)) × ((a : ℕ) (cs : List ℕ) → b ∷ bs ≡ a ∷ cs → AreFields cs (fields cs))
    put h = (step b bs (eqb b 44) (takes_next b) refl refl h.0 h.1, λ a cs e. let same : bs ≡ cs = cc in subst (λ xs. AreFields xs (fields xs)) same h.0)

pub are-cut : AreCut
are-cut bytes parts = (cut-is, λ e. subst (AreFields bytes) (sym e) (both bytes).0)
