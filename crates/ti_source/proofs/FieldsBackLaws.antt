-- A printed line is one field, and an empty one after its comma.
use Rattle.std.proofs.Common.{◌≡◌, ◌∙◌, ℕ, ◌+◌, ◌/◌, ◌%◌, ◌^◌, ◌<◌, Bool, true, false, not, ◌&&◌, ◌||◌, eqb, ltb, cond, List, [], ◌∷◌, ◌++◌, refl, ap, sym, append_assoc, append-nil, arith}
use Rattle.std.specs.Fmt.{decimal}
use Rattle.std.specs.List.{list_all, onto_first}
use Rattle.std.proofs.lemmas.Bool.Decides.{nat_tests}
use Rattle.std.proofs.lemmas.Fmt.{decimal_by_steps}
use Rattle.std.proofs.lemmas.List.Folds.{list_all-append}
use Rattle.ti_source.specs.Reading.Escape.{printed_byte, printed_text, IsText}
use Rattle.ti_source.specs.Reading.Field.{fields, fields_after, is_blank, takes_next, ends_name}
use Rattle.ti_source.specs.Reading.SourceLine.{Continues, line_of, is_ascii}
use Rattle.ti_source.proofs.FieldLaws.{with_front, with_front-nil}
use Rattle.ti_source.proofs.TableBytesLaws.{both, is_graphic, is_letter}

-- bytes that no comma of theirs ends, and that take no byte after them
abbrev pub IsClosed : List ℕ → Type 0
IsClosed v = (rest : List ℕ) → fields_after false (v ++ rest) ≡ with_front v (fields_after false rest)

-- what stands in a field, and no blank among it
pub record IsValue (v : List ℕ) : Type 0 where
  pub graphic : list_all is_graphic v ≡ true
  pub closed : IsClosed v

onto-front : (b : ℕ) (v : List ℕ) (parts : List (List ℕ)) → onto_first b (with_front v parts) ≡ with_front (b ∷ v) parts
onto-front b v [] = refl
onto-front b v (p ∷ ps) = refl

front-front : (v w : List ℕ) (parts : List (List ℕ)) → with_front v (with_front w parts) ≡ with_front (v ++ w) parts
front-front v w [] = refl
front-front v w (p ∷ ps) = ap (λ x. x ∷ ps) (sym (append_assoc v w p))

onto-one : (b : ℕ) (parts : List (List ℕ)) → onto_first b parts ≡ with_front (b ∷ []) parts
onto-one b [] = refl
onto-one b (p ∷ ps) = refl

onto-two : (a b : ℕ) (parts : List (List ℕ)) → onto_first a (onto_first b parts) ≡ with_front (a ∷ b ∷ []) parts
onto-two a b [] = refl
onto-two a b (p ∷ ps) = refl

front-none : (parts : List (List ℕ)) (v : List ℕ) → with_front v parts ≡ with_front (v ++ []) parts
front-none parts v = ap (λ x. with_front x parts) (sym (append-nil v))

all-and : (p : ℕ → Bool) (xs ys : List ℕ) → list_all p xs ≡ true → list_all p ys ≡ true → list_all p (xs ++ ys) ≡ true
all-and p xs ys e f = list_all-append p xs ys ∙ rw (e, f) refl

-- values one after another
pub IsValue-append : (v w : List ℕ) → IsValue v → IsValue w → IsValue (v ++ w)
IsValue-append v w a b = record {
  graphic = all-and is_graphic v w a.graphic b.graphic;
  closed = λ rest. ap (fields_after false) (append_assoc v w rest) ∙ a.closed (w ++ rest) ∙ ap (with_front v) (b.closed rest) ∙ front-front v w (fields_after false rest);
}

letter-closed : (b : ℕ) (rest : List ℕ) → is_letter b ≡ true → fields_after false (b ∷ rest) ≡ onto_first b (fields_after false rest)
letter-closed b rest e =
    let comma : eqb b 44 ≡ false = grind (arith, nat_tests) in
    let slash : eqb b 92 ≡ false = grind (arith, nat_tests) in
    let caret : eqb b 94 ≡ false = grind (arith, nat_tests) in
    rw (comma, slash, caret) refl

letters-closed : (v : List ℕ) → list_all is_letter v ≡ true → IsClosed v
letters-closed [] e rest = sym (with_front-nil false rest)
letters-closed (b ∷ bs) e rest =
    let parts = both (is_letter b) (list_all is_letter bs) e in
    letter-closed b (bs ++ rest) parts.0 ∙ ap (onto_first b) (letters-closed bs parts.1 rest) ∙ onto-front b bs (fields_after false rest)

letters-graphic : (v : List ℕ) → list_all is_letter v ≡ true → list_all is_graphic v ≡ true
letters-graphic [] e = refl
letters-graphic (b ∷ bs) e =
    let parts = both (is_letter b) (list_all is_letter bs) e in
    let one = both (is_graphic b) (not (ends_name b || (takes_next b || eqb b 44))) parts.0 in
    rw one.0 (letters-graphic bs parts.1)

pub letters-are-value : (v : List ℕ) → list_all is_letter v ≡ true → IsValue v
letters-are-value v e = record { graphic = letters-graphic v e; closed = letters-closed v e }

-- one byte in front that is itself
pub IsValue-first : (b : ℕ) (v : List ℕ) → is_graphic b ≡ true → eqb b 44 ≡ false → takes_next b ≡ false → IsValue v → IsValue (b ∷ v)
IsValue-first b v g c t is = record {
  graphic = rw g is.graphic;
  closed = λ rest. let one : fields_after false (b ∷ (v ++ rest)) ≡ onto_first b (fields_after false (v ++ rest)) = rw (c, t) refl in one ∙ ap (onto_first b) (is.closed rest) ∙ onto-front b v (fields_after false rest);
}

digit-letter : (d : ℕ) → d < 10 → is_letter (48 + d) ≡ true
digit-letter d h = grind (arith, nat_tests)

digits-letters : (n : ℕ) → n < 2 ^ 64 → list_all is_letter (decimal n) ≡ true
digits-letters n small =
    decimal_by_steps (λ m ds. list_all is_letter ds ≡ true) (λ m h. rw (digit-letter m h) refl)
    (λ m ds h front. all-and is_letter ds ((48 + m % 10) ∷ []) front (rw (digit-letter (m % 10) (omega arith)) refl)) n small

pub decimal-is-value : (n : ℕ) → n < 2 ^ 64 → IsValue (decimal n)
decimal-is-value n small = letters-are-value (decimal n) (digits-letters n small)

pair-is-value : (b : ℕ) → is_graphic b ≡ true → IsValue (92 ∷ b ∷ [])
pair-is-value b g = record { graphic = rw g refl; closed = λ rest. onto-two 92 b (fields_after false rest) }

caret-is-value : (b : ℕ) → is_graphic b ≡ true → IsValue (94 ∷ b ∷ [])
caret-is-value b g = record { graphic = rw g refl; closed = λ rest. onto-two 94 b (fields_after false rest) }

by_test : (t : Bool) (xs ys : List ℕ) → ((t ≡ true) → IsValue xs) → ((t ≡ false) → IsValue ys) → IsValue (cond t xs ys)
by_test true xs ys one other = one refl
by_test false xs ys one other = other refl

octal-is-value : (b : ℕ) → b < 256 → IsValue (92 ∷ (48 + b / 64) ∷ (48 + b / 8 % 8) ∷ (48 + b % 8) ∷ [])
octal-is-value b h =
    let second = digit-letter (b / 8 % 8) (omega arith) in
    let third = digit-letter (b % 8) (omega arith) in
    let first : is_graphic (48 + b / 64) ≡ true = (let small : b / 64 < 10 = omega arith in grind (arith, nat_tests)) in
    IsValue-append (92 ∷ (48 + b / 64) ∷ []) ((48 + b / 8 % 8) ∷ (48 + b % 8) ∷ []) (pair-is-value (48 + b / 64) first) (letters-are-value ((48 + b / 8 % 8) ∷ (48 + b % 8) ∷ []) (rw (second, third) refl))

byte-graphic : (b : ℕ) → ltb b 32 ≡ false → eqb b 127 ≡ false → eqb b 32 ≡ false → ltb b 128 ≡ true → is_graphic b ≡ true
byte-graphic b n32 n127 nblank low = grind (arith, nat_tests)

special-graphic : (b : ℕ) → (eqb b 44 || (eqb b 92 || eqb b 94)) ≡ true → is_graphic b ≡ true
special-graphic b e = grind (arith, nat_tests)

no-special : (a b c : Bool) → (a || (b || c)) ≡ false → (a ≡ false) × ((b || c) ≡ false)
no-special true b c e = cc
no-special false b c e = (refl, e)

nil-is-value : IsValue []
nil-is-value = letters-are-value [] refl

printed_byte-is-value : (b : ℕ) → b < 256 → IsValue (printed_byte b)
printed_byte-is-value b small =
    by_test (eqb b 27) (92 ∷ 69 ∷ []) _ (λ e. pair-is-value 69 refl)
    (λ n27. by_test (ltb b 32) (94 ∷ (b + 64) ∷ []) _ (λ e. let low : b < 32 = grind (arith, nat_tests) in caret-is-value (b + 64) (grind (arith, nat_tests)))
    (λ n32. by_test (eqb b 127) (94 ∷ 63 ∷ []) _ (λ e. caret-is-value 63 refl)
    (λ n127. by_test (eqb b 32) (92 ∷ 115 ∷ []) _ (λ e. pair-is-value 115 refl)
    (λ nblank. by_test (eqb b 44 || (eqb b 92 || eqb b 94)) (92 ∷ b ∷ []) _ (λ e. pair-is-value b (special-graphic b e))
    (λ nspecial. by_test (ltb b 128) (b ∷ []) _
    (λ low. let parts = no-special (eqb b 44) (eqb b 92) (eqb b 94) nspecial in IsValue-first b [] (byte-graphic b n32 n127 nblank low) parts.0 parts.1 nil-is-value)
    (λ high. octal-is-value b small))))))

pub printed_text-is-value : (text : List ℕ) → IsText text → IsValue (printed_text text)
printed_text-is-value [] h = nil-is-value
printed_text-is-value (b ∷ bs) h = IsValue-append (printed_byte b) (printed_text bs) (printed_byte-is-value b h.1) (printed_text-is-value bs h.2)

and-false : (b : Bool) → (b && false) ≡ false
and-false true = refl
and-false false = refl

pub not-all-blank : (v : List ℕ) → list_all is_blank (v ++ 44 ∷ []) ≡ false
not-all-blank [] = refl
not-all-blank (b ∷ bs) = rw (not-all-blank bs) (and-false (is_blank b))

graphic-ascii : (b : ℕ) → is_graphic b ≡ true → is_ascii b ≡ true
graphic-ascii b e = grind (arith, nat_tests)

all-ascii : (v : List ℕ) → list_all is_graphic v ≡ true → list_all is_ascii (v ++ 44 ∷ []) ≡ true
all-ascii [] e = refl
all-ascii (b ∷ bs) e =
    let parts = both (is_graphic b) (list_all is_graphic bs) e in
    rw (graphic-ascii b parts.0) (all-ascii bs parts.1)

-- a line of a tab, a value and a comma
pub line-of-value : (v : List ℕ) → IsValue v → line_of (9 ∷ (v ++ 44 ∷ [])) ≡ Continues ((9 ∷ v) ∷ [] ∷ [])
line-of-value v is =
    let cut : fields (9 ∷ (v ++ 44 ∷ [])) ≡ (9 ∷ v) ∷ [] ∷ [] =
    ap (onto_first 9) (is.closed (44 ∷ [])) ∙ ap (λ x. (9 ∷ x) ∷ [] ∷ []) (append-nil v) in
    let kind : line_of (9 ∷ (v ++ 44 ∷ [])) ≡ Continues (fields (9 ∷ (v ++ 44 ∷ []))) = rw (not-all-blank v, all-ascii v is.graphic) refl in
    kind ∙ ap Continues cut
