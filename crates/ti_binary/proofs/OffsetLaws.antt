-- Where the texts of a string table begin, and one more number or text.
use Rattle.std.proofs.Common.{◌≡◌, ℕ, ◌+◌, ◌<◌, ◌≤◌, refl, ◌∙◌, ap, arith, zero, suc, map, List, [], ◌∷◌, ◌++◌, length, length-append, take, get_or, Option, None}
use Rattle.std.proofs.lemmas.List.{take_more, map-append, append-nil, length-take, get_or-take}
use Rattle.std.proofs.lemmas.List.Folds.{length-flat_map-take}
use Rattle.std.proofs.lemmas.List.Concat.{flat_map-append}
use Rattle.ti_binary.specs.Canonical.{ended, number_word, offset_of, offsets_from, table_of, word, words}

take-shorter : {A : Type 0} (i n : ℕ) (xs : List A) → i ≤ n → take i (take n xs) ≡ take i xs
take-shorter zero n xs le = refl
take-shorter (suc i) zero xs le = absurd (omega arith)
take-shorter (suc i) (suc n) [] le = refl
take-shorter (suc i) (suc n) (x ∷ xs) le = ap (λ ys. x ∷ ys) (take-shorter i n xs (omega arith))

offsets-append : (size : ℕ) (xs ys : List (Option (List ℕ))) → offsets_from size (xs ++ ys) ≡ offsets_from size xs ++ offsets_from (size + length (table_of xs)) ys
offsets-append size [] ys = ap (λ n. offsets_from n ys) (omega arith)
offsets-append size (x ∷ xs) ys =
    let n : size + length (ended x) + length (table_of xs) ≡ size + length (ended x ++ table_of xs) = omega (arith, length-append (ended x) (table_of xs)) in
    ap (λ os. offset_of size x ∷ os) (offsets-append (size + length (ended x)) xs ys
    ∙ ap (λ n. offsets_from (size + length (ended x)) xs ++ offsets_from n ys) n)

pub offsets_more : (texts : List (Option (List ℕ))) (i : ℕ) → i < length texts
    → words (offsets_from 0 (take (i + 1) texts)) ≡ words (offsets_from 0 (take i texts)) ++ word (offset_of (length (table_of (take i texts))) (get_or texts i None))
offsets_more texts i lt =
    let size : 0 + length (table_of (take i texts)) ≡ length (table_of (take i texts)) = omega arith in
    ap (λ ts. words (offsets_from 0 ts)) (take_more texts i None lt)
    ∙ ap words (offsets-append 0 (take i texts) (get_or texts i None ∷ []) ∙ ap (λ n. offsets_from 0 (take i texts) ++ offsets_from n (get_or texts i None ∷ [])) size)
    ∙ flat_map-append word (offsets_from 0 (take i texts)) (offset_of (length (table_of (take i texts))) (get_or texts i None) ∷ [])
    ∙ ap (λ w. words (offsets_from 0 (take i texts)) ++ w) (append-nil (word (offset_of (length (table_of (take i texts))) (get_or texts i None))))

pub table_more : (texts : List (Option (List ℕ))) (i : ℕ) → i < length texts
    → table_of (take (i + 1) texts) ≡ table_of (take i texts) ++ ended (get_or texts i None)
table_more texts i lt =
    ap table_of (take_more texts i None lt) ∙ flat_map-append ended (take i texts) (get_or texts i None ∷ [])
    ∙ ap (λ t. table_of (take i texts) ++ t) (append-nil (ended (get_or texts i None)))

pub numbers_more : (numbers : List (Option ℕ)) (i : ℕ) → i < length numbers
    → words (map number_word (take (i + 1) numbers)) ≡ words (map number_word (take i numbers)) ++ word (number_word (get_or numbers i None))
numbers_more numbers i lt =
    ap (λ ns. words (map number_word ns)) (take_more numbers i None lt)
    ∙ ap words (map-append number_word (take i numbers) (get_or numbers i None ∷ []))
    ∙ flat_map-append word (map number_word (take i numbers)) (number_word (get_or numbers i None) ∷ [])
    ∙ ap (λ w. words (map number_word (take i numbers)) ++ w) (append-nil (word (number_word (get_or numbers i None))))

-- in a table that is small, what stands before a text and the text with its NUL are small together
pub text_fits : (texts : List (Option (List ℕ))) (count i : ℕ) → i < count → count ≤ length texts → length (table_of (take count texts)) ≤ 4096
    → length (table_of (take i texts)) + length (ended (get_or texts i None)) ≤ 4096
text_fits texts count i lt le small =
    let inside : i < length (take count texts) = omega (arith, length-take count texts) in
    let before : take i (take count texts) ≡ take i texts = take-shorter i count texts (omega arith) in
    let sum = length-flat_map-take ended (take count texts) i None inside in
    omega (arith, sum, ap (λ ts. length (table_of ts)) before, ap (λ t. length (ended t)) (get_or-take count texts i None lt))
