-- Lists that grow by an element, and lists of numbers that are read one by one.
use Rattle.std.proofs.Common.{◌≡◌, ℕ, ◌+◌, ◌<◌, ◌≤◌, ◌||◌, ◌&&◌, Bool, true, false, cond, refl, ◌∙◌, ap, arith, List, [], ◌∷◌, ◌++◌, length, length-append, map, take, get_or, Option, Some, None, IfSome, is_some, option_map}
use Rattle.std.specs.List.{flat_map, list_all, list_any, range_with_len}
use Rattle.std.proofs.lemmas.List.{map-append, append-nil, length-map, length-take-le, take_more}
use Rattle.std.proofs.lemmas.List.Concat.{flat_map-append}
use Rattle.std.proofs.lemmas.List.FromFn.{map-range_with_len_more, length-map-range_with_len}
use Rattle.std.proofs.lemmas.List.Folds.{list_any-append, list_all-append}
use Rattle.std.proofs.lemmas.Bool.Decides.{nat_tests}
use Rattle.ti_binary.specs.Canonical.{word, words}
use Rattle.ti_extended.specs.Whole.{is_small_number}
use Rattle.ti_extended.specs.Sections.{kept}
use Rattle.ti_extended.specs.Forms.{joined, starts}

or-false : (b : Bool) → (b || false) ≡ b
or-false true = refl
or-false false = refl

-- one more index, where `f` reads the number there
pub read_more : (f : ℕ → ℕ) (i : ℕ) → map f (range_with_len 0 (i + 1)) ≡ map f (range_with_len 0 i) ++ f i ∷ []
read_more f i = map-range_with_len_more f 0 i i (omega arith)

pub said_more : {A : Type 0} (g : ℕ → A) (f : ℕ → ℕ) (i : ℕ) → map g (map f (range_with_len 0 (i + 1))) ≡ map g (map f (range_with_len 0 i)) ++ g (f i) ∷ []
said_more g f i = ap (map g) (read_more f i) ∙ map-append g (map f (range_with_len 0 i)) (f i ∷ [])

pub any_more : (p : ℕ → Bool) (f : ℕ → ℕ) (i : ℕ) → list_any p (map f (range_with_len 0 (i + 1))) ≡ (list_any p (map f (range_with_len 0 i)) || p (f i))
any_more p f i =
    ap (list_any p) (read_more f i) ∙ list_any-append p (map f (range_with_len 0 i)) (f i ∷ [])
    ∙ ap (λ b. list_any p (map f (range_with_len 0 i)) || b) (or-false (p (f i)))

-- a list of lists, put together: what one more number adds
pub flat_more : {A B : Type 0} (h : A → List B) (g : ℕ → A) (f : ℕ → ℕ) (i : ℕ)
    → flat_map h (map g (map f (range_with_len 0 (i + 1)))) ≡ flat_map h (map g (map f (range_with_len 0 i))) ++ h (g (f i))
flat_more h g f i =
    ap (flat_map h) (said_more g f i) ∙ flat_map-append h (map g (map f (range_with_len 0 i))) (g (f i) ∷ [])
    ∙ ap (λ xs. flat_map h (map g (map f (range_with_len 0 i))) ++ xs) (append-nil (h (g (f i))))

pub said_length : {A : Type 0} (g : ℕ → A) (f : ℕ → ℕ) (i : ℕ) → length (map g (map f (range_with_len 0 i))) ≡ i
said_length g f i = length-map (map f (range_with_len 0 i)) g ∙ length-map-range_with_len f 0 i

kept_step : (b : Bool) (n : List ℕ) (xs ys zs : List (List ℕ)) → xs ≡ ys ++ zs → cond b (n ∷ xs) xs ≡ cond b (n ∷ ys) ys ++ zs
kept_step true n xs ys zs e = ap (λ ws. n ∷ ws) e
kept_step false n xs ys zs e = e

-- what is kept of two lists, one after another
pub kept-append : (bs cs : List Bool) (ns ms : List (List ℕ)) → length bs ≡ length ns → kept (bs ++ cs) (ns ++ ms) ≡ kept bs ns ++ kept cs ms
kept-append [] cs [] ms e = refl
kept-append [] cs (n ∷ ns) ms e = absurd (omega arith)
kept-append (b ∷ bs) cs [] ms e = absurd (omega arith)
kept-append (b ∷ bs) cs (n ∷ ns) ms e = kept_step b n (kept (bs ++ cs) (ns ++ ms)) (kept bs ns) (kept cs ms) (kept-append bs cs ns ms (omega arith))

-- one more name
pub kept_more : (g : ℕ → List ℕ) (f : ℕ → ℕ) (there : List Bool) (i : ℕ) → i < length there
    → kept (take (i + 1) there) (map g (map f (range_with_len 0 (i + 1)))) ≡ kept (take i there) (map g (map f (range_with_len 0 i))) ++ kept (get_or there i false ∷ []) (g (f i) ∷ [])
kept_more g f there i lt =
    let bs : length (take i there) ≡ length (map g (map f (range_with_len 0 i))) = omega (arith, lt, said_length g f i, length-take-le i there (omega (arith, lt))) in
    (λ k. kept (take_more there i false lt k) (said_more g f i k))
    ∙ kept-append (take i there) (get_or there i false ∷ []) (map g (map f (range_with_len 0 i))) (g (f i) ∷ []) bs

starts-append : (size : ℕ) (xs ys : List (List ℕ)) → starts size (xs ++ ys) ≡ starts size xs ++ starts (size + length (joined xs)) ys
starts-append size [] ys = ap (λ n. starts n ys) (omega arith)
starts-append size (x ∷ xs) ys =
    let n : size + (length x + 1) + length (joined xs) ≡ size + length ((x ++ 0 ∷ []) ++ joined xs) =
    omega (arith, length-append (x ++ 0 ∷ []) (joined xs), length-append x (0 ∷ [])) in
    ap (λ os. size ∷ os) (starts-append (size + (length x + 1)) xs ys ∙ ap (λ k. starts (size + (length x + 1)) xs ++ starts k ys) n)

-- one more text begins behind those before it
pub starts_more : (texts : List (List ℕ)) (i : ℕ) → i < length texts → starts 0 (take (i + 1) texts) ≡ starts 0 (take i texts) ++ length (joined (take i texts)) ∷ []
starts_more texts i lt =
    let size : 0 + length (joined (take i texts)) ≡ length (joined (take i texts)) = omega arith in
    ap (starts 0) (take_more texts i [] lt) ∙ starts-append 0 (take i texts) (get_or texts i [] ∷ []) ∙ ap (λ n. starts 0 (take i texts) ++ n ∷ []) size

pub joined_more : (texts : List (List ℕ)) (i : ℕ) → i < length texts → joined (take (i + 1) texts) ≡ joined (take i texts) ++ (get_or texts i [] ++ 0 ∷ [])
joined_more texts i lt =
    ap joined (take_more texts i [] lt) ∙ flat_map-append (λ text. text ++ 0 ∷ []) (take i texts) (get_or texts i [] ∷ [])
    ∙ ap (λ t. joined (take i texts) ++ t) (append-nil (get_or texts i [] ++ 0 ∷ []))

pub and_comm : (a b : Bool) → (a && b) ≡ (b && a)
and_comm true true = refl
and_comm true false = refl
and_comm false true = refl
and_comm false false = refl

-- what is tested of one more number that is read
pub tests_more : {A B : Type 0} (h : A → B) (g : ℕ → A) (f : ℕ → ℕ) (i : ℕ)
    → map h (map g (map f (range_with_len 0 (i + 1)))) ≡ map h (map g (map f (range_with_len 0 i))) ++ h (g (f i)) ∷ []
tests_more h g f i = ap (map h) (said_more g f i) ∙ map-append h (map g (map f (range_with_len 0 i))) (g (f i) ∷ [])

pub is_some-option_map : {A B : Type 0} (f : A → B) (o : Option A) → is_some (option_map f o) ≡ is_some o
is_some-option_map f None = refl
is_some-option_map f (Some x) = refl

pub small_number : (o : Option ℕ) → IfSome o (λ n. n ≤ 2147483647) → is_small_number o ≡ true
small_number None h = refl
small_number (Some n) h = grind (arith, nat_tests)

and-true : (a b : Bool) → a ≡ true → b ≡ true → (a && (b && true)) ≡ true
and-true a b h k = rw (h, k) refl

pub small_more : (os ps : List (Option ℕ)) (o : Option ℕ) → ps ≡ os ++ o ∷ [] → list_all is_small_number os ≡ true → is_small_number o ≡ true → list_all is_small_number ps ≡ true
small_more os ps o e h k = ap (list_all is_small_number) e ∙ list_all-append is_small_number os (o ∷ []) ∙ and-true (list_all is_small_number os) (is_small_number o) h k

pub words_more : (ns : List ℕ) (n : ℕ) → words (ns ++ n ∷ []) ≡ words ns ++ word n
words_more ns n = flat_map-append word ns (n ∷ []) ∙ ap (λ w. words ns ++ w) (append-nil (word n))
