-- Texts in UTF-8 that need not be well formed: how the bytes at their front are read.
use Rattle.std.proofs.Common.{◌≡◌, ◌∙◌, ℕ, zero, suc, ◌<◌, ◌≤◌, ap, refl, sym, subst, arith, length, take, drop, List, [], ◌∷◌, ◌++◌, append_assoc, true, false, Bool}
use lib.Utf8.{encode, encodes, scalar, scalars}
use Rattle.std.proofs.lemmas.List.{append-nil, drop_all, length-drop, take-append-drop, take_all}
use Rattle.std.proofs.lemmas.Str.{IsUtf8-encode, IsUtf8-from_is_utf8, chars-append, chars-encodes, encodes-chars, is_utf8-from_IsUtf8, len_utf8_bounds, length-encode, scalars-chars}
use Rattle.std.proofs.str.Laws.{both}
use Rattle.std.specs.Str.{IsUtf8, IsValidUpTo, StartsWithNoChar, chars, is_utf8}
use Rattle.huttavel_c.specs.Texts.{AreRead, AreReadFirst, Broken, Nothing, WellFormed}

-- characters, and what is read after them
characters_read : (cs rest more : List ℕ) → scalars cs ≡ true → AreRead rest more → AreRead (encodes cs ++ rest) (cs ++ more)
characters_read [] rest more h read = read
characters_read (c ∷ cs) rest more h read =
    let parts = both (scalar c) (scalars cs) h in
    subst (λ bs. AreRead bs (c ∷ (cs ++ more))) (sym (append_assoc (encode c) (encodes cs) rest))
    (WellFormed c (encodes cs ++ rest) (cs ++ more) parts.0 (characters_read cs rest more parts.1 read))

-- as much of a text as is well formed is read as its characters
pub front_read : (bytes : List ℕ) (n : ℕ) → IsUtf8 (take n bytes) → AreReadFirst bytes (drop n bytes) (chars (take n bytes))
front_read bytes n utf8 more read =
    let front : List ℕ = take n bytes in
    let whole : encodes (chars front) ++ drop n bytes ≡ bytes = ap (λ bs. bs ++ drop n bytes) (encodes-chars front utf8) ∙ take-append-drop n bytes in
    subst (λ bs. AreRead bs (chars front ++ more)) whole (characters_read (chars front) (drop n bytes) more (scalars-chars front utf8) read)

take-front : (xs ys : List ℕ) → take (length xs) (xs ++ ys) ≡ xs
take-front [] ys = refl
take-front (x ∷ xs) ys = ap (λ l. x ∷ l) (take-front xs ys)

-- where nothing at the front is well formed, no character begins
none_begins : (bytes : List ℕ) → ((n : ℕ) → 1 ≤ n → n ≤ 4 → ¬ (IsUtf8 (take n bytes))) → StartsWithNoChar bytes
none_begins bytes none c rest scalar_c is =
    let size = length-encode c in
    let some = len_utf8_bounds c in
    let front : take (length (encode c)) bytes ≡ encode c = ap (take (length (encode c))) is ∙ take-front (encode c) rest in
    none (length (encode c)) (omega (arith, size, some.0)) (omega (arith, size, some.1)) (subst IsUtf8 (sym front) (IsUtf8-encode c scalar_c))

-- and its first byte is broken
broken_read : (bytes : List ℕ) → 0 < length bytes → StartsWithNoChar bytes → AreReadFirst bytes (drop 1 bytes) (0xFFFD ∷ [])
broken_read [] some none more read = absurd (omega (arith, some))
broken_read (b ∷ bs) some none more read = Broken b bs more none read

pub first_broken : (bytes : List ℕ) → IsValidUpTo bytes 0 → AreReadFirst bytes (drop 1 bytes) (0xFFFD ∷ [])
first_broken bytes valid =
    let short : 0 < length bytes = valid.short in
    broken_read bytes short (none_begins bytes (λ n some few. valid.longest n (omega (arith, some))))

-- ---- each text is read somehow

-- bytes at the front of a text, at least one
abbrev IsReadSome : List ℕ → Type 0
IsReadSome bytes = (n : ℕ) × (codes : List ℕ) × (1 ≤ n) × AreReadFirst bytes (drop n bytes) codes

read_some : (bytes : List ℕ) → 0 < length bytes → IsReadSome bytes
read_some bytes some = one (is_utf8 (take 1 bytes)) refl
  where
    whole : (n : ℕ) → 1 ≤ n → is_utf8 (take n bytes) ≡ true → IsReadSome bytes
    whole n k e = (n, chars (take n bytes), k, front_read bytes n (IsUtf8-from_is_utf8 (take n bytes) e))

    differ : (n : ℕ) → is_utf8 (take n bytes) ≡ false → ¬ (IsUtf8 (take n bytes))
    differ n e utf8 = let clash : true ≡ false = sym (is_utf8-from_IsUtf8 (take n bytes) utf8) ∙ e in cc

    four : (b : Bool) → ¬ (IsUtf8 (take 1 bytes)) → ¬ (IsUtf8 (take 2 bytes)) → ¬ (IsUtf8 (take 3 bytes)) → is_utf8 (take 4 bytes) ≡ b → IsReadSome bytes
    four true h1 h2 h3 e = whole 4 (omega arith) e
    four false h1 h2 h3 e = (1, 0xFFFD ∷ [], omega arith, broken_read bytes some (none_begins bytes each))
      where
        each : (n : ℕ) → 1 ≤ n → n ≤ 4 → ¬ (IsUtf8 (take n bytes))
        each zero k l = absurd (omega (arith, k))
        each (suc zero) k l = h1
        each (suc (suc zero)) k l = h2
        each (suc (suc (suc zero))) k l = h3
        each (suc (suc (suc (suc zero)))) k l = differ 4 e
        each (suc (suc (suc (suc (suc n))))) k l = absurd (omega (arith, l))

    three : (b : Bool) → ¬ (IsUtf8 (take 1 bytes)) → ¬ (IsUtf8 (take 2 bytes)) → is_utf8 (take 3 bytes) ≡ b → IsReadSome bytes
    three true h1 h2 e = whole 3 (omega arith) e
    three false h1 h2 e = four (is_utf8 (take 4 bytes)) h1 h2 (differ 3 e) refl

    two : (b : Bool) → ¬ (IsUtf8 (take 1 bytes)) → is_utf8 (take 2 bytes) ≡ b → IsReadSome bytes
    two true h1 e = whole 2 (omega arith) e
    two false h1 e = three (is_utf8 (take 3 bytes)) h1 (differ 2 e) refl

    one : (b : Bool) → is_utf8 (take 1 bytes) ≡ b → IsReadSome bytes
    one true e = whole 1 (omega arith) e
    one false e = two (is_utf8 (take 2 bytes)) (differ 1 e) refl

read_within : (most : ℕ) (bytes : List ℕ) → length bytes ≤ most → (codes : List ℕ) × AreRead bytes codes
read_within most [] h = ([], Nothing)
read_within zero (b ∷ bs) h = absurd (omega (arith, h))
read_within (suc most) (b ∷ bs) h =
    let some : 0 < length (b ∷ bs) = omega arith in
    let first = read_some (b ∷ bs) some in
    let rest = read_within most (drop first.0 (b ∷ bs)) (omega (arith, h, first.2, length-drop first.0 (b ∷ bs))) in
    (first.1 ++ rest.0, first.3 rest.0 rest.1)

pub is_read : (bytes : List ℕ) → (codes : List ℕ) × AreRead bytes codes
is_read bytes = read_within (length bytes) bytes (omega arith)

-- all of a text
pub all_read : (bytes : List ℕ) → IsUtf8 bytes → AreReadFirst bytes (drop (length bytes) bytes) (chars bytes)
all_read bytes utf8 =
    let all : take (length bytes) bytes ≡ bytes = take_all (length bytes) bytes (omega arith) in
    subst (λ bs. AreReadFirst bytes (drop (length bytes) bytes) (chars bs)) all (front_read bytes (length bytes) (subst IsUtf8 (sym all) utf8))

-- the characters of a text that another was put behind
pub put_behind : (old new text : List ℕ) → IsUtf8 old → new ≡ old ++ text → chars new ≡ chars old ++ chars text
put_behind old new text utf8 is = ap chars is ∙ chars-append old text utf8

-- U+FFFD as a text
pub replacement : chars (encode 0xFFFD) ≡ 0xFFFD ∷ []
unfolding encode
replacement = chars-encodes (0xFFFD ∷ []) refl

-- nothing is left behind the end
pub none_left : (bytes : List ℕ) (n : ℕ) → length bytes ≤ n → AreRead (drop n bytes) []
none_left bytes n h = subst (λ bs. AreRead bs []) (sym (drop_all n bytes h)) Nothing

-- a text that is well formed
pub whole_read : (bytes : List ℕ) → IsUtf8 bytes → AreRead bytes (chars bytes)
whole_read bytes utf8 = subst (AreRead bytes) (append-nil (chars bytes)) (all_read bytes utf8 [] (none_left bytes (length bytes) (omega arith)))
