-- The bytes of a character above ASCII in UTF-8, and which bytes are those of one.
use Rattle.std.proofs.Common.{◌≡◌, ℕ, ◌+◌, ◌-◌, ◌*◌, ◌/◌, ◌%◌, ◌<◌, ◌≤◌, cond, eqb, List, [], ◌∷◌, ◌++◌, ◌⊎◌, inl, inr, refl, sym, ap, ◌∙◌, subst, arith}
use Rattle.std.specs.Prelude.{IsTrue}
use Rattle.std.specs.Char.{IsScalar, encode_utf8}
use Rattle.std.proofs.lemmas.Bool.{cases_lt}
use Rattle.std.proofs.lemmas.Bool.Decides.{nat_tests}
use Rattle.scr_cells.specs.declared.charsets.Charset.{Charset}
use Rattle.scr_cells.specs.declared.charsets.Charset.TheVariants.{Utf8}
use Rattle.scr_term.specs.Ecma.Units.{IsSpelled}
use Rattle.scr_terminal.specs.Code.Readings.{is_second}

-- the value of two bytes, and of three
abbrev pub value_of_two : ℕ → ℕ → ℕ
value_of_two b c = (b - 192) * 64 + (c - 128)

abbrev pub value_of_three : ℕ → ℕ → ℕ → ℕ
value_of_three b c d = (b - 224) * 4096 + (c - 128) * 64 + (d - 128)

two_bytes : (code : ℕ) → 128 ≤ code → code < 2048 → encode_utf8 code ≡ (192 + code / 64) ∷ (128 + code % 64) ∷ []
unfolding encode_utf8
two_bytes code low high = grind (arith, nat_tests)

three_bytes : (code : ℕ) → 2048 ≤ code → code < 65536 → encode_utf8 code ≡ (224 + code / 4096) ∷ (128 + (code / 64) % 64) ∷ (128 + code % 64) ∷ []
unfolding encode_utf8
three_bytes code low high = grind (arith, nat_tests)

not_surrogate : (code : ℕ) → IsScalar code → (code < 55296) ⊎ (57344 ≤ code)
not_surrogate code h = grind (arith, nat_tests)

second_of_two : (code : ℕ) → 160 ≤ code → code < 2048 → IsTrue (is_second (192 + code / 64) (128 + code % 64))
second_of_two code low high = grind (arith, nat_tests)

second_of_three : (code : ℕ) → 2048 ≤ code → code < 65536 → (code < 55296) ⊎ (57344 ≤ code) → IsTrue (is_second (224 + code / 4096) (128 + (code / 64) % 64))
second_of_three code low high scalar = grind (arith, nat_tests)

-- the bytes of a spelled character: two of these values, or three
pub data SpelledBytes (code : ℕ) : Type 0 where
  of_two : (b c : ℕ) → 194 ≤ b → b ≤ 223 → IsTrue (is_second b c) → code ≡ value_of_two b c → encode_utf8 code ≡ b ∷ c ∷ [] → SpelledBytes code
  of_three : (b c d : ℕ) → 224 ≤ b → b ≤ 239 → IsTrue (is_second b c) → 128 ≤ d → d ≤ 191 → code ≡ value_of_three b c d → encode_utf8 code ≡ b ∷ c ∷ d ∷ []
      → SpelledBytes code

bytes_by : (code : ℕ) → 160 ≤ code → code ≤ 65535 → IsScalar code → (code < 2048) ⊎ (2048 ≤ code) → SpelledBytes code
bytes_by code from few scalar (inl low) =
    of_two (192 + code / 64) (128 + code % 64) (omega arith) (omega arith) (second_of_two code from low) (omega arith) (two_bytes code (omega arith) low)
bytes_by code from few scalar (inr high) =
    of_three (224 + code / 4096) (128 + (code / 64) % 64) (128 + code % 64) (omega arith) (omega arith)
    (second_of_three code high (omega arith) (not_surrogate code scalar)) (omega arith) (omega arith) (omega arith) (three_bytes code high (omega arith))

pub spelled_bytes : (charset : Charset) (code : ℕ) → IsSpelled charset code → SpelledBytes code
spelled_bytes charset code h = bytes_by code h.from h.few h.scalar (cases_lt code 2048)

first_by : (code : ℕ) → SpelledBytes code → (b : ℕ) × (rest : List ℕ) × (194 ≤ b) × (encode_utf8 code ≡ b ∷ rest)
first_by code (of_two b c low high second value e) = (b, c ∷ [], low, e)
first_by code (of_three b c d low high second from end value e) = (b, c ∷ d ∷ [], omega arith, e)

-- its first byte
pub first_of_spelled : (charset : Charset) (code : ℕ) → IsSpelled charset code → (b : ℕ) × (rest : List ℕ) × (194 ≤ b) × (encode_utf8 code ≡ b ∷ rest)
first_of_spelled charset code h = first_by code (spelled_bytes charset code h)

-- the first bytes of a text that begins with such a character
begins : (code : ℕ) (x y bytes : List ℕ) → encode_utf8 code ++ x ≡ y → encode_utf8 code ≡ bytes → bytes ++ x ≡ y
begins code x y bytes e is = ap (λ t. t ++ x) (sym is) ∙ e

spelled_first_by : (code : ℕ) (x y : List ℕ) (b : ℕ) → SpelledBytes code → encode_utf8 code ++ x ≡ b ∷ y → (194 ≤ b) × (b ≤ 239)
spelled_first_by code x y b (of_two p q low high second value is) e =
    let whole : p ∷ q ∷ x ≡ b ∷ y = begins code x (b ∷ y) (p ∷ q ∷ []) e is in
    let same : p ≡ b = cc in
    (omega arith, omega arith)
spelled_first_by code x y b (of_three p q r low high second from end value is) e =
    let whole : p ∷ q ∷ r ∷ x ≡ b ∷ y = begins code x (b ∷ y) (p ∷ q ∷ r ∷ []) e is in
    let same : p ≡ b = cc in
    (omega arith, omega arith)

pub spelled_first : (charset : Charset) (code : ℕ) (x y : List ℕ) (b : ℕ) → IsSpelled charset code → encode_utf8 code ++ x ≡ b ∷ y → (194 ≤ b) × (b ≤ 239)
spelled_first charset code x y b h e = spelled_first_by code x y b (spelled_bytes charset code h) e

second_is : (p q b c : ℕ) → p ≡ b → q ≡ c → IsTrue (is_second p q) → IsTrue (is_second b c)
second_is p q b c e f h = subst (λ n. IsTrue (is_second b n)) f (subst (λ n. IsTrue (is_second n q)) e h)

spelled_second_by : (code : ℕ) (x y : List ℕ) (b c : ℕ) → SpelledBytes code → encode_utf8 code ++ x ≡ b ∷ c ∷ y → IsTrue (is_second b c)
spelled_second_by code x y b c (of_two p q low high second value is) e =
    let whole : p ∷ q ∷ x ≡ b ∷ c ∷ y = begins code x (b ∷ c ∷ y) (p ∷ q ∷ []) e is in
    second_is p q b c (cc) (cc) second
spelled_second_by code x y b c (of_three p q r low high second from end value is) e =
    let whole : p ∷ q ∷ r ∷ x ≡ b ∷ c ∷ y = begins code x (b ∷ c ∷ y) (p ∷ q ∷ r ∷ []) e is in
    second_is p q b c (cc) (cc) second

pub spelled_second : (charset : Charset) (code : ℕ) (x y : List ℕ) (b c : ℕ) → IsSpelled charset code → encode_utf8 code ++ x ≡ b ∷ c ∷ y → IsTrue (is_second b c)
spelled_second charset code x y b c h e = spelled_second_by code x y b c (spelled_bytes charset code h) e

spelled_third_by : (code : ℕ) (x y : List ℕ) (b c d : ℕ) → SpelledBytes code → 224 ≤ b → encode_utf8 code ++ x ≡ b ∷ c ∷ d ∷ y → (128 ≤ d) × (d ≤ 191)
spelled_third_by code x y b c d (of_two p q low high second value is) long e =
    let whole : p ∷ q ∷ x ≡ b ∷ c ∷ d ∷ y = begins code x (b ∷ c ∷ d ∷ y) (p ∷ q ∷ []) e is in
    let same : p ≡ b = cc in
    absurd (omega arith)
spelled_third_by code x y b c d (of_three p q r low high second from end value is) long e =
    let whole : p ∷ q ∷ r ∷ x ≡ b ∷ c ∷ d ∷ y = begins code x (b ∷ c ∷ d ∷ y) (p ∷ q ∷ r ∷ []) e is in
    let same : r ≡ d = cc in
    (omega arith, omega arith)

pub spelled_third : (charset : Charset) (code : ℕ) (x y : List ℕ) (b c d : ℕ) → IsSpelled charset code → 224 ≤ b → encode_utf8 code ++ x ≡ b ∷ c ∷ d ∷ y
    → (128 ≤ d) × (d ≤ 191)
spelled_third charset code x y b c d h long e = spelled_third_by code x y b c d (spelled_bytes charset code h) long e

scalar_by : (code : ℕ) → (code < 55296) ⊎ ((57344 ≤ code) × (code ≤ 65535)) → IsScalar code
scalar_by code h = grind (arith, nat_tests)

-- two bytes that are a spelled character
pub two_are : (b c : ℕ) → 194 ≤ b → b ≤ 223 → IsTrue (is_second b c) → IsSpelled Utf8 (value_of_two b c) × (encode_utf8 (value_of_two b c) ≡ b ∷ c ∷ [])
two_are b c low high second =
    let from : 160 ≤ value_of_two b c = grind (arith, nat_tests) in
    let most : value_of_two b c < 2048 = grind (arith, nat_tests) in
    let first : 192 + value_of_two b c / 64 ≡ b = grind (arith, nat_tests) in
    let other : 128 + value_of_two b c % 64 ≡ c = grind (arith, nat_tests) in (
      record { utf8 = refl; from = from; few = omega arith; scalar = scalar_by (value_of_two b c) (inl (omega arith)) },
      two_bytes (value_of_two b c) (omega arith) most ∙ (λ i. first i ∷ other i ∷ []),
    )

-- three bytes that are one
pub three_are : (b c d : ℕ) → 224 ≤ b → b ≤ 239 → IsTrue (is_second b c) → 128 ≤ d → d ≤ 191
    → IsSpelled Utf8 (value_of_three b c d) × (encode_utf8 (value_of_three b c d) ≡ b ∷ c ∷ d ∷ [])
three_are b c d low high second from end =
    let least : 2048 ≤ value_of_three b c d = grind (arith, nat_tests) in
    let most : value_of_three b c d ≤ 65535 = grind (arith, nat_tests) in
    let scalar : (value_of_three b c d < 55296) ⊎ ((57344 ≤ value_of_three b c d) × (value_of_three b c d ≤ 65535)) = grind (arith, nat_tests) in
    let first : 224 + value_of_three b c d / 4096 ≡ b = grind (arith, nat_tests) in
    let middle : 128 + (value_of_three b c d / 64) % 64 ≡ c = grind (arith, nat_tests) in
    let other : 128 + value_of_three b c d % 64 ≡ d = grind (arith, nat_tests) in (
      record { utf8 = refl; from = omega arith; few = most; scalar = scalar_by (value_of_three b c d) scalar },
      three_bytes (value_of_three b c d) least (omega arith) ∙ (λ i. first i ∷ middle i ∷ other i ∷ []),
    )

-- a second byte that goes with every first one
abbrev pub some_second : ℕ → ℕ
some_second b = cond (eqb b 237) 128 160

pub some_second_is : (b : ℕ) → IsTrue (is_second b (some_second b))
some_second_is b = grind (arith, nat_tests)
