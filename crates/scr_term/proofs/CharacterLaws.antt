-- Characters that operations write.
use Rattle.std.proofs.Common.{◌≡◌, ℕ, ◌≤◌, ◌&&◌, ◌||◌, Bool, true, false, ap, arith, refl, nat_le}
use Rattle.std.specs.Char.{IsScalar}
use Rattle.std.proofs.lemmas.Bool.{and_parts}
use Rattle.std.proofs.lemmas.Bool.Decides.{nat_tests}
use Rattle.scr_cells.specs.Characters.{IsCharacter, is_ascii, is_beyond_ascii, is_utf8}
use Rattle.scr_cells.specs.declared.charsets.Charset.{Charset}
use Rattle.scr_cells.specs.declared.charsets.Charset.TheVariants.{Ascii, Utf8}
use Rattle.scr_term.specs.Ecma.Units.{IsSpelled}

utf8_is : (charset : Charset) → is_utf8 charset ≡ true → charset ≡ Utf8
utf8_is Ascii e = (cc)
utf8_is Utf8 e = refl

in_ranges : (code : ℕ) (rest : Bool) → (((nat_le 160 code && nat_le code 55295) || (nat_le 57344 code && nat_le code 65535)) && rest) ≡ true → (160 ≤ code) × (code ≤ 65535) × IsScalar code
in_ranges code rest e =
    let ranges = (and_parts ((nat_le 160 code && nat_le code 55295) || (nat_le 57344 code && nat_le code 65535)) rest e).0 in
    (grind (arith, nat_tests), grind (arith, nat_tests), grind (arith, nat_tests))

pub beyond_ascii : (code : ℕ) → is_beyond_ascii code ≡ true → (160 ≤ code) × (code ≤ 65535) × IsScalar code
unfolding is_beyond_ascii
beyond_ascii code e = in_ranges code _ e

pub is_spelled : (charset : Charset) (code : ℕ) → is_utf8 charset ≡ true → is_beyond_ascii code ≡ true → IsSpelled charset code
is_spelled charset code utf8 beyond =
    let is = beyond_ascii code beyond in
    record { utf8 = utf8_is charset utf8; from = is.0; few = is.1; scalar = is.2 }

pub ascii_is_character : (code : ℕ) → 32 ≤ code → code ≤ 126 → IsCharacter code
ascii_is_character code low high = let here : is_ascii code ≡ true = grind (arith, nat_tests) in ap (λ t. t || is_beyond_ascii code) here

either : (a b : Bool) → b ≡ true → (a || b) ≡ true
either true b e = refl
either false b e = e

pub beyond_is_character : (code : ℕ) → is_beyond_ascii code ≡ true → IsCharacter code
beyond_is_character code e = either (is_ascii code) (is_beyond_ascii code) e
