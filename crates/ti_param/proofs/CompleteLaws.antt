-- What a text spells, as the definition of spelling says, the reader finds.
use Rattle.std.proofs.Common.{◌≡◌, ℕ, ◌+◌, ◌-◌, ◌*◌, ◌^◌, ◌<◌, ◌≤◌, inl, inr, Bool, true, false, List, [], ◌∷◌, ◌++◌, length, Option, Ok, Err, pos, refl, sym, ap, ◌∙◌, arith, append_assoc}
use Rattle.std.specs.Prelude.{◌&&◌, eqb, nat_le, nat_lt, unwrap_or}
use Rattle.std.proofs.lemmas.List.{append-nil}
use Rattle.std.proofs.lemmas.Bool.{cond-true, cond-false, le-leb, lt-leb, lt-ltb, and_from, and_left, ne_eqb}
use Rattle.ti_param.specs.declared.directives.Directive.{Directive}
use Rattle.ti_param.specs.declared.directives.Directive.TheVariants.{Literal, Number, Character, Parameter, SetDynamic, SetStatic, GetDynamic, GetStatic, Constant, Binary, Not, Complement, Increment}
use Rattle.ti_param.specs.declared.directives.Operator.TheVariants.{Plus, Minus, Times, Over, Modulo, BitAnd, BitOr, BitXor, Equal, Greater, Less, Both, Either}
use Rattle.ti_param.specs.declared.directives.Conversion.{Conversion}
use Rattle.ti_param.specs.declared.directives.Conversion.TheVariants.{Decimal, Octal, LowerHex, UpperHex}
use Rattle.ti_param.specs.declared.directives.Format.{Format}
use Rattle.ti_param.specs.declared.tokens.Token.{Token}
use Rattle.ti_param.specs.declared.tokens.Token.TheVariants.{Do, If, Then, Else, EndIf}
use Rattle.ti_param.specs.declared.tokens.Flaw.TheVariants.{Cut, Text}
use Rattle.ti_param.specs.Spelling.{is_flag, IsDirective, decimal_value, IsFormat, AreInRange, conversion_letter, IsConstant, Spells, IsStringOperator, IsCut, in_format, in_number, before_byte, before_quote, before_parameter, before_set, before_get}
use Rattle.ti_param.specs.Faults.{HasStringOperator}
use Rattle.ti_param.specs.Code.Tokens.{parameter, letter_of, closing, constant, finished, directive, token}
use Rattle.ti_param.proofs.DigitLaws.{digits_through}
use Rattle.ti_param.proofs.NumeralLaws.{IsEnd, Heads, number_through, format_read}
use Rattle.ti_param.specs.Digits.{is_digit, all_digits}

-- ---- numbers

byte_end : (b : ℕ) (rest : List ℕ) → is_flag true b ≡ false → is_flag false b ≡ false → eqb b 58 ≡ false → is_digit b ≡ false → eqb b 46 ≡ false → eqb b 48 ≡ false → IsEnd (b ∷ rest)
byte_end b rest with_colon without colon digit dot zero = record { flag = both; colon = colon; digit = digit; dot = dot; zero = zero }
  where
    both : (colon : Bool) → is_flag colon b ≡ false
    both true = with_colon
    both false = without

letter_end : (c : Conversion) (rest : List ℕ) → IsEnd (conversion_letter c ++ rest)
letter_end Decimal rest = byte_end 100 rest refl refl refl refl refl refl
letter_end Octal rest = byte_end 111 rest refl refl refl refl refl refl
letter_end LowerHex rest = byte_end 120 rest refl refl refl refl refl refl
letter_end UpperHex rest = byte_end 88 rest refl refl refl refl refl refl

letter_heads : (c : Conversion) (rest : List ℕ) → Heads (conversion_letter c ++ rest)
letter_heads Decimal rest = λ r. refl
letter_heads Octal rest = λ r. refl
letter_heads LowerHex rest = λ r. refl
letter_heads UpperHex rest = λ r. refl

in_range : (w : ℕ) (p : Option ℕ) → w ≤ 99 → unwrap_or p 0 ≤ 99 → (nat_le w 99 && nat_le (unwrap_or p 0) 99) ≡ true
in_range w p a b = and_from (nat_le w 99) (nat_le (unwrap_or p 0) 99) (le-leb w 99 a) (le-leb (unwrap_or p 0) 99 b)

finished_letter : (g : Format) (w : ℕ) (p : Option ℕ) (c : Conversion) (rest : List ℕ) → w ≤ 99 → unwrap_or p 0 ≤ 99 → finished g w p (conversion_letter c ++ rest) ≡ Ok (Do (Number (record g { width = w; precision = p; conversion = c })), rest)
finished_letter g w p Decimal rest a b = cond-true (nat_le w 99 && nat_le (unwrap_or p 0) 99) _ _ (in_range w p a b)
finished_letter g w p Octal rest a b = cond-true (nat_le w 99 && nat_le (unwrap_or p 0) 99) _ _ (in_range w p a b)
finished_letter g w p LowerHex rest a b = cond-true (nat_le w 99 && nat_le (unwrap_or p 0) 99) _ _ (in_range w p a b)
finished_letter g w p UpperHex rest a b = cond-true (nat_le w 99 && nat_le (unwrap_or p 0) 99) _ _ (in_range w p a b)

same_format : (f g : Format) → g.left ≡ f.left → g.plus ≡ f.plus → g.blank ≡ f.blank → g.alternate ≡ f.alternate → g.zero ≡ f.zero → record g { width = f.width; precision = f.precision; conversion = f.conversion } ≡ f
same_format f g a b c d e = λ i. record f { left = a i; plus = b i; blank = c i; alternate = d i; zero = e i }

number_found : (f : Format) (format rest : List ℕ) → IsFormat f format → AreInRange f → token ((37 ∷ (format ++ conversion_letter f.conversion)) ++ rest) ≡ Ok (Do (Number f), rest)
number_found f format rest is range =
    let text : List ℕ = conversion_letter f.conversion ++ rest in
    let n = number_through f format text is (letter_end f.conversion rest) in
    ap directive (append_assoc format (conversion_letter f.conversion) rest)
    ∙ format_read f format text is (letter_heads f.conversion rest)
    ∙ n.1
    ∙ finished_letter n.0 f.width f.precision f.conversion rest range.0 range.1
    ∙ ap (λ (g : Format). Ok (Do (Number g), rest)) (same_format f n.0 n.2 n.3 n.4 n.5 n.6)

-- ---- variables, parameters and constants

parameter_found : (i : ℕ) (rest : List ℕ) → i < 9 → parameter ((49 + i) ∷ rest) ≡ Ok (Do (Parameter i), rest)
parameter_found i rest le =
    let same : 49 + i - 49 ≡ i = omega arith in
    cond-true (nat_le 49 (49 + i) && nat_le (49 + i) 57) _ _ (and_from (nat_le 49 (49 + i)) (nat_le (49 + i) 57) (le-leb 49 (49 + i) (omega arith)) (le-leb (49 + i) 57 (omega arith)))
    ∙ ap (λ k. Ok (Do (Parameter k), rest)) same

small_found : (dynamic static : ℕ → Directive) (i : ℕ) (rest : List ℕ) → i < 26 → letter_of dynamic static ((97 + i) ∷ rest) ≡ Ok (Do (dynamic i), rest)
small_found dynamic static i rest le =
    let same : 97 + i - 97 ≡ i = omega arith in
    cond-true (nat_le 97 (97 + i) && nat_le (97 + i) 122) _ _ (and_from (nat_le 97 (97 + i)) (nat_le (97 + i) 122) (le-leb 97 (97 + i) (omega arith)) (le-leb (97 + i) 122 (omega arith)))
    ∙ ap (λ k. Ok (Do (dynamic k), rest)) same

capital_found : (dynamic static : ℕ → Directive) (i : ℕ) (rest : List ℕ) → i < 26 → letter_of dynamic static ((65 + i) ∷ rest) ≡ Ok (Do (static i), rest)
capital_found dynamic static i rest le =
    let same : 65 + i - 65 ≡ i = omega arith in
    cond-false (nat_le 97 (65 + i) && nat_le (65 + i) 122) _ _ (and_left (nat_le 97 (65 + i)) (nat_le (65 + i) 122) (lt-leb 97 (65 + i) (omega arith)))
    ∙ cond-true (nat_le 65 (65 + i) && nat_le (65 + i) 90) _ _ (and_from (nat_le 65 (65 + i)) (nat_le (65 + i) 90) (le-leb 65 (65 + i) (omega arith)) (le-leb (65 + i) 90 (omega arith)))
    ∙ ap (λ k. Ok (Do (static k), rest)) same

value_of : (n : ℕ) (front : List ℕ) → n ≡ decimal_value front → 0 * 10 ^ length front + decimal_value front ≡ n
value_of n front e = omega (arith, e)

closed : (n : ℕ) (rest : List ℕ) → n < 2 ^ 31 → closing n (125 ∷ rest) ≡ Ok (Do (Constant (pos n)), rest)
closed n rest le = cond-true (nat_lt n (2 ^ 31)) _ _ (lt-ltb n (2 ^ 31) le)

constant_found : (n : ℕ) (front rest : List ℕ) → IsConstant n front → token (front ++ rest) ≡ Ok (Do (Constant (pos n)), rest)
constant_found n front rest (inl e) = ap (λ l. token (l ++ rest)) e
constant_found n front rest (inr x) =
    ap (λ l. token (l ++ rest)) x.1
    ∙ ap (λ l. constant l) (append_assoc x.0 (125 ∷ []) rest)
    ∙ ap (λ (r : ℕ × List ℕ). closing r.0 r.1) (digits_through 0 x.0 (125 ∷ rest) x.2 refl)
    ∙ ap (λ k. closing k (125 ∷ rest)) (value_of n x.0 x.3)
    ∙ closed n rest x.4

-- ---- all directives and marks

found : (d : Directive) (front rest : List ℕ) → IsDirective d front → token (front ++ rest) ≡ Ok (Do d, rest)
found (Literal b) front rest (inl x) = ap (λ l. token (l ++ rest)) x.1 ∙ cond-false (eqb b 37) _ _ (ne_eqb b 37 x.0)
found (Literal b) front rest (inr x) = ap (λ l. token (l ++ rest)) x.1 ∙ ap (λ k. Ok (Do (Literal k), rest)) (sym x.0)
found (Number f) front rest s = ap (λ l. token (l ++ rest)) s.1 ∙ number_found f s.0 rest s.2 s.3
found Character front rest s = ap (λ l. token (l ++ rest)) s
found (Parameter i) front rest s = ap (λ l. token (l ++ rest)) s.1 ∙ parameter_found i rest s.0
found (SetDynamic i) front rest s = ap (λ l. token (l ++ rest)) s.1 ∙ small_found SetDynamic SetStatic i rest s.0
found (SetStatic i) front rest s = ap (λ l. token (l ++ rest)) s.1 ∙ capital_found SetDynamic SetStatic i rest s.0
found (GetDynamic i) front rest s = ap (λ l. token (l ++ rest)) s.1 ∙ small_found GetDynamic GetStatic i rest s.0
found (GetStatic i) front rest s = ap (λ l. token (l ++ rest)) s.1 ∙ capital_found GetDynamic GetStatic i rest s.0
found (Constant z) front rest s = constant_found s.0 front rest s.2 ∙ ap (λ k. Ok (Do (Constant k), rest)) (sym s.1)
found (Binary Plus) front rest s = ap (λ l. token (l ++ rest)) s
found (Binary Minus) front rest s = ap (λ l. token (l ++ rest)) s
found (Binary Times) front rest s = ap (λ l. token (l ++ rest)) s
found (Binary Over) front rest s = ap (λ l. token (l ++ rest)) s
found (Binary Modulo) front rest s = ap (λ l. token (l ++ rest)) s
found (Binary BitAnd) front rest s = ap (λ l. token (l ++ rest)) s
found (Binary BitOr) front rest s = ap (λ l. token (l ++ rest)) s
found (Binary BitXor) front rest s = ap (λ l. token (l ++ rest)) s
found (Binary Equal) front rest s = ap (λ l. token (l ++ rest)) s
found (Binary Greater) front rest s = ap (λ l. token (l ++ rest)) s
found (Binary Less) front rest s = ap (λ l. token (l ++ rest)) s
found (Binary Both) front rest s = ap (λ l. token (l ++ rest)) s
found (Binary Either) front rest s = ap (λ l. token (l ++ rest)) s
found Not front rest s = ap (λ l. token (l ++ rest)) s
found Complement front rest s = ap (λ l. token (l ++ rest)) s
found Increment front rest s = ap (λ l. token (l ++ rest)) s

pub complete : (t : Token) (front rest : List ℕ) → Spells t front → token (front ++ rest) ≡ Ok (t, rest)
complete (Do d) front rest s = found d front rest s
complete If front rest s = ap (λ l. token (l ++ rest)) s
complete Then front rest s = ap (λ l. token (l ++ rest)) s
complete Else front rest s = ap (λ l. token (l ++ rest)) s
complete EndIf front rest s = ap (λ l. token (l ++ rest)) s

-- ---- string operators

finished_text : (g : Format) (w : ℕ) (p : Option ℕ) (rest : List ℕ) → w ≤ 99 → unwrap_or p 0 ≤ 99 → finished g w p (115 ∷ rest) ≡ Err Text
finished_text g w p rest a b = cond-true (nat_le w 99 && nat_le (unwrap_or p 0) 99) _ _ (in_range w p a b)

string_found : (front rest : List ℕ) → IsStringOperator front → token (front ++ rest) ≡ Err Text
string_found front rest (inl e) = ap (λ l. token (l ++ rest)) e
string_found front rest (inr x) =
    let n = number_through x.0 x.1 (115 ∷ rest) x.3 (byte_end 115 rest refl refl refl refl refl refl) in
    ap (λ l. token (l ++ rest)) x.2
    ∙ ap directive (append_assoc x.1 (115 ∷ []) rest)
    ∙ format_read x.0 x.1 (115 ∷ rest) x.3 (λ r. refl)
    ∙ n.1
    ∙ finished_text n.0 (x.0).width (x.0).precision rest x.4.0 x.4.1

pub complete_string : (text : List ℕ) → HasStringOperator text → token text ≡ Err Text
complete_string text s = ap token s.3 ∙ string_found s.0 s.1 s.2

-- ---- texts that end inside a directive

format_cut : (f : Format) (format : List ℕ) → IsFormat f format → directive format ≡ Err Cut
format_cut f format is =
    let n = number_through f format [] is (record { flag = λ colon. refl; colon = refl; digit = refl; dot = refl; zero = refl }) in
    ap directive (sym (append-nil format)) ∙ format_read f format [] is tt ∙ n.1

number_cut : (front : List ℕ) → all_digits front ≡ true → constant front ≡ Err Cut
number_cut front all =
    ap constant (sym (append-nil front)) ∙ ap (λ (r : ℕ × List ℕ). closing r.0 r.1) (digits_through 0 front [] all refl)

pub complete_cut : (text : List ℕ) → IsCut text → token text ≡ Err Cut
complete_cut text (in_format f format is) = format_cut f format is
complete_cut text (in_number front all) = number_cut front all
complete_cut text before_byte = refl
complete_cut text (before_quote b) = refl
complete_cut text before_parameter = refl
complete_cut text before_set = refl
complete_cut text before_get = refl
