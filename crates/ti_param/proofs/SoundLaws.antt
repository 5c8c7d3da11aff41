-- What the reader finds at the head of a text stands there, as the definition of its spelling says.
use Rattle.std.proofs.Common.{◌≡◌, ℕ, ◌+◌, ◌-◌, ◌^◌, ◌<◌, inl, inr, true, false, List, [], ◌∷◌, ◌++◌, Option, Some, None, Ok, Err, pos, refl, sym, ap, subst, ◌∙◌, arith, append_assoc}
use Rattle.std.specs.Prelude.{◌&&◌, eqb, nat_le, nat_lt, unwrap_or}
use Rattle.std.proofs.lemmas.List.{append-nil}
use Rattle.std.proofs.lemmas.Bool.{cond_both, eqb-true, eqb-false, leb-true, ltb-true, and_parts}
use Rattle.ti_param.specs.declared.directives.Directive.{Directive}
use Rattle.ti_param.specs.declared.directives.Directive.TheVariants.{Literal, Number, Character, Parameter, SetDynamic, SetStatic, GetDynamic, GetStatic, Constant, Binary, Not, Complement, Increment}
use Rattle.ti_param.specs.declared.directives.Operator.{Operator}
use Rattle.ti_param.specs.declared.directives.Operator.TheVariants.{Plus, Minus, Times, Over, Modulo, BitAnd, BitOr, BitXor, Equal, Greater, Less, Both, Either}
use Rattle.ti_param.specs.declared.directives.Conversion.{Conversion}
use Rattle.ti_param.specs.declared.directives.Conversion.TheVariants.{Decimal, Octal, LowerHex, UpperHex}
use Rattle.ti_param.specs.declared.directives.Format.{Format}
use Rattle.ti_param.specs.declared.tokens.Token.{Token}
use Rattle.ti_param.specs.declared.tokens.Token.TheVariants.{Do, If, Then, Else, EndIf}
use Rattle.ti_param.specs.declared.tokens.Flaw.TheVariants.{Cut, Wrong, Text}
use Rattle.ti_param.specs.Spelling.{decimal_value, begins_with, has, AreFlags, IsPrecision, IsFormat, AreInRange, conversion_letter, Spells, BeginsWith, IsCut, in_format, in_number, before_byte, before_quote, before_parameter, before_set, before_get}
use Rattle.ti_param.specs.Faults.{HasStringOperator}
use Rattle.ti_param.specs.Code.Tokens.{Reading, single, parameter, letter_of, quoted, digits, closing, constant, flags, all_flags, precision, conversion, converted, finished, number, choose, or_else, directive, token}
use Rattle.ti_param.specs.Numbers.{plain}
use Rattle.ti_param.proofs.DigitLaws.{digits_are}
use Rattle.ti_param.proofs.FlagLaws.{flags_are}
use Rattle.ti_param.specs.Digits.{all_digits}

-- what was read stands at the head of the text
abbrev pub Seen : List ℕ → Reading → Type 0
Seen text (Ok r) = BeginsWith r.0 text r.1
Seen text (Err Cut) = IsCut text
Seen text (Err Wrong) = Unit {0}
Seen text (Err Text) = HasStringOperator text

-- ---- the directives of one byte

short : (t : Token) (b c : ℕ) (text : List ℕ) → Spells t (37 ∷ c ∷ []) → eqb b c ≡ true → BeginsWith t (37 ∷ b ∷ text) text
short t b c text s e = (37 ∷ c ∷ [], s, ap (λ x. 37 ∷ x ∷ text) (eqb-true b c e))

-- ---- parameters, variables and constants

parameter_seen : (text : List ℕ) → Seen (37 ∷ 112 ∷ text) (parameter text)
parameter_seen [] = before_parameter
parameter_seen (b ∷ text) =
    cond_both (nat_le 49 b && nat_le b 57) (Ok (Do (Parameter (b - 49)), text)) (Err Wrong) (Seen (37 ∷ 112 ∷ b ∷ text)) (λ e.
    let p = and_parts (nat_le 49 b) (nat_le b 57) e in
    let low = leb-true 49 b p.0 in
    let high = leb-true b 57 p.1 in
    let same : b ≡ 49 + (b - 49) = omega arith in
    (37 ∷ 112 ∷ b ∷ [], (omega arith, ap (λ x. 37 ∷ 112 ∷ x ∷ []) same), refl)) (λ _. tt)

-- a letter after `%P` or `%g`
letter_seen : (c : ℕ) (dynamic static : ℕ → Directive) (text : List ℕ) → IsCut (37 ∷ c ∷ []) → ((i : ℕ) → i < 26 → Spells (Do (dynamic i)) (37 ∷ c ∷ (97 + i) ∷ [])) → ((i : ℕ) → i < 26 → Spells (Do (static i)) (37 ∷ c ∷ (65 + i) ∷ [])) → Seen (37 ∷ c ∷ text) (letter_of dynamic static text)
letter_seen c dynamic static [] cut low high = cut
letter_seen c dynamic static (b ∷ text) cut small capital =
    cond_both (nat_le 97 b && nat_le b 122) (Ok (Do (dynamic (b - 97)), text)) _ (Seen (37 ∷ c ∷ b ∷ text)) (λ e.
    let p = and_parts (nat_le 97 b) (nat_le b 122) e in
    let low = leb-true 97 b p.0 in
    let high = leb-true b 122 p.1 in
    let same : 97 + (b - 97) ≡ b = omega arith in
    (37 ∷ c ∷ b ∷ [], subst (λ x. Spells (Do (dynamic (b - 97))) (37 ∷ c ∷ x ∷ [])) same (small (b - 97) (omega arith)), refl)) (λ _.
    cond_both (nat_le 65 b && nat_le b 90) (Ok (Do (static (b - 65)), text)) (Err Wrong) (Seen (37 ∷ c ∷ b ∷ text)) (λ e.
    let p = and_parts (nat_le 65 b) (nat_le b 90) e in
    let low = leb-true 65 b p.0 in
    let high = leb-true b 90 p.1 in
    let same : 65 + (b - 65) ≡ b = omega arith in
    (37 ∷ c ∷ b ∷ [], subst (λ x. Spells (Do (static (b - 65))) (37 ∷ c ∷ x ∷ [])) same (capital (b - 65) (omega arith)), refl)) (λ _. tt))

quoted_seen : (text : List ℕ) → Seen (37 ∷ 39 ∷ text) (quoted text)
quoted_seen [] = before_byte
quoted_seen (b ∷ []) = before_quote b
quoted_seen (b ∷ c ∷ text) =
    cond_both (eqb c 39) (Ok (Do (Constant (pos b)), text)) (Err Wrong) (Seen (37 ∷ 39 ∷ b ∷ c ∷ text)) (λ e. (37 ∷ 39 ∷ b ∷ 39 ∷ [], (b, refl, inl refl), ap (λ x. 37 ∷ 39 ∷ b ∷ x ∷ text) (eqb-true c 39 e))) (λ _. tt)

closing_seen : (n : ℕ) (front text : List ℕ) → all_digits front ≡ true → n ≡ decimal_value front → Seen (37 ∷ 123 ∷ (front ++ text)) (closing n text)
closing_seen n front [] all value = subst (λ l. IsCut (37 ∷ 123 ∷ l)) (sym (append-nil front)) (in_number front all)
closing_seen n front (b ∷ text) all value =
    cond_both (eqb b 125 && nat_lt n (2 ^ 31)) (Ok (Do (Constant (pos n)), text)) (Err Wrong) (Seen (37 ∷ 123 ∷ (front ++ b ∷ text))) (λ e.
    let p = and_parts (eqb b 125) (nat_lt n (2 ^ 31)) e in
    let whole : 37 ∷ 123 ∷ (front ++ b ∷ text) ≡ (37 ∷ 123 ∷ (front ++ 125 ∷ [])) ++ text = ap (λ x. 37 ∷ 123 ∷ (front ++ x ∷ text)) (eqb-true b 125 p.0) ∙ ap (λ l. 37 ∷ 123 ∷ l) (sym (append_assoc front (125 ∷ []) text)) in
    (37 ∷ 123 ∷ (front ++ 125 ∷ []), (n, refl, inr (front, refl, all, value, ltb-true n (2 ^ 31) p.1)), whole)) (λ _. tt)

constant_seen : (text : List ℕ) → Seen (37 ∷ 123 ∷ text) (constant text)
constant_seen text =
    let d = digits_are 0 text in
    let n = digits 0 text in
    let value : n.0 ≡ decimal_value d.front = d.value ∙ omega arith in
    subst (λ l. Seen (37 ∷ 123 ∷ l) (closing n.0 n.1)) (sym d.whole) (closing_seen n.0 d.front n.1 d.are value)

-- ---- numbers

pub record AllFlagsAre (text : List ℕ) (r : Format × List ℕ) : Type 0 where
  pub front : List ℕ
  pub are : AreFlags front
  pub whole : text ≡ front ++ r.1
  pub left : (r.0).left ≡ has 45 front
  pub plus : (r.0).plus ≡ has 43 front
  pub blank : (r.0).blank ≡ has 32 front
  pub alternate : (r.0).alternate ≡ has 35 front

all_flags_are : (text : List ℕ) → AllFlagsAre text (all_flags text)
all_flags_are [] = record { front = []; are = inl refl; whole = refl; left = refl; plus = refl; blank = refl; alternate = refl }
all_flags_are (b ∷ text) =
    cond_both (eqb b 58) (flags true plain text) (flags false plain (b ∷ text)) (AllFlagsAre (b ∷ text)) (λ e.
    let d = flags_are true plain text in
    record { front = 58 ∷ d.front; are = inr (d.front, refl, d.are); whole = ap (λ x. x ∷ text) (eqb-true b 58 e) ∙ ap (λ l. 58 ∷ l) d.whole; left = d.left; plus = d.plus; blank = d.blank; alternate = d.alternate }) (λ _.
    let d = flags_are false plain (b ∷ text) in
    record { front = d.front; are = inl d.are; whole = d.whole; left = d.left; plus = d.plus; blank = d.blank; alternate = d.alternate })

pub PrecisionIs : List ℕ → Option ℕ × List ℕ → Type 0
PrecisionIs text r = (front : List ℕ) × IsPrecision r.0 front × (text ≡ front ++ r.1)

precision_is : (text : List ℕ) → PrecisionIs text (precision text)
unfolding PrecisionIs
precision_is [] = ([], refl, refl)
precision_is (b ∷ text) =
    let n = digits 0 text in
    cond_both (eqb b 46) (Some n.0, n.1) (None, b ∷ text) (PrecisionIs (b ∷ text)) (λ e.
    let d = digits_are 0 text in
    let value : n.0 ≡ decimal_value d.front = d.value ∙ omega arith in
    (46 ∷ d.front, (d.front, refl, d.are, value), ap (λ x. x ∷ text) (eqb-true b 46 e) ∙ ap (λ l. 46 ∷ l) d.whole)) (λ _. ([], refl, refl))

number_here : (f : Format) (b c : ℕ) (front text : List ℕ) → IsFormat f front → AreInRange f → conversion_letter f.conversion ≡ c ∷ [] → eqb b c ≡ true → BeginsWith (Do (Number f)) (37 ∷ (front ++ b ∷ text)) text
number_here f b c front text is range letter e =
    (37 ∷ (front ++ c ∷ []), (front, ap (λ l. 37 ∷ (front ++ l)) (sym letter), is, range), ap (λ x. 37 ∷ (front ++ x ∷ text)) (eqb-true b c e) ∙ ap (λ l. 37 ∷ l) (sym (append_assoc front (c ∷ []) text)))

string_here : (f : Format) (b : ℕ) (front text : List ℕ) → IsFormat f front → AreInRange f → eqb b 115 ≡ true → HasStringOperator (37 ∷ (front ++ b ∷ text))
string_here f b front text is range e =
    (37 ∷ (front ++ 115 ∷ []), text, inr (f, front, refl, is, range), ap (λ x. 37 ∷ (front ++ x ∷ text)) (eqb-true b 115 e) ∙ ap (λ l. 37 ∷ l) (sym (append_assoc front (115 ∷ []) text)))

converted_seen : (f : Format) (b : ℕ) (front text : List ℕ) → ((c : Conversion) → IsFormat (record f { conversion = c }) front) → AreInRange f → Seen (37 ∷ (front ++ b ∷ text)) (converted f (conversion b) b text)
converted_seen f b front text is range =
    let P : Option Conversion → Type 0 = λ o. Seen (37 ∷ (front ++ b ∷ text)) (converted f o b text) in
    cond_both (eqb b 100) (Some Decimal) _ P (number_here (record f { conversion = Decimal }) b 100 front text (is Decimal) range refl) (λ _.
    cond_both (eqb b 111) (Some Octal) _ P (number_here (record f { conversion = Octal }) b 111 front text (is Octal) range refl) (λ _.
    cond_both (eqb b 120) (Some LowerHex) _ P (number_here (record f { conversion = LowerHex }) b 120 front text (is LowerHex) range refl) (λ _.
    cond_both (eqb b 88) (Some UpperHex) None P (number_here (record f { conversion = UpperHex }) b 88 front text (is UpperHex) range refl) (λ _.
    cond_both (eqb b 115) (Err Text) (Err Wrong) (Seen (37 ∷ (front ++ b ∷ text))) (string_here f b front text (is f.conversion) range) (λ _. tt)))))

finished_seen : (f : Format) (w : ℕ) (p : Option ℕ) (front text : List ℕ) → ((c : Conversion) → IsFormat (record f { width = w; precision = p; conversion = c }) front) → Seen (37 ∷ (front ++ text)) (finished f w p text)
finished_seen f w p front [] is = subst (λ l. IsCut (37 ∷ l)) (sym (append-nil front)) (in_format (record f { width = w; precision = p }) front (is f.conversion))
finished_seen f w p front (b ∷ text) is =
    let g : Format = record f { width = w; precision = p } in
    cond_both (nat_le w 99 && nat_le (unwrap_or p 0) 99) (converted g (conversion b) b text) (Err Wrong) (Seen (37 ∷ (front ++ b ∷ text))) (λ e.
    let q = and_parts (nat_le w 99) (nat_le (unwrap_or p 0) 99) e in
    converted_seen g b front text is (leb-true w 99 q.0, leb-true (unwrap_or p 0) 99 q.1)) (λ _. tt)

number_seen : (text : List ℕ) → Seen (37 ∷ text) (number text)
unfolding PrecisionIs
number_seen text =
    let flagged = all_flags text in
    let wide = digits 0 flagged.1 in
    let precise = precision wide.1 in
    let a = all_flags_are text in
    let d = digits_are 0 flagged.1 in
    let p = precision_is wide.1 in
    let f : Format = record (flagged.0) { zero = begins_with 48 flagged.1 } in
    let front : List ℕ = a.front ++ (d.front ++ p.0) in
    let value : wide.0 ≡ decimal_value d.front = d.value ∙ omega arith in
    let is : (c : Conversion) → IsFormat (record f { width = wide.0; precision = precise.0; conversion = c }) front = λ c. record {
      flags = a.front;
      digits = d.front;
      point = p.0;
      whole = refl;
      are_flags = a.are;
      are_digits = d.are;
      left = a.left;
      plus = a.plus;
      blank = a.blank;
      alternate = a.alternate;
      zero = d.first;
      width = value;
      precision = p.1;
    } in
    let whole : text ≡ front ++ precise.1 = a.whole ∙ ap (λ l. a.front ++ l) (d.whole ∙ ap (λ l. d.front ++ l) p.2 ∙ sym (append_assoc d.front p.0 precise.1)) ∙ sym (append_assoc a.front (d.front ++ p.0) precise.1) in
    subst (λ l. Seen (37 ∷ l) (finished f wide.0 precise.0 precise.1)) (sym whole) (finished_seen f wide.0 precise.0 front precise.1 is)

-- ---- the choice

at_letter : (b c : ℕ) (text : List ℕ) (r : Reading) → Seen (37 ∷ c ∷ text) r → eqb b c ≡ true → Seen (37 ∷ b ∷ text) r
at_letter b c text r s e = subst (λ x. Seen (37 ∷ x ∷ text) r) (sym (eqb-true b c e)) s

choose_seen : (b : ℕ) (text : List ℕ) → Seen (37 ∷ b ∷ text) (choose b text)
choose_seen b text =
    let P : Reading → Type 0 = Seen (37 ∷ b ∷ text) in
    cond_both (eqb b 112) (parameter text) _ P (at_letter b 112 text (parameter text) (parameter_seen text)) (λ _.
    cond_both (eqb b 80) (letter_of SetDynamic SetStatic text) _ P (at_letter b 80 text (letter_of SetDynamic SetStatic text) (letter_seen 80 SetDynamic SetStatic text before_set (λ i le. (le, refl)) (λ i le. (le, refl)))) (λ _.
    cond_both (eqb b 103) (letter_of GetDynamic GetStatic text) _ P (at_letter b 103 text (letter_of GetDynamic GetStatic text) (letter_seen 103 GetDynamic GetStatic text before_get (λ i le. (le, refl)) (λ i le. (le, refl)))) (λ _.
    cond_both (eqb b 39) (quoted text) _ P (at_letter b 39 text (quoted text) (quoted_seen text)) (λ _.
    cond_both (eqb b 123) (constant text) _ P (at_letter b 123 text (constant text) (constant_seen text)) (λ _.
    cond_both (eqb b 108) (Err Text) (number (b ∷ text)) P (λ e. (37 ∷ 108 ∷ [], text, inl refl, ap (λ x. 37 ∷ x ∷ text) (eqb-true b 108 e))) (λ _. number_seen (b ∷ text)))))))

single_seen : (b : ℕ) (text : List ℕ) → Seen (37 ∷ b ∷ text) (or_else None (single b) b text)
single_seen b text =
    let P : Option Token → Type 0 = λ o. Seen (37 ∷ b ∷ text) (or_else None o b text) in
    cond_both (eqb b 37) (Some (Do (Literal 37))) _ P (short (Do (Literal 37)) b 37 text (inr (refl, refl))) (λ _.
    cond_both (eqb b 99) (Some (Do Character)) _ P (short (Do Character) b 99 text refl) (λ _.
    cond_both (eqb b 105) (Some (Do Increment)) _ P (short (Do Increment) b 105 text refl) (λ _.
    cond_both (eqb b 33) (Some (Do Not)) _ P (short (Do Not) b 33 text refl) (λ _.
    cond_both (eqb b 126) (Some (Do Complement)) _ P (short (Do Complement) b 126 text refl) (λ _.
    cond_both (eqb b 63) (Some If) _ P (short If b 63 text refl) (λ _.
    cond_both (eqb b 116) (Some Then) _ P (short Then b 116 text refl) (λ _.
    cond_both (eqb b 101) (Some Else) _ P (short Else b 101 text refl) (λ _.
    cond_both (eqb b 59) (Some EndIf) None P (short EndIf b 59 text refl) (λ _. choose_seen b text)))))))))

directive_seen : (b : ℕ) (text : List ℕ) → Seen (37 ∷ b ∷ text) (directive (b ∷ text))
directive_seen b text =
    let P : Option Operator → Type 0 = λ o. Seen (37 ∷ b ∷ text) (or_else o (single b) b text) in
    cond_both (eqb b 43) (Some Plus) _ P (short (Do (Binary Plus)) b 43 text refl) (λ _.
    cond_both (eqb b 45) (Some Minus) _ P (short (Do (Binary Minus)) b 45 text refl) (λ _.
    cond_both (eqb b 42) (Some Times) _ P (short (Do (Binary Times)) b 42 text refl) (λ _.
    cond_both (eqb b 47) (Some Over) _ P (short (Do (Binary Over)) b 47 text refl) (λ _.
    cond_both (eqb b 109) (Some Modulo) _ P (short (Do (Binary Modulo)) b 109 text refl) (λ _.
    cond_both (eqb b 38) (Some BitAnd) _ P (short (Do (Binary BitAnd)) b 38 text refl) (λ _.
    cond_both (eqb b 124) (Some BitOr) _ P (short (Do (Binary BitOr)) b 124 text refl) (λ _.
    cond_both (eqb b 94) (Some BitXor) _ P (short (Do (Binary BitXor)) b 94 text refl) (λ _.
    cond_both (eqb b 61) (Some Equal) _ P (short (Do (Binary Equal)) b 61 text refl) (λ _.
    cond_both (eqb b 62) (Some Greater) _ P (short (Do (Binary Greater)) b 62 text refl) (λ _.
    cond_both (eqb b 60) (Some Less) _ P (short (Do (Binary Less)) b 60 text refl) (λ _.
    cond_both (eqb b 65) (Some Both) _ P (short (Do (Binary Both)) b 65 text refl) (λ _.
    cond_both (eqb b 79) (Some Either) None P (short (Do (Binary Either)) b 79 text refl) (λ _. single_seen b text)))))))))))))

rest_seen : (text : List ℕ) → Seen (37 ∷ text) (directive text)
rest_seen [] = in_format plain [] (record { flags = []; digits = []; point = []; whole = refl; are_flags = inl refl; are_digits = refl; left = refl; plus = refl; blank = refl; alternate = refl; zero = refl; width = refl; precision = refl })
rest_seen (b ∷ text) = directive_seen b text

-- the reader is right
pub sound : (b : ℕ) (text : List ℕ) → Seen (b ∷ text) (token (b ∷ text))
sound b text =
    cond_both (eqb b 37) (directive text) (Ok (Do (Literal b), text)) (Seen (b ∷ text)) (λ e. subst (λ x. Seen (x ∷ text) (directive text)) (sym (eqb-true b 37 e)) (rest_seen text)) (λ e. (b ∷ [], inl (eqb-false b 37 e, refl), refl))
