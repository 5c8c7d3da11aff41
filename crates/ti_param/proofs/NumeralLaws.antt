-- The reader goes through flags, digits and a precision, up to what stands after them.
use Rattle.std.proofs.Common.{◌≡◌, ℕ, zero, suc, ◌+◌, ◌-◌, ◌*◌, ◌^◌, ◌<◌, ◌⊎◌, inl, inr, Bool, true, false, List, [], ◌∷◌, ◌++◌, length, Option, Some, None, refl, sym, ap, subst, ◌∙◌, arith, append_assoc}
use Rattle.std.specs.Prelude.{◌&&◌, ◌||◌, ◌==◌, eqb, nat_le}
use Rattle.std.specs.List.{list_all}
use Rattle.std.proofs.Math.Bool.{or-true}
use Rattle.std.proofs.lemmas.Bool.{eqb-true, leb-true, and_parts, or_parts, or_cases, and_right, cond-false, cond-true}
use Rattle.ti_param.specs.declared.directives.Format.{Format}
use Rattle.ti_param.specs.Spelling.{decimal_value, begins_with, has, is_flag, AreFlags, IsPrecision, IsFormat}
use Rattle.ti_param.specs.Code.Tokens.{digits, flags, all_flags, precision, number, finished, directive}
use Rattle.ti_param.specs.Numbers.{plain}
use Rattle.ti_param.proofs.DigitLaws.{starts, digits_through}
use Rattle.ti_param.specs.Digits.{is_digit, all_digits}

-- ---- what holds of each digit

ten : (P : ℕ → Type 0) → P 48 → P 49 → P 50 → P 51 → P 52 → P 53 → P 54 → P 55 → P 56 → P 57 → (k : ℕ) → k < 10 → P (48 + k)
ten P a b c d e f g h i j zero le = a
ten P a b c d e f g h i j (suc zero) le = b
ten P a b c d e f g h i j (suc (suc zero)) le = c
ten P a b c d e f g h i j (suc (suc (suc zero))) le = d
ten P a b c d e f g h i j (suc (suc (suc (suc zero)))) le = e
ten P a b c d e f g h i j (suc (suc (suc (suc (suc zero))))) le = f
ten P a b c d e f g h i j (suc (suc (suc (suc (suc (suc zero)))))) le = g
ten P a b c d e f g h i j (suc (suc (suc (suc (suc (suc (suc zero))))))) le = h
ten P a b c d e f g h i j (suc (suc (suc (suc (suc (suc (suc (suc zero)))))))) le = i
ten P a b c d e f g h i j (suc (suc (suc (suc (suc (suc (suc (suc (suc zero))))))))) le = j
ten P a b c d e f g h i j (suc (suc (suc (suc (suc (suc (suc (suc (suc (suc k)))))))))) le = absurd (omega arith)

pub each_digit : (P : ℕ → Type 0) → P 48 → P 49 → P 50 → P 51 → P 52 → P 53 → P 54 → P 55 → P 56 → P 57 → (x : ℕ) → is_digit x ≡ true → P x
each_digit P a b c d e f g h i j x is =
    let p = and_parts (nat_le 48 x) (nat_le x 57) is in
    let low = leb-true 48 x p.0 in
    let high = leb-true x 57 p.1 in
    let same : 48 + (x - 48) ≡ x = omega arith in
    subst P same (ten P a b c d e f g h i j (x - 48) (omega arith))

-- ---- the byte after flags

-- a test that no digit and no point passes fails where digits and a precision, or what follows them, begin
pub behind : (test : ℕ → Bool) (p : Option ℕ) (front point text : List ℕ) → all_digits front ≡ true → IsPrecision p point → ((x : ℕ) → is_digit x ≡ true → test x ≡ false) → test 46 ≡ false → starts test text ≡ false → starts test (front ++ (point ++ text)) ≡ false
behind test None [] point text all is each dot e = ap (λ l. starts test (l ++ text)) is ∙ e
behind test (Some n) [] point text all is each dot e = ap (λ l. starts test (l ++ text)) is.1 ∙ dot
behind test p (b ∷ front) point text all is each dot e = each b (and_parts (is_digit b) (all_digits front) all).0

pub digit_flag : (colon : Bool) (x : ℕ) → is_digit x ≡ true → is_flag colon x ≡ false
digit_flag true x is = each_digit (λ y. is_flag true y ≡ false) refl refl refl refl refl refl refl refl refl refl x is
digit_flag false x is = each_digit (λ y. is_flag false y ≡ false) refl refl refl refl refl refl refl refl refl refl x is

pub dot_flag : (colon : Bool) → is_flag colon 46 ≡ false
dot_flag true = refl
dot_flag false = refl

-- ---- flags

abbrev pub flagged : Format → List ℕ → Format
flagged f front =
    record f { left = f.left || has 45 front; plus = f.plus || has 43 front; blank = f.blank || has 32 front; alternate = f.alternate || has 35 front }

or_false : (q : Bool) → q ≡ (q || false)
or_false true = refl
or_false false = refl

same_flags : (f : Format) (a b c d x y z w : Bool) → a ≡ x → b ≡ y → c ≡ z → d ≡ w → record f { left = a; plus = b; blank = c; alternate = d } ≡ record f { left = x; plus = y; blank = z; alternate = w }
same_flags f a b c d x y z w p q r s = λ i. record f { left = p i; plus = q i; blank = r i; alternate = s i }

flags_stop : (colon : Bool) (f : Format) (text : List ℕ) → starts (is_flag colon) text ≡ false → flags colon f text ≡ (f, text)
flags_stop colon f [] e = refl
flags_stop colon f (b ∷ text) e =
    let p = or_parts (eqb b 35 || eqb b 32) (colon && (eqb b 45 || eqb b 43)) e in
    let q = or_parts (eqb b 35) (eqb b 32) p.0 in
    cond-false (eqb b 35) _ _ q.0 ∙ cond-false (eqb b 32) _ _ q.1 ∙ cond-false (colon && eqb b 45) _ _ (fst_and colon (eqb b 45) (eqb b 43) p.1) ∙ cond-false (colon && eqb b 43) _ _ (snd_and colon (eqb b 45) (eqb b 43) p.1)
  where
    fst_and : (c x y : Bool) → (c && (x || y)) ≡ false → (c && x) ≡ false
    fst_and true x y h = (or_parts x y h).0
    fst_and false x y h = refl

    snd_and : (c x y : Bool) → (c && (x || y)) ≡ false → (c && y) ≡ false
    snd_and true x y h = (or_parts x y h).1
    snd_and false x y h = refl

-- which flag it is
flag_cases : (colon : Bool) (b : ℕ) → is_flag colon b ≡ true → ((b ≡ 35) ⊎ (b ≡ 32)) ⊎ ((colon ≡ true) × ((b ≡ 45) ⊎ (b ≡ 43)))
flag_cases colon b e = first (or_cases (eqb b 35 || eqb b 32) (colon && (eqb b 45 || eqb b 43)) e)
  where
    either : (c d : ℕ) → (eqb b c ≡ true) ⊎ (eqb b d ≡ true) → (b ≡ c) ⊎ (b ≡ d)
    either c d (inl h) = inl (eqb-true b c h)
    either c d (inr h) = inr (eqb-true b d h)

    first : ((eqb b 35 || eqb b 32) ≡ true) ⊎ ((colon && (eqb b 45 || eqb b 43)) ≡ true) → ((b ≡ 35) ⊎ (b ≡ 32)) ⊎ ((colon ≡ true) × ((b ≡ 45) ⊎ (b ≡ 43)))
    first (inl h) = inl (either 35 32 (or_cases (eqb b 35) (eqb b 32) h))
    first (inr h) = let p = and_parts colon (eqb b 45 || eqb b 43) h in inr (p.0, either 45 43 (or_cases (eqb b 45) (eqb b 43) p.1))

abbrev Goes : Bool → Format → List ℕ → List ℕ → Type 0
Goes colon f front text = flags colon f (front ++ text) ≡ (flagged f front, text)

-- one flag more
goes_on : (colon : Bool) (f : Format) (b : ℕ) (front text : List ℕ) → ((b ≡ 35) ⊎ (b ≡ 32)) ⊎ ((colon ≡ true) × ((b ≡ 45) ⊎ (b ≡ 43))) → ((g : Format) → Goes colon g front text) → Goes colon f (b ∷ front) text
goes_on colon f b front text (inl (inl h)) more =
    subst (λ x. Goes colon f (x ∷ front) text) (sym h) (more (record f { alternate = true }) ∙ ap (λ g. (g, text)) (same_flags f _ _ _ _ (f.left || has 45 front) (f.plus || has 43 front) (f.blank || has 32 front) (f.alternate || true) refl refl refl (sym (or-true f.alternate))))
goes_on colon f b front text (inl (inr h)) more =
    subst (λ x. Goes colon f (x ∷ front) text) (sym h) (more (record f { blank = true }) ∙ ap (λ g. (g, text)) (same_flags f _ _ _ _ (f.left || has 45 front) (f.plus || has 43 front) (f.blank || true) (f.alternate || has 35 front) refl refl (sym (or-true f.blank)) refl))
goes_on colon f b front text (inr (c, inl h)) more =
    subst (λ x. Goes colon f (x ∷ front) text) (sym h) (cond-true (colon && true) _ _ (ap (λ q. q && true) c) ∙ more (record f { left = true }) ∙ ap (λ g. (g, text)) (same_flags f _ _ _ _ (f.left || true) (f.plus || has 43 front) (f.blank || has 32 front) (f.alternate || has 35 front) (sym (or-true f.left)) refl refl refl))
goes_on colon f b front text (inr (c, inr h)) more =
    subst (λ x. Goes colon f (x ∷ front) text) (sym h) (cond-false (colon && false) _ _ (and_right colon false refl) ∙ cond-true (colon && true) _ _ (ap (λ q. q && true) c) ∙ more (record f { plus = true }) ∙ ap (λ g. (g, text)) (same_flags f _ _ _ _ (f.left || has 45 front) (f.plus || true) (f.blank || has 32 front) (f.alternate || has 35 front) refl (sym (or-true f.plus)) refl refl))

flags_through : (colon : Bool) (f : Format) (front text : List ℕ) → list_all (is_flag colon) front ≡ true → starts (is_flag colon) text ≡ false → Goes colon f front text
flags_through colon f [] text all stop =
    flags_stop colon f text stop ∙ ap (λ g. (g, text)) (same_flags f f.left f.plus f.blank f.alternate _ _ _ _ (or_false f.left) (or_false f.plus) (or_false f.blank) (or_false f.alternate))
flags_through colon f (b ∷ front) text all stop =
    let p = and_parts (is_flag colon b) (list_all (is_flag colon) front) all in
    goes_on colon f b front text (flag_cases colon b p.0) (λ g. flags_through colon g front text p.1 stop)

-- flags after a `:` or none, where what follows is neither
no_colon : (text : List ℕ) → starts (λ x. x == 58) text ≡ false → all_flags text ≡ flags false plain text
no_colon [] e = refl
no_colon (b ∷ text) e = cond-false (eqb b 58) _ _ e

flag_no_colon : (front text : List ℕ) → list_all (is_flag false) front ≡ true → starts (λ x. x == 58) text ≡ false → starts (λ x. x == 58) (front ++ text) ≡ false
flag_no_colon [] text all e = e
flag_no_colon (b ∷ front) text all e = go (flag_cases false b (and_parts (is_flag false b) (list_all (is_flag false) front) all).0)
  where
    go : ((b ≡ 35) ⊎ (b ≡ 32)) ⊎ ((false ≡ true) × ((b ≡ 45) ⊎ (b ≡ 43))) → eqb b 58 ≡ false
    go (inl (inl h)) = ap (λ x. eqb x 58) h
    go (inl (inr h)) = ap (λ x. eqb x 58) h
    go (inr (c, inl h)) = ap (λ x. eqb x 58) h
    go (inr (c, inr h)) = ap (λ x. eqb x 58) h

pub all_flags_through : (front text : List ℕ) → AreFlags front → ((colon : Bool) → starts (is_flag colon) text ≡ false) → starts (λ x. x == 58) text ≡ false → all_flags (front ++ text) ≡ (flagged plain front, text)
all_flags_through front text (inl all) stop colon = no_colon (front ++ text) (flag_no_colon front text all colon) ∙ flags_through false plain front text all (stop false)
all_flags_through front text (inr x) stop colon =
    ap (λ l. all_flags (l ++ text)) x.1 ∙ flags_through true plain x.0 text x.2 (stop true) ∙ ap (λ l. (flagged plain l, text)) (sym x.1)

-- ---- width and precision

point_stops : (test : ℕ → Bool) (p : Option ℕ) (point text : List ℕ) → IsPrecision p point → test 46 ≡ false → starts test text ≡ false → starts test (point ++ text) ≡ false
point_stops test None point text is dot e = ap (λ l. starts test (l ++ text)) is ∙ e
point_stops test (Some n) point text is dot e = ap (λ l. starts test (l ++ text)) is.1 ∙ dot

no_point : (text : List ℕ) → starts (λ x. x == 46) text ≡ false → precision text ≡ (None, text)
no_point [] e = refl
no_point (b ∷ text) e = cond-false (eqb b 46) _ _ e

at_zero : (p v : ℕ) → 0 * p + v ≡ v
at_zero p v = omega arith

precision_through : (p : Option ℕ) (point text : List ℕ) → IsPrecision p point → starts is_digit text ≡ false → starts (λ x. x == 46) text ≡ false → precision (point ++ text) ≡ (p, text)
precision_through None point text is digit dot = ap (λ l. precision (l ++ text)) is ∙ no_point text dot
precision_through (Some n) point text is digit dot =
    ap (λ l. precision (l ++ text)) is.1 ∙ ap (λ (r : ℕ × List ℕ). (Some r.0, r.1)) (digits_through 0 is.0 text is.2 digit) ∙ ap (λ (k : ℕ). (Some k, text)) (at_zero (10 ^ length is.0) (decimal_value is.0) ∙ sym is.3)

-- what may stand after a format: the end, or a byte that goes on with none of its parts
pub record IsEnd (text : List ℕ) : Type 0 where
  pub flag : (colon : Bool) → starts (is_flag colon) text ≡ false
  pub colon : starts (λ x. x == 58) text ≡ false
  pub digit : starts is_digit text ≡ false
  pub dot : starts (λ x. x == 46) text ≡ false
  pub zero : starts (λ x. x == 48) text ≡ false

digit_colon : (x : ℕ) → is_digit x ≡ true → (x == 58) ≡ false
digit_colon x is = each_digit (λ y. (y == 58) ≡ false) refl refl refl refl refl refl refl refl refl refl x is

begins_behind : (p : Option ℕ) (front point text : List ℕ) → IsPrecision p point → starts (λ x. x == 48) text ≡ false → begins_with 48 (front ++ (point ++ text)) ≡ begins_with 48 front
begins_behind p [] point text is e = begins_point p point text is e
  where
    begins_end : (text : List ℕ) → starts (λ x. x == 48) text ≡ false → begins_with 48 text ≡ false
    begins_end [] e = refl
    begins_end (b ∷ text) e = e

    begins_point : (p : Option ℕ) (point text : List ℕ) → IsPrecision p point → starts (λ x. x == 48) text ≡ false → begins_with 48 (point ++ text) ≡ false
    begins_point None point text is e = ap (λ l. begins_with 48 (l ++ text)) is ∙ begins_end text e
    begins_point (Some n) point text is e = ap (λ l. begins_with 48 (l ++ text)) is.1
begins_behind p (b ∷ front) point text is e = refl

-- the reader goes through a format
pub number_through : (f : Format) (format text : List ℕ) → IsFormat f format → IsEnd text → (g : Format) × (number (format ++ text) ≡ finished g f.width f.precision text) × (g.left ≡ f.left) × (g.plus ≡ f.plus) × (g.blank ≡ f.blank) × (g.alternate ≡ f.alternate) × (g.zero ≡ f.zero)
number_through f format text is end =
    let rest : List ℕ = is.digits ++ (is.point ++ text) in
    let whole : format ++ text ≡ is.flags ++ rest = ap (λ l. l ++ text) is.whole ∙ append_assoc is.flags (is.digits ++ is.point) text ∙ ap (λ l. is.flags ++ l) (append_assoc is.digits is.point text) in
    let stop : (colon : Bool) → starts (is_flag colon) rest ≡ false = λ colon. behind (is_flag colon) f.precision is.digits is.point text is.are_digits is.precision (digit_flag colon) (dot_flag colon) (end.flag colon) in
    let colon = behind (λ x. x == 58) f.precision is.digits is.point text is.are_digits is.precision digit_colon refl end.colon in
    let a : all_flags (format ++ text) ≡ (flagged plain is.flags, rest) = ap all_flags whole ∙ all_flags_through is.flags rest is.are_flags stop colon in
    let d : digits 0 rest ≡ (f.width, is.point ++ text) = digits_through 0 is.digits (is.point ++ text) is.are_digits (point_stops is_digit f.precision is.point text is.precision refl end.digit) ∙ ap (λ (k : ℕ). (k, is.point ++ text)) (at_zero (10 ^ length is.digits) (decimal_value is.digits) ∙ sym is.width) in
    let p : precision (is.point ++ text) ≡ (f.precision, text) = precision_through f.precision is.point text is.precision end.digit end.dot in
    let g : Format = record (flagged plain is.flags) { zero = begins_with 48 rest } in
    let one : number (format ++ text) ≡ finished g (digits 0 rest).0 (precision (digits 0 rest).1).0 (precision (digits 0 rest).1).1 = ap (λ (r : Format × List ℕ). finished (record (r.0) { zero = begins_with 48 r.1 }) (digits 0 r.1).0 (precision (digits 0 r.1).1).0 (precision (digits 0 r.1).1).1) a in
    let two = ap (λ (r : ℕ × List ℕ). finished g r.0 (precision r.1).0 (precision r.1).1) d in
    let three = ap (λ (r : Option ℕ × List ℕ). finished g f.width r.0 r.1) p in
    (g, one ∙ two ∙ three, sym is.left, sym is.plus, sym is.blank, sym is.alternate, begins_behind f.precision is.digits is.point text is.precision end.zero ∙ sym is.zero)

-- what begins a format is read as one
abbrev pub Heads : List ℕ → Type 0
Heads [] = Unit {0}
Heads (b ∷ text) = (rest : List ℕ) → directive (b ∷ rest) ≡ number (b ∷ rest)

digit_heads : (b : ℕ) (text : List ℕ) → is_digit b ≡ true → Heads (b ∷ text)
digit_heads b text is = each_digit (λ y. (rest : List ℕ) → directive (y ∷ rest) ≡ number (y ∷ rest)) (λ r. refl) (λ r. refl) (λ r. refl) (λ r. refl) (λ r. refl) (λ r. refl) (λ r. refl) (λ r. refl) (λ r. refl) (λ r. refl) b is

digits_head : (p : Option ℕ) (front point text : List ℕ) → all_digits front ≡ true → IsPrecision p point → Heads text → Heads (front ++ (point ++ text))
digits_head None [] point text all is h = subst (λ l. Heads (l ++ text)) (sym is) h
digits_head (Some n) [] point text all is h = subst (λ l. Heads (l ++ text)) (sym is.1) (λ r. refl)
digits_head p (b ∷ front) point text all is h = digit_heads b (front ++ (point ++ text)) (and_parts (is_digit b) (all_digits front) all).0

flags_head : (front text : List ℕ) → AreFlags front → Heads text → Heads (front ++ text)
flags_head [] text are h = h
flags_head (b ∷ front) text (inl all) h = go (flag_cases false b (and_parts (is_flag false b) (list_all (is_flag false) front) all).0)
  where
    go : ((b ≡ 35) ⊎ (b ≡ 32)) ⊎ ((false ≡ true) × ((b ≡ 45) ⊎ (b ≡ 43))) → (rest : List ℕ) → directive (b ∷ rest) ≡ number (b ∷ rest)
    go (inl (inl e)) = subst (λ x. (rest : List ℕ) → directive (x ∷ rest) ≡ number (x ∷ rest)) (sym e) (λ r. refl)
    go (inl (inr e)) = subst (λ x. (rest : List ℕ) → directive (x ∷ rest) ≡ number (x ∷ rest)) (sym e) (λ r. refl)
    go (inr (c, e)) = cc
flags_head (b ∷ front) text (inr x) h = subst (λ l. Heads (l ++ text)) (sym x.1) (λ r. refl)

directive_head : (text : List ℕ) → Heads text → directive text ≡ number text
directive_head [] h = refl
directive_head (b ∷ text) h = h text

pub format_read : (f : Format) (format text : List ℕ) → IsFormat f format → Heads text → directive (format ++ text) ≡ number (format ++ text)
format_read f format text is h =
    let rest : List ℕ = is.digits ++ (is.point ++ text) in
    let whole : format ++ text ≡ is.flags ++ rest = ap (λ l. l ++ text) is.whole ∙ append_assoc is.flags (is.digits ++ is.point) text ∙ ap (λ l. is.flags ++ l) (append_assoc is.digits is.point text) in
    directive_head (format ++ text) (subst Heads (sym whole) (flags_head is.flags rest is.are_flags (digits_head f.precision is.digits is.point text is.are_digits is.precision h)))
