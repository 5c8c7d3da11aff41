-- What the next byte is after a part of a unit.
use Rattle.std.proofs.Common.{◌≡◌, ◌≢◌, ℕ, ◌+◌, ◌<◌, ◌≤◌, true, false, List, [], ◌∷◌, ◌++◌, length, get_or, ◌⊎◌, inl, inr, refl, sym, ap, ◌∙◌, subst, append_assoc, arith, encode_utf8}
use Rattle.std.specs.Prelude.{IsTrue}
use Rattle.std.proofs.lemmas.Bool.{cases_lt}
use Rattle.std.proofs.lemmas.Bool.Decides.{nat_tests}
use Rattle.scr_cells.specs.Characters.{is_utf8}
use Rattle.scr_cells.specs.declared.charsets.Charset.{Charset}
use Rattle.scr_cells.specs.declared.charsets.Charset.TheVariants.{Ascii, Utf8}
use Rattle.scr_term.specs.Ecma.Units.{EcmaUnit, Graphic, Spelled, Control, Sequence, spelling, is_parameter_byte, IsSequence, IsSpelled, IsUnit, IsWaiting, BeginsNoUnit}
use Rattle.scr_terminal.specs.Code.Readings.{IsLast, IsReading, is_first, is_second}
use Rattle.scr_terminal.specs.declared.ecma.readings.Reading.{Reading}
use Rattle.scr_terminal.specs.declared.ecma.readings.Reading.TheVariants as reading
use Rattle.scr_terminal.proofs.EcmaSpelledLaws.{SpelledBytes, of_two, of_three, some_second, some_second_is, spelled_bytes, spelled_first, spelled_second, spelled_third, two_are, three_are, value_of_two, value_of_three}
use Rattle.scr_terminal.proofs.EcmaUnitLaws.{AreParameterBytes, parameter_byte_lt, sequence_append, append_is_nil}

-- ESC [ and parameters that can still be followed by a final byte
pub record IsOpened (part : List ℕ) (ps : List ℕ) : Type 0 where
  pub whole : part ≡ 27 ∷ 91 ∷ ps
  pub digits : AreParameterBytes ps
  pub short : length ps ≤ 61

front_of_parameters : (zs others ps : List ℕ) (f : ℕ) → others ≢ [] → AreParameterBytes ps → zs ++ others ≡ ps ++ f ∷ []
    → AreParameterBytes zs × (length zs ≤ length ps)
front_of_parameters [] others ps f left h e = (tt, omega arith)
front_of_parameters (z ∷ zs) others [] f left h e =
    let tails : zs ++ others ≡ [] = cc in
    absurd (left (append_is_nil zs others tails))
front_of_parameters (z ∷ zs) others (p ∷ ps) f left h e =
    let tails : zs ++ others ≡ ps ++ f ∷ [] = cc in
    let heads : p ≡ z = cc in
    let rest = front_of_parameters zs others ps f left h.1 tails in
    let first : IsTrue (is_parameter_byte z) = subst (λ x. IsTrue (is_parameter_byte x)) heads h.0 in
    ((first, rest.0), omega (arith, rest.1))

length_more : (ps : List ℕ) (b : ℕ) → length (ps ++ b ∷ []) ≡ length ps + 1
length_more [] b = omega arith
length_more (p ∷ ps) b = omega (arith, length_more ps b)

-- what waits: ESC, ESC [ and parameters, or the first bytes of a spelled character
pub data Waits (charset : Charset) (w : List ℕ) : Type 0 where
  after_escape : w ≡ 27 ∷ [] → Waits charset w
  in_sequence : (ps : List ℕ) → IsOpened w ps → Waits charset w
  after_first : (b : ℕ) → charset ≡ Utf8 → 194 ≤ b → b ≤ 239 → w ≡ b ∷ [] → Waits charset w
  after_second : (b c : ℕ) → charset ≡ Utf8 → 224 ≤ b → b ≤ 239 → IsTrue (is_second b c) → w ≡ b ∷ c ∷ [] → Waits charset w

spelled_by : (charset : Charset) (code : ℕ) (w others : List ℕ) → charset ≡ Utf8 → w ≢ [] → others ≢ [] → SpelledBytes code → w ++ others ≡ encode_utf8 code
    → Waits charset w
spelled_by charset code [] others utf8 some left bytes e = absurd (some refl)
spelled_by charset code (x ∷ []) others utf8 some left (of_two b c low high second value is) e =
    let whole : x ∷ others ≡ b ∷ c ∷ [] = e ∙ is in
    let same : b ≡ x = cc in
    after_first x utf8 (omega arith) (omega arith) refl
spelled_by charset code (x ∷ y ∷ w) others utf8 some left (of_two b c low high second value is) e =
    let whole : x ∷ y ∷ (w ++ others) ≡ b ∷ c ∷ [] = e ∙ is in
    let tails : w ++ others ≡ [] = cc in
    absurd (left (append_is_nil w others tails))
spelled_by charset code (x ∷ []) others utf8 some left (of_three b c d low high second from end value is) e =
    let whole : x ∷ others ≡ b ∷ c ∷ d ∷ [] = e ∙ is in
    let same : b ≡ x = cc in
    after_first x utf8 (omega arith) (omega arith) refl
spelled_by charset code (x ∷ y ∷ []) others utf8 some left (of_three b c d low high second from end value is) e =
    let whole : x ∷ y ∷ others ≡ b ∷ c ∷ d ∷ [] = e ∙ is in
    after_second b c utf8 low high second (cc)
spelled_by charset code (x ∷ y ∷ z ∷ w) others utf8 some left (of_three b c d low high second from end value is) e =
    let whole : x ∷ y ∷ z ∷ (w ++ others) ≡ b ∷ c ∷ d ∷ [] = e ∙ is in
    let tails : w ++ others ≡ [] = cc in
    absurd (left (append_is_nil w others tails))

shape_by : (charset : Charset) (w : List ℕ) (v : EcmaUnit) (others : List ℕ) → w ≢ [] → IsUnit charset v → others ≢ [] → w ++ others ≡ spelling v
    → Waits charset w
shape_by charset [] v others some h left e = absurd (some refl)
shape_by charset (x ∷ xs) (Graphic b) others some h left e =
    let tails : xs ++ others ≡ [] = cc in
    absurd (left (append_is_nil xs others tails))
shape_by charset (x ∷ xs) (Spelled code) others some h left e = spelled_by charset code (x ∷ xs) others h.utf8 some left (spelled_bytes charset code h) e
shape_by charset (x ∷ xs) (Control b) others some h left e =
    let tails : xs ++ others ≡ [] = cc in
    absurd (left (append_is_nil xs others tails))
shape_by charset (x ∷ []) (Sequence ps f) others some h left e = after_escape (cc)
shape_by charset (x ∷ y ∷ zs) (Sequence ps f) others some h left e =
    let tails : zs ++ others ≡ ps ++ f ∷ [] = cc in
    let front = front_of_parameters zs others ps f left h.digits tails in
    in_sequence zs (record { whole = (cc); digits = front.0; short = omega (arith, front.1, h.short) })

waiting_shape : (charset : Charset) (w : List ℕ) → IsWaiting charset w → Waits charset w
waiting_shape charset w (some, (v, others, unit, left, whole)) = shape_by charset w v others some unit left whole

short_by : (charset : Charset) (w : List ℕ) → Waits charset w → length w ≤ 63
short_by charset w (after_escape e) = omega (arith, ap length e)
short_by charset w (in_sequence ps opened) = omega (arith, ap length opened.whole, opened.short)
short_by charset w (after_first b utf8 low high e) = omega (arith, ap length e)
short_by charset w (after_second b c utf8 low high second e) = omega (arith, ap length e)

-- there is room for a byte that waits
pub room_for : (charset : Charset) (w : List ℕ) (b : ℕ) → IsWaiting charset (w ++ b ∷ []) → length w < 64
room_for charset w b waits = omega (arith, short_by charset (w ++ b ∷ []) (waiting_shape charset (w ++ b ∷ []) waits), length_more w b)

control_by : (charset : Charset) (after : List ℕ) → Waits charset (27 ∷ after) → (after ≡ []) ⊎ ((ps : List ℕ) × IsOpened (27 ∷ after) ps)
control_by charset after (after_escape e) = inl (cc)
control_by charset after (in_sequence ps opened) = inr (ps, opened)
control_by charset after (after_first b utf8 low high e) = absurd (let same : b ≡ 27 = cc in omega arith)
control_by charset after (after_second b c utf8 low high second e) = absurd (let same : b ≡ 27 = cc in omega arith)

-- a part of a control sequence is ESC, or ESC [ and parameters
control_shape : (charset : Charset) (after : List ℕ) → IsWaiting charset (27 ∷ after) → (after ≡ []) ⊎ ((ps : List ℕ) × IsOpened (27 ∷ after) ps)
control_shape charset after waits = control_by charset after (waiting_shape charset (27 ∷ after) waits)

any_sequence : (ps : List ℕ) → AreParameterBytes ps → length ps ≤ 61 → IsSequence ps 72
any_sequence ps h short = record { digits = h; short = short; from_at_sign = omega arith; to_tilde = omega arith }

some_list : (x : ℕ) (xs : List ℕ) → x ∷ xs ≢ []
some_list x xs = λ (e : x ∷ xs ≡ []). cc

escape_waits : (charset : Charset) → IsWaiting charset (27 ∷ [])
escape_waits charset =
    (some_list 27 [], (Sequence [] 72, 91 ∷ 72 ∷ [], any_sequence [] tt (omega arith), some_list 91 (72 ∷ []), refl))

opened_waits : (charset : Charset) (w ps : List ℕ) → IsOpened w ps → IsWaiting charset w
opened_waits charset w ps h =
    subst (IsWaiting charset) (sym h.whole)
    (some_list 27 (91 ∷ ps), (Sequence ps 72, 72 ∷ [], any_sequence ps h.digits h.short, some_list 72 [], refl))

pub second_waits : (b c : ℕ) → 224 ≤ b → b ≤ 239 → IsTrue (is_second b c) → IsWaiting Utf8 (b ∷ c ∷ [])
second_waits b c low high second =
    let whole = three_are b c 128 low high second (omega arith) (omega arith) in
    (some_list b (c ∷ []), (Spelled (value_of_three b c 128), 128 ∷ [], whole.0, some_list 128 [], sym whole.1))

first_waits_by : (b : ℕ) → 194 ≤ b → b ≤ 239 → (b < 224) ⊎ (224 ≤ b) → IsWaiting Utf8 (b ∷ [])
first_waits_by b low high (inl short) =
    let c = some_second b in
    let whole = two_are b c low (omega arith) (some_second_is b) in
    (some_list b [], (Spelled (value_of_two b c), c ∷ [], whole.0, some_list c [], sym whole.1))
first_waits_by b low high (inr long) =
    let c = some_second b in
    let whole = three_are b c 128 long high (some_second_is b) (omega arith) (omega arith) in
    (some_list b [], (Spelled (value_of_three b c 128), c ∷ 128 ∷ [], whole.0, some_list c (128 ∷ []), sym whole.1))

pub first_waits : (charset : Charset) (b : ℕ) → is_first charset b ≡ true → IsWaiting charset (b ∷ [])
first_waits Ascii b is = cc
first_waits Utf8 b is = first_waits_by b (grind (arith, nat_tests)) (grind (arith, nat_tests)) (cases_lt b 224)

-- parameter bytes, one more
parameters_more : (ps : List ℕ) (b : ℕ) → AreParameterBytes ps → IsTrue (is_parameter_byte b) → AreParameterBytes (ps ++ b ∷ [])
parameters_more [] b h k = (k, tt)
parameters_more (p ∷ ps) b h k = (h.0, parameters_more ps b h.1 k)

-- no final byte comes after these parameters and this byte
no_end : (ps qs : List ℕ) (b g : ℕ) (more others : List ℕ) → AreParameterBytes ps → AreParameterBytes qs
    → (length qs ≤ length ps) ⊎ (is_parameter_byte b ≡ false) → (b < 64) ⊎ (126 < b) → 64 ≤ g → g ≤ 126
    → ps ++ b ∷ more ≡ qs ++ g ∷ others → ⊥
no_end [] [] b g more others h k long off low high e =
    let same : b ≡ g = cc in
    elim off [ inl d ↦ omega arith | inr d ↦ omega arith ]
no_end [] (q ∷ qs) b g more others h k (inl le) off low high e = omega arith
no_end [] (q ∷ qs) b g more others h k (inr none) off low high e =
    let same : q ≡ b = cc in
    let yes : is_parameter_byte b ≡ true = subst (λ x. is_parameter_byte x ≡ true) same k.0 in
    cc
no_end (p ∷ ps) [] b g more others h k long off low high e =
    let same : p ≡ g = cc in
    let below = parameter_byte_lt p h.0 in
    omega arith
no_end (p ∷ ps) (q ∷ qs) b g more others h k (inl le) off low high e =
    let tails : ps ++ b ∷ more ≡ qs ++ g ∷ others = cc in
    no_end ps qs b g more others h.1 k.1 (inl (omega arith)) off low high tails
no_end (p ∷ ps) (q ∷ qs) b g more others h k (inr none) off low high e =
    let tails : ps ++ b ∷ more ≡ qs ++ g ∷ others = cc in
    no_end ps qs b g more others h.1 k.1 (inr none) off low high tails

no_first_unit : (charset : Charset) (b : ℕ) → (b < 32) ⊎ (126 < b) → b ≢ 27 → b ≢ 8 → b ≢ 13 → is_first charset b ≡ false
    → (u : EcmaUnit) (more others : List ℕ) → IsUnit charset u → b ∷ more ≡ spelling u ++ others → ⊥
no_first_unit charset b off escape backspace return high (Graphic c) more others h e =
    let same : b ≡ c = cc in
    elim off [ inl d ↦ omega (arith, h.0) | inr d ↦ omega (arith, h.1) ]
no_first_unit charset b off escape backspace return high (Spelled code) more others h e =
    let first = spelled_first charset code others more b h (sym e) in
    let utf8 : is_utf8 charset ≡ true = ap is_utf8 h.utf8 in
    grind (arith, nat_tests)
no_first_unit charset b off escape backspace return high (Control c) more others h e =
    let same : b ≡ c = cc in
    elim h [ inl d ↦ backspace (same ∙ d) | inr d ↦ return (same ∙ d) ]
no_first_unit charset b off escape backspace return high (Sequence ps f) more others h e = escape (cc)

no_second_unit : (charset : Charset) (b : ℕ) → b ≢ 91 → (u : EcmaUnit) (more others : List ℕ) → IsUnit charset u → 27 ∷ b ∷ more ≡ spelling u ++ others → ⊥
no_second_unit charset b off (Graphic c) more others h e = let same : c ≡ 27 = cc in omega (arith, h.0)
no_second_unit charset b off (Spelled code) more others h e = omega (arith, (spelled_first charset code others (b ∷ more) 27 h (sym e)).0)
no_second_unit charset b off (Control c) more others h e =
    let same : c ≡ 27 = cc in
    elim h [ inl d ↦ omega arith | inr d ↦ omega arith ]
no_second_unit charset b off (Sequence ps f) more others h e = off (cc)

no_third_unit : (charset : Charset) (ps : List ℕ) (b : ℕ) → AreParameterBytes ps → (61 ≤ length ps) ⊎ (is_parameter_byte b ≡ false) → (b < 64) ⊎ (126 < b)
    → (u : EcmaUnit) (more others : List ℕ) → IsUnit charset u → 27 ∷ 91 ∷ (ps ++ b ∷ more) ≡ spelling u ++ others → ⊥
no_third_unit charset ps b digits long off (Graphic c) more others h e = let same : c ≡ 27 = cc in omega (arith, h.0)
no_third_unit charset ps b digits long off (Spelled code) more others h e =
    omega (arith, (spelled_first charset code others (91 ∷ (ps ++ b ∷ more)) 27 h (sym e)).0)
no_third_unit charset ps b digits long off (Control c) more others h e =
    let same : c ≡ 27 = cc in
    elim h [ inl d ↦ omega arith | inr d ↦ omega arith ]
no_third_unit charset ps b digits long off (Sequence qs g) more others h e =
    let whole : 27 ∷ 91 ∷ (ps ++ b ∷ more) ≡ 27 ∷ 91 ∷ (qs ++ g ∷ others) = e ∙ sequence_append qs g others in
    let tails : ps ++ b ∷ more ≡ qs ++ g ∷ others = cc in
    let longer : (length qs ≤ length ps) ⊎ (is_parameter_byte b ≡ false) =
    elim long [ inl d ↦ inl (omega (arith, h.short)) | inr d ↦ inr d ] in
    no_end ps qs b g more others digits h.digits longer off h.from_at_sign h.to_tilde tails

-- a unit whose first byte is above ASCII is spelled
no_high_unit : (charset : Charset) (b : ℕ) (u : EcmaUnit) (more others : List ℕ) → 194 ≤ b
    → ((code : ℕ) → IsSpelled charset code → encode_utf8 code ++ others ≡ b ∷ more → ⊥) → IsUnit charset u → b ∷ more ≡ spelling u ++ others → ⊥
no_high_unit charset b (Graphic c) more others high none h e = let same : b ≡ c = cc in omega (arith, h.1)
no_high_unit charset b (Spelled code) more others high none h e = none code h (sym e)
no_high_unit charset b (Control c) more others high none h e =
    let same : b ≡ c = cc in
    elim h [ inl d ↦ omega arith | inr d ↦ omega arith ]
no_high_unit charset b (Sequence ps f) more others high none h e = let same : b ≡ 27 = cc in omega arith

-- the first byte of a unit

pub first_escape : (charset : Charset) (b : ℕ) → b ≡ 27 → IsWaiting charset (b ∷ [])
first_escape charset b is = subst (λ x. IsWaiting charset (x ∷ [])) (sym is) (escape_waits charset)

pub first_other : (charset : Charset) (b : ℕ) → (b < 32) ⊎ (126 < b) → b ≢ 27 → b ≢ 8 → b ≢ 13 → is_first charset b ≡ false
    → BeginsNoUnit charset (b ∷ [])
first_other charset b off escape backspace return high = (
  some_list b [],
  λ u more others h e. no_first_unit charset b off escape backspace return high u more others h e,
)

-- the byte after ESC

pub second_bracket : (charset : Charset) (after : List ℕ) (b : ℕ) → after ≡ [] → b ≡ 91 → IsWaiting charset (27 ∷ after ++ b ∷ [])
second_bracket charset after b none is =
    opened_waits charset (27 ∷ after ++ b ∷ []) [] (record { whole = λ i. 27 ∷ none i ++ is i ∷ []; digits = tt; short = omega arith })

pub second_other : (charset : Charset) (after : List ℕ) (b : ℕ) → after ≡ [] → b ≢ 91 → BeginsNoUnit charset (27 ∷ after ++ b ∷ [])
second_other charset after b none off =
    subst (λ p. BeginsNoUnit charset (27 ∷ p ++ b ∷ [])) (sym none)
    (some_list 27 (b ∷ []), λ u more others h e. no_second_unit charset b off u more others h e)

-- a later byte of a control sequence

later : (charset : Charset) (after : List ℕ) → IsWaiting charset (27 ∷ after) → after ≢ [] → (ps : List ℕ) × IsOpened (27 ∷ after) ps
later charset after waits long = elim (control_shape charset after waits) [ inl is ↦ absurd (long is) | inr opened ↦ opened ]

length_opened : (after ps : List ℕ) → IsOpened (27 ∷ after) ps → length after ≡ length ps + 1
length_opened after ps h = let same = ap length h.whole in omega arith

pub later_parameter : (charset : Charset) (after : List ℕ) (b : ℕ) → IsWaiting charset (27 ∷ after) → after ≢ [] → IsTrue (is_parameter_byte b)
    → length after + 2 < 64 → IsWaiting charset (27 ∷ after ++ b ∷ [])
later_parameter charset after b waits long is short =
    let opened = later charset after waits long in
    let ps = opened.0 in
    let few = length_opened after ps opened.1 in
    opened_waits charset (27 ∷ after ++ b ∷ []) (ps ++ b ∷ []) (record {
      whole = ap (λ p. p ++ b ∷ []) opened.1.whole;
      digits = parameters_more ps b opened.1.digits is;
      short = omega (arith, length_more ps b);
    })

pub later_last : (charset : Charset) (after : List ℕ) (b : ℕ) → IsWaiting charset (27 ∷ after) → after ≢ [] → 64 ≤ b → b ≤ 126 → IsLast (27 ∷ after) b
later_last charset after b waits long low high =
    let opened = later charset after waits long in
    (opened.0, opened.1.whole, record { digits = opened.1.digits; short = opened.1.short; from_at_sign = low; to_tilde = high })

later_none : (charset : Charset) (after : List ℕ) (b : ℕ) → IsWaiting charset (27 ∷ after) → after ≢ []
    → (62 ≤ length after) ⊎ (is_parameter_byte b ≡ false) → (b < 64) ⊎ (126 < b) → BeginsNoUnit charset (27 ∷ after ++ b ∷ [])
later_none charset after b waits long full off =
    let opened = later charset after waits long in
    let ps = opened.0 in
    let few = length_opened after ps opened.1 in
    let longer : (61 ≤ length ps) ⊎ (is_parameter_byte b ≡ false) = elim full [ inl d ↦ inl (omega arith) | inr d ↦ inr d ] in
    let same : 27 ∷ 91 ∷ (ps ++ b ∷ []) ≡ 27 ∷ after ++ b ∷ [] = ap (λ p. p ++ b ∷ []) (sym opened.1.whole) in
    subst (BeginsNoUnit charset) same (
      some_list 27 (91 ∷ ps ++ b ∷ []),
      λ u more others h e.
          no_third_unit charset ps b opened.1.digits longer off u more others h
          (ap (λ t. 27 ∷ 91 ∷ t) (sym (append_assoc ps (b ∷ []) more)) ∙ e),
    )

pub later_full : (charset : Charset) (after : List ℕ) (b : ℕ) → IsWaiting charset (27 ∷ after) → after ≢ [] → IsTrue (is_parameter_byte b)
    → 64 ≤ length after + 2 → BeginsNoUnit charset (27 ∷ after ++ b ∷ [])
later_full charset after b waits long is full =
    later_none charset after b waits long (inl (omega arith)) (inl (parameter_byte_lt b is))

pub later_other : (charset : Charset) (after : List ℕ) (b : ℕ) → IsWaiting charset (27 ∷ after) → after ≢ [] → is_parameter_byte b ≡ false
    → (b < 64) ⊎ (126 < b) → BeginsNoUnit charset (27 ∷ after ++ b ∷ [])
later_other charset after b waits long no_parameter off = later_none charset after b waits long (inr no_parameter) off

-- the second byte of a character, and the third

pub second_none : (b c : ℕ) → 194 ≤ b → is_second b c ≡ false → BeginsNoUnit Utf8 (b ∷ c ∷ [])
second_none b c low off = (
  some_list b (c ∷ []),
  λ u more others h e.
      no_high_unit Utf8 b u (c ∷ more) others low
      (λ code k f. let on : is_second b c ≡ true = spelled_second Utf8 code others more b c k f in cc) h e,
)

pub third_none : (b c d : ℕ) → 224 ≤ b → (d < 128) ⊎ (191 < d) → BeginsNoUnit Utf8 (b ∷ c ∷ d ∷ [])
third_none b c d low off = (
  some_list b (c ∷ d ∷ []),
  λ u more others h e.
      no_high_unit Utf8 b u (c ∷ d ∷ more) others (omega arith)
      (λ code k f. let on = spelled_third Utf8 code others more b c d k low f in elim off [ inl under ↦ omega (arith, on.0) | inr over ↦ omega (arith, on.1) ]) h e,
)

pub second_last : (b c : ℕ) (result : Reading) → 194 ≤ b → b < 224 → IsTrue (is_second b c) → result ≡ reading.Spelled (value_of_two b c)
    → IsReading Utf8 (b ∷ []) c result
second_last b c result low high second is =
    let whole = two_are b c low (omega arith) second in
    subst (IsReading Utf8 (b ∷ []) c) (sym is) (whole.0, sym whole.1)

pub third_last : (b c d : ℕ) (result : Reading) → 224 ≤ b → b ≤ 239 → IsTrue (is_second b c) → 128 ≤ d → d ≤ 191
    → result ≡ reading.Spelled (value_of_three b c d) → IsReading Utf8 (b ∷ c ∷ []) d result
third_last b c d result low high second from end is =
    let whole = three_are b c d low high second from end in
    subst (IsReading Utf8 (b ∷ c ∷ []) d) (sym is) (whole.0, sym whole.1)

-- a part that begins with no ESC

-- one byte of a character
abbrev pub IsFirst : Charset → ℕ → Type 0
IsFirst charset b = (charset ≡ Utf8) × (194 ≤ b) × (b ≤ 239)

-- two of three
abbrev pub AreFirst : Charset → ℕ → ℕ → Type 0
AreFirst charset b c = (charset ≡ Utf8) × (224 ≤ b) × (b ≤ 239) × IsTrue (is_second b c)

first_by : (charset : Charset) (b : ℕ) → b ≢ 27 → Waits charset (b ∷ []) → IsFirst charset b
first_by charset b off (after_escape e) = absurd (off (cc))
first_by charset b off (in_sequence ps opened) = absurd (off (let e : b ∷ [] ≡ 27 ∷ 91 ∷ ps = opened.whole in cc))
first_by charset b off (after_first x utf8 low high e) = let same : x ≡ b = cc in (utf8, omega arith, omega arith)
first_by charset b off (after_second x y utf8 low high second e) = cc

pub first_alone : (charset : Charset) (b : ℕ) (after : List ℕ) → b ≢ 27 → IsWaiting charset (b ∷ after) → after ≡ [] → IsFirst charset b
first_alone charset b after off waits none = first_by charset b off (subst (λ t. Waits charset (b ∷ t)) none (waiting_shape charset (b ∷ after) waits))

two_by : (charset : Charset) (b c : ℕ) (rest : List ℕ) → b ≢ 27 → Waits charset (b ∷ c ∷ rest) → AreFirst charset b c × (rest ≡ [])
two_by charset b c rest off (after_escape e) = cc
two_by charset b c rest off (in_sequence ps opened) = absurd (off (let e : b ∷ c ∷ rest ≡ 27 ∷ 91 ∷ ps = opened.whole in cc))
two_by charset b c rest off (after_first x utf8 low high e) = cc
two_by charset b c rest off (after_second x y utf8 low high second e) =
    let same : x ≡ b = cc in
    let other : y ≡ c = cc in
    ((utf8, omega arith, omega arith, subst (λ n. IsTrue (is_second b n)) other (subst (λ n. IsTrue (is_second n y)) same second)), cc)

pub first_two : (charset : Charset) (b : ℕ) (after : List ℕ) → b ≢ 27 → IsWaiting charset (b ∷ after) → 1 ≤ length after
    → AreFirst charset b (get_or after 0 0) × (after ≡ get_or after 0 0 ∷ [])
first_two charset b [] off waits some = absurd (omega arith)
first_two charset b (c ∷ rest) off waits some =
    let two = two_by charset b c rest off (waiting_shape charset (b ∷ c ∷ rest) waits) in
    (two.0, ap (λ t. c ∷ t) two.1)

pub reads_after_first : (charset : Charset) (b : ℕ) (after : List ℕ) (d : ℕ) (result : Reading) → b ≢ 27 → IsWaiting charset (b ∷ after) → after ≡ []
    → IsReading Utf8 (b ∷ []) d result → IsReading charset (b ∷ after) d result
reads_after_first charset b after d result off waits none reads =
    let first = first_alone charset b after off waits none in
    subst (λ t. IsReading charset (b ∷ t) d result) (sym none) (subst (λ z. IsReading z (b ∷ []) d result) (sym first.0) reads)

pub reads_after_two : (charset : Charset) (b : ℕ) (after : List ℕ) (d : ℕ) (result : Reading) → b ≢ 27 → IsWaiting charset (b ∷ after) → 1 ≤ length after
    → IsReading Utf8 (b ∷ get_or after 0 0 ∷ []) d result → IsReading charset (b ∷ after) d result
reads_after_two charset b after d result off waits some reads =
    let two = first_two charset b after off waits some in
    subst (λ t. IsReading charset (b ∷ t) d result) (sym two.1) (subst (λ z. IsReading z (b ∷ get_or after 0 0 ∷ []) d result) (sym two.0.0) reads)
