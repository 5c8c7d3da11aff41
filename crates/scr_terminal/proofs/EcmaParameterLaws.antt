-- The numbers that digits write, and the parameters that semicolons divide.
use Rattle.std.proofs.Common.{◌≡◌, ◌≢◌, ℕ, zero, suc, ◌+◌, ◌-◌, ◌*◌, ◌<◌, ◌≤◌, true, false, cond, eqb, min, List, [], ◌∷◌, ◌++◌, length, take, get_or, Option, Some, None, ◌⊎◌, inl, inr, refl, sym, ap, ◌∙◌, subst, arith, nat_le}
use Rattle.std.specs.Prelude.{IsTrue, option_and_then, option_map}
use Rattle.std.specs.Char.{is_ascii_digit, digit_value}
use Rattle.std.specs.List.{AllByRecursion, slice_split, onto_first}
use Rattle.std.specs.Str.Parse.{digits_value, digits_value_after}
use Rattle.std.proofs.lemmas.Bool.Decides.{nat_tests, eqb_tells}
use Rattle.std.proofs.lemmas.List.{take_more, take_all}
use Rattle.std.proofs.lemmas.List.Splits.{slice_split-cons_yes, slice_split-cons_no}
use Rattle.scr_term.specs.Ecma.Units.{is_parameter_byte}
use Rattle.scr_term.specs.Ecma.Meanings.{parameter, each_parameter}
use Rattle.scr_terminal.proofs.EcmaUnitLaws.{AreParameterBytes}

abbrev pub AreDigits : List ℕ → Type 0
AreDigits bytes = AllByRecursion (λ byte. IsTrue (is_ascii_digit byte)) bytes

pub digit_range : (d : ℕ) → IsTrue (is_ascii_digit d) → (48 ≤ d) × (d ≤ 57) × (digit_value d ≡ d - 48)
digit_range d h =
    let low : 48 ≤ d = grind (arith, nat_tests) in
    let high : d ≤ 57 = grind (arith, nat_tests) in
    (low, high, grind (arith, nat_tests))

pub digit_at : (ds : List ℕ) (i : ℕ) → AreDigits ds → i < length ds → IsTrue (is_ascii_digit (get_or ds i 0))
digit_at [] i h lt = absurd (omega arith)
digit_at (d ∷ ds) zero h lt = h.0
digit_at (d ∷ ds) (suc i) h lt = digit_at ds i h.1 (omega arith)

value_push : (n : ℕ) (ds : List ℕ) (d : ℕ) → digits_value_after 10 n (ds ++ d ∷ []) ≡ digits_value_after 10 n ds * 10 + digit_value d
value_push n [] d = refl
value_push n (e ∷ ds) d = value_push (n * 10 + digit_value e) ds d

value_more : (ds : List ℕ) (i : ℕ) → i < length ds
    → digits_value 10 (take (i + 1) ds) ≡ digits_value 10 (take i ds) * 10 + digit_value (get_or ds i 0)
value_more ds i lt = ap (digits_value 10) (take_more ds i 0 lt) ∙ value_push 0 (take i ds) (get_or ds i 0)

-- one more digit, of a number that stays at 10,000 from there on
pub number_more : (ds : List ℕ) (i number : ℕ) → AreDigits ds → i < length ds → number ≡ min (digits_value 10 (take i ds)) 10000
    → min (number * 10 + (get_or ds i 0 - 48)) 10000 ≡ min (digits_value 10 (take (i + 1) ds)) 10000
number_more ds i number h lt e =
    let digit = digit_range (get_or ds i 0) (digit_at ds i h lt) in
    let is = digit.2 in
    let more = value_more ds i lt in
    omega arith

number_by : (value number : ℕ) → number ≡ min value 10000 → number ≤ 9999
    → cond (nat_le value 9999) (Some (Some value)) None ≡ Some (Some number)
number_by value number e small =
    let same : number ≡ value = omega arith in
    let within : nat_le value 9999 ≡ true = grind (arith, nat_tests) in
    ap (λ b. cond b (Some (Some value)) None) within ∙ ap (λ n. Some (Some n)) (sym same)

too_great : (value number : ℕ) → number ≡ min value 10000 → 9999 < number → cond (nat_le value 9999) (Some (Some value)) None ≡ None
too_great value number e great =
    let above : nat_le value 9999 ≡ false = grind (arith, nat_tests) in
    ap (λ b. cond b (Some (Some value)) None) above

pub parameter_number : (ds : List ℕ) (number : ℕ) → 1 ≤ length ds → number ≡ min (digits_value 10 ds) 10000 → number ≤ 9999
    → parameter ds ≡ Some (Some number)
parameter_number [] number some e small = absurd (omega arith)
parameter_number (d ∷ ds) number some e small = number_by (digits_value 10 (d ∷ ds)) number e small

pub parameter_too_great : (ds : List ℕ) (number : ℕ) → 1 ≤ length ds → number ≡ min (digits_value 10 ds) 10000 → 9999 < number
    → parameter ds ≡ None
parameter_too_great [] number some e great = absurd (omega arith)
parameter_too_great (d ∷ ds) number some e great = too_great (digits_value 10 (d ∷ ds)) number e great

-- the parts of parameter bytes between the semicolons

abbrev pub parts_of : List ℕ → List (List ℕ)
parts_of bytes = slice_split (λ byte. eqb byte 59) bytes

abbrev AreParts : List (List ℕ) → Type 0
AreParts parts = AllByRecursion AreDigits parts

onto_first_digits : (d : ℕ) (parts : List (List ℕ)) → IsTrue (is_ascii_digit d) → AreParts parts → AreParts (onto_first d parts)
onto_first_digits d [] h k = ((h, tt), tt)
onto_first_digits d (part ∷ parts) h k = ((h, k.0), k.1)

digit_or_semicolon : (b : ℕ) → b ≢ 59 → IsTrue (is_parameter_byte b) → IsTrue (is_ascii_digit b)
digit_or_semicolon b off h = grind (arith, nat_tests)

parts_step : (b : ℕ) (bytes : List ℕ) → IsTrue (is_parameter_byte b) → AreParts (parts_of bytes)
    → ((eqb b 59 ≡ true) × (b ≡ 59)) ⊎ ((eqb b 59 ≡ false) × (b ≢ 59)) → AreParts (parts_of (b ∷ bytes))
parts_step b bytes h k (inl same) = subst AreParts (sym (slice_split-cons_yes (λ byte. eqb byte 59) b bytes same.0)) (tt, k)
parts_step b bytes h k (inr other) =
    subst AreParts (sym (slice_split-cons_no (λ byte. eqb byte 59) b bytes other.0))
    (onto_first_digits b (parts_of bytes) (digit_or_semicolon b other.1 h) k)

parts_are_digits : (bytes : List ℕ) → AreParameterBytes bytes → AreParts (parts_of bytes)
parts_are_digits [] h = (tt, tt)
parts_are_digits (b ∷ bytes) h = parts_step b bytes h.0 (parts_are_digits bytes h.1) (eqb_tells b 59)

part_at : (parts : List (List ℕ)) (i : ℕ) (d : List ℕ) → AreParts parts → i < length parts → AreDigits (get_or parts i d)
part_at [] i d h lt = absurd (omega arith)
part_at (part ∷ parts) zero d h lt = h.0
part_at (part ∷ parts) (suc i) d h lt = part_at parts i d h.1 (omega arith)

-- a part has digits alone
pub part_is_digits : (bytes part : List ℕ) (i : ℕ) → AreParameterBytes bytes → i < length (parts_of bytes)
    → part ≡ get_or (parts_of bytes) i part → AreDigits part
part_is_digits bytes part i h lt e = subst AreDigits (sym e) (part_at (parts_of bytes) i part (parts_are_digits bytes h) lt)

length_onto_first : (b : ℕ) (parts : List (List ℕ)) → length (onto_first b parts) ≤ length parts + 1
length_onto_first b [] = omega arith
length_onto_first b (part ∷ parts) = omega arith

few_step : (b : ℕ) (bytes : List ℕ) → length (parts_of bytes) ≤ length bytes + 1
    → ((eqb b 59 ≡ true) × (b ≡ 59)) ⊎ ((eqb b 59 ≡ false) × (b ≢ 59)) → length (parts_of (b ∷ bytes)) ≤ length (b ∷ bytes) + 1
few_step b bytes few (inl same) = omega (arith, ap length (slice_split-cons_yes (λ byte. eqb byte 59) b bytes same.0))
few_step b bytes few (inr other) =
    omega (arith, ap length (slice_split-cons_no (λ byte. eqb byte 59) b bytes other.0), length_onto_first b (parts_of bytes))

-- there is at most one part more than there are bytes
pub few_parts : (bytes : List ℕ) → length (parts_of bytes) ≤ length bytes + 1
few_parts [] = omega arith
few_parts (b ∷ bytes) = few_step b bytes (few_parts bytes) (eqb_tells b 59)

-- one parameter after another

abbrev first_and : Option (Option ℕ) → Option (List (Option ℕ)) → Option (List (Option ℕ))
first_and o p = option_and_then (λ (n : Option ℕ). option_map (λ (ns : List (Option ℕ)). n ∷ ns) p) o

first_and_some : (o : Option (Option ℕ)) (p : Option (List (Option ℕ))) (ns : List (Option ℕ)) → first_and o p ≡ Some ns
    → (m : Option ℕ) × (ms : List (Option ℕ)) × (o ≡ Some m) × (p ≡ Some ms) × (m ∷ ms ≡ ns)
first_and_some None p ns e = cc
first_and_some (Some m) None ns e = cc
first_and_some (Some m) (Some ms) ns e = (m, ms, refl, refl, cc)

first_and_none : (o : Option (Option ℕ)) → first_and o None ≡ None
first_and_none None = refl
first_and_none (Some m) = refl

each_push : (parts : List (List ℕ)) (part : List ℕ) (ns : List (Option ℕ)) (n : Option ℕ)
    → each_parameter parts ≡ Some ns → parameter part ≡ Some n → each_parameter (parts ++ part ∷ []) ≡ Some (ns ++ n ∷ [])
each_push [] part ns n e f =
    let none : [] ≡ ns = cc in
    ap (λ o. first_and o (Some [])) f ∙ ap (λ (ms : List (Option ℕ)). Some (ms ++ n ∷ [])) none
each_push (first ∷ parts) part ns n e f =
    let cut = first_and_some (parameter first) (each_parameter parts) ns e in
    let rest = each_push parts part cut.1 n cut.3 f in
    ap (λ o. first_and o (each_parameter (parts ++ part ∷ []))) cut.2 ∙ ap (first_and (Some cut.0)) rest
    ∙ ap (λ (ms : List (Option ℕ)). Some (ms ++ n ∷ [])) cut.4

-- one parameter more
pub each_more : (parts : List (List ℕ)) (part : List ℕ) (i : ℕ) (ns : List (Option ℕ)) (n : Option ℕ) → i < length parts
    → part ≡ get_or parts i part → each_parameter (take i parts) ≡ Some ns → parameter part ≡ Some n
    → each_parameter (take (i + 1) parts) ≡ Some (ns ++ n ∷ [])
each_more parts part i ns n lt is e f =
    ap each_parameter (take_more parts i part lt ∙ ap (λ p. take i parts ++ p ∷ []) (sym is)) ∙ each_push (take i parts) part ns n e f

each_none : (parts : List (List ℕ)) (i : ℕ) (d : List ℕ) → i < length parts → parameter (get_or parts i d) ≡ None
    → each_parameter parts ≡ None
each_none [] i d lt e = absurd (omega arith)
each_none (part ∷ parts) zero d lt e = ap (λ o. first_and o (each_parameter parts)) e
each_none (part ∷ parts) (suc i) d lt e =
    ap (first_and (parameter part)) (each_none parts i d (omega arith) e) ∙ first_and_none (parameter part)

-- one that is not defined
pub each_stops : (parts : List (List ℕ)) (part : List ℕ) (i : ℕ) → i < length parts → part ≡ get_or parts i part → parameter part ≡ None
    → each_parameter parts ≡ None
each_stops parts part i lt is e = each_none parts i part lt (ap parameter (sym is) ∙ e)

pub each_all : (parts : List (List ℕ)) (i : ℕ) → i ≡ length parts → each_parameter (take i parts) ≡ each_parameter parts
each_all parts i e = ap each_parameter (take_all i parts (omega arith))
