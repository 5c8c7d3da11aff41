-- What is measured as a padding is one, and the other way round; a text without its padding is one text.
use Rattle.std.proofs.Common.{◌≡◌, ◌≢◌, ◌⊎◌, ℕ, suc, ◌+◌, ◌<◌, Bool, true, false, cond, ◌&&◌, ◌||◌, List, [], ◌∷◌, ◌++◌, length, drop, inl, inr, refl, ap, sym, ◌∙◌, subst, append_assoc, arith}
use Rattle.std.specs.Prelude.{◌==◌, nat_lt, slice_index}
use Rattle.std.specs.List.{list_any}
use Rattle.std.proofs.lemmas.Bool.Decides.{nat_tests}
use Rattle.std.proofs.lemmas.List.{drop-drop, drop_at, drop_all, drop_more, get_or-drop, length-append}
use Rattle.std.proofs.lemmas.Bool.{and_from, and_parts, cond_both, cond-true, eqb-true, eq-eqb, false≢true, lt-ltb, ltb-true, or_cases}
use Rattle.ti_param.specs.Digits.{is_digit, all_digits}
use Rattle.ti_param.specs.Padding.{IsTenth, AreMarks, none, for_each_line, mandatory, line_first, line_last, IsPadding, BeginsWithout, Stripped, ended, left_out, kept}
use Rattle.ti_param.specs.Code.Padding.{leading_digits, digits_at, point_at, marks_of_two, marks_at, padding_end, padding_up_to, padding_length}
use Rattle.ti_param.proofs.DigitLaws.{starts}

-- ---- what is a padding is measured as one

leading_none : (text : List ℕ) → starts is_digit text ≡ false → leading_digits text ≡ 0
leading_none [] stop = refl
leading_none (b ∷ text) stop = ap (λ q. cond q (suc (leading_digits text)) 0) stop

leading_through : (digits text : List ℕ) → all_digits digits ≡ true → starts is_digit text ≡ false → leading_digits (digits ++ text) ≡ length digits
leading_through [] text are stop = leading_none text stop
leading_through (b ∷ digits) text are stop =
    let both = and_parts (is_digit b) (all_digits digits) are in
    ap (λ q. cond q (suc (leading_digits (digits ++ text))) 0) both.0 ∙ ap suc (leading_through digits text both.1 stop)

-- what stands after the number, and after its tenth
marks_stop : (marks rest : List ℕ) → AreMarks marks → starts is_digit (marks ++ 62 ∷ rest) ≡ false
marks_stop marks rest none = refl
marks_stop marks rest for_each_line = refl
marks_stop marks rest mandatory = refl
marks_stop marks rest line_first = refl
marks_stop marks rest line_last = refl

tenth_stops : (tenth marks rest : List ℕ) → IsTenth tenth → AreMarks marks → starts is_digit (tenth ++ (marks ++ 62 ∷ rest)) ≡ false
tenth_stops tenth marks rest (inl e) are = ap (λ t. starts is_digit (t ++ (marks ++ 62 ∷ rest))) e ∙ marks_stop marks rest are
tenth_stops tenth marks rest (inr x) are = ap (λ t. starts is_digit (t ++ (marks ++ 62 ∷ rest))) x.2

marks_point : (marks rest : List ℕ) → AreMarks marks → point_at (marks ++ 62 ∷ rest) 0 ≡ 0
marks_point marks rest none = refl
marks_point marks rest for_each_line = refl
marks_point marks rest mandatory = refl
marks_point marks rest line_first = refl
marks_point marks rest line_last = refl

tenth_point : (tenth marks rest : List ℕ) → IsTenth tenth → AreMarks marks → point_at (tenth ++ (marks ++ 62 ∷ rest)) 0 ≡ length tenth
tenth_point tenth marks rest (inl e) are =
    ap (λ t. point_at (t ++ (marks ++ 62 ∷ rest)) 0) e ∙ marks_point marks rest are ∙ sym (ap length e)
tenth_point tenth marks rest (inr x) are =
    ap (λ t. point_at (t ++ (marks ++ 62 ∷ rest)) 0) x.2 ∙ ap (λ q. cond q 2 0) x.1 ∙ sym (ap length x.2)

marks_counted : (marks rest : List ℕ) → AreMarks marks → marks_at (marks ++ 62 ∷ rest) 0 ≡ length marks
marks_counted marks rest none = refl
marks_counted marks rest for_each_line = refl
marks_counted marks rest mandatory = refl
marks_counted marks rest line_first = refl
marks_counted marks rest line_last = refl

-- a place is looked at as the beginning of what stands from there on
head_from : (text : List ℕ) (n : ℕ) → slice_index text n ≡ slice_index (drop n text) 0
head_from text n = let e : n ≡ n + 0 = omega arith in ap (slice_index text) e ∙ sym (get_or-drop n text 0 0)

point_from : (text : List ℕ) (n : ℕ) → point_at text n ≡ point_at (drop n text) 0
point_from text n =
    let point : ℕ → ℕ → ℕ = λ a b. cond (a == 46 && is_digit b) 2 0 in
    ap (λ a. point a (slice_index text (n + 1))) (head_from text n) ∙ ap (point (slice_index (drop n text) 0)) (sym (get_or-drop n text 1 0))

marks_from : (text : List ℕ) (n : ℕ) → marks_at text n ≡ marks_at (drop n text) 0
marks_from text n =
    ap (λ a. marks_of_two a (slice_index text (n + 1))) (head_from text n)
    ∙ ap (marks_of_two (slice_index (drop n text) 0)) (sym (get_or-drop n text 1 0))

-- where a text has these digits, this tenth and these marks
end_is : (text : List ℕ) (d t m : ℕ) → point_at (drop (2 + d) text) 0 ≡ t → marks_at (drop (2 + d + t) text) 0 ≡ m → padding_end text d ≡ 2 + d + t + m
end_is text d t m point mark =
    let at : point_at text (2 + d) ≡ t = point_from text (2 + d) ∙ point in
    ap (λ k. 2 + d + k + marks_at text (2 + d + k)) at ∙ ap (λ k. 2 + d + t + k) (marks_from text (2 + d + t) ∙ mark)

some_length : (digits : List ℕ) → digits ≢ [] → nat_lt 0 (length digits) ≡ true
some_length [] some = absurd (some refl)
some_length (b ∷ digits) some = lt-ltb 0 (suc (length digits)) (omega arith)

up_to_is : (text : List ℕ) (d end : ℕ) → slice_index text 0 == 36 ≡ true → slice_index text 1 == 60 ≡ true → nat_lt 0 d ≡ true → slice_index text end == 62 ≡ true → padding_up_to text d end ≡ end + 1
up_to_is text d end a b c e =
    cond-true _ (end + 1) 0 (and_from _ _ a (and_from _ _ b (and_from _ _ c e)))

length_is : (digits tenth marks rest : List ℕ) → all_digits digits ≡ true → digits ≢ [] → IsTenth tenth → AreMarks marks → padding_length (36 ∷ 60 ∷ (digits ++ (tenth ++ (marks ++ 62 ∷ rest)))) ≡ 2 + length digits + length tenth + length marks + 1
length_is digits tenth marks rest are some is_tenth are_marks =
    let third = marks ++ 62 ∷ rest in
    let second = tenth ++ third in
    let text = 36 ∷ 60 ∷ (digits ++ second) in
    let d : digits_at text 2 ≡ length digits = leading_through digits second are (tenth_stops tenth marks rest is_tenth are_marks) in
    let first_behind : drop (2 + length digits) text ≡ second = drop_at (36 ∷ 60 ∷ digits) second (2 + length digits) (omega arith) in
    let second_behind : drop (2 + length digits + length tenth) text ≡ third =
    sym (drop-drop (length tenth) (2 + length digits) text) ∙ ap (drop (length tenth)) first_behind ∙ drop_at tenth third (length tenth) refl in
    let third_behind : drop (2 + length digits + length tenth + length marks) text ≡ 62 ∷ rest =
    sym (drop-drop (length marks) (2 + length digits + length tenth) text) ∙ ap (drop (length marks)) second_behind ∙ drop_at marks (62 ∷ rest) (length marks) refl in
    let point : point_at (drop (2 + length digits) text) 0 ≡ length tenth = ap (λ l. point_at l 0) first_behind ∙ tenth_point tenth marks rest is_tenth are_marks in
    let mark : marks_at (drop (2 + length digits + length tenth) text) 0 ≡ length marks = ap (λ l. marks_at l 0) second_behind ∙ marks_counted marks rest are_marks in
    let end = 2 + length digits + length tenth + length marks in
    let closed : slice_index text end ≡ 62 = head_from text end ∙ ap (λ l. slice_index l 0) third_behind in
    ap (λ k. padding_up_to text k (padding_end text k)) d
    ∙ ap (padding_up_to text (length digits)) (end_is text (length digits) (length tenth) (length marks) point mark)
    ∙ up_to_is text (length digits) end refl refl (some_length digits some) (eq-eqb (slice_index text end) 62 closed)

padding_and_rest : (digits tenth marks rest : List ℕ) → (36 ∷ 60 ∷ (digits ++ (tenth ++ (marks ++ 62 ∷ [])))) ++ rest ≡ 36 ∷ 60 ∷ (digits ++ (tenth ++ (marks ++ 62 ∷ rest)))
padding_and_rest digits tenth marks rest =
    ap (λ l. 36 ∷ 60 ∷ l) (append_assoc digits (tenth ++ (marks ++ 62 ∷ [])) rest ∙ ap (λ l. digits ++ l) (append_assoc tenth (marks ++ 62 ∷ []) rest ∙ ap (λ l. tenth ++ l) (append_assoc marks (62 ∷ []) rest)))

parts_length : (digits tenth marks : List ℕ) → length (36 ∷ 60 ∷ (digits ++ (tenth ++ (marks ++ 62 ∷ [])))) ≡ 2 + length digits + length tenth + length marks + 1
parts_length digits tenth marks =
    let a = length-append digits (tenth ++ (marks ++ 62 ∷ [])) in
    let b = length-append tenth (marks ++ 62 ∷ []) in
    let c = length-append marks (62 ∷ []) in
    omega (arith, a, b, c)

-- a padding at the beginning of a text is what is measured, whatever is after it
pub padding_measured : (text padding rest : List ℕ) → text ≡ padding ++ rest → IsPadding padding → padding_length text ≡ length padding
padding_measured text padding rest e p =
    ap padding_length (e ∙ ap (λ l. l ++ rest) p.whole ∙ padding_and_rest p.digits p.tenth p.marks rest)
    ∙ length_is p.digits p.tenth p.marks rest p.are_digits p.some p.is_tenth p.are_marks
    ∙ sym (ap length p.whole ∙ parts_length p.digits p.tenth p.marks)

padding_is_some : (padding : List ℕ) → IsPadding padding → length padding ≡ 0 → ⊥
padding_is_some padding p e =
    let n = sym (ap length p.whole ∙ parts_length p.digits p.tenth p.marks) ∙ e in omega (arith, n)

-- where nothing is measured, no padding begins
pub measured_none : (text : List ℕ) → padding_length text ≡ 0 → BeginsWithout text
measured_none text e padding rest whole p = padding_is_some padding p (sym (padding_measured text padding rest whole p) ∙ e)

-- ---- what is measured is a padding

-- a text begins with a padding of this length
record Found (text : List ℕ) (n : ℕ) : Type 0 where
  padding : List ℕ
  rest : List ℕ
  whole : text ≡ padding ++ rest
  is : IsPadding padding
  long : length padding ≡ n

record Digits (text : List ℕ) : Type 0 where
  front : List ℕ
  behind : List ℕ
  whole : text ≡ front ++ behind
  are : all_digits front ≡ true
  count : length front ≡ leading_digits text

digits_of : (text : List ℕ) → Digits text
digits_of [] = record { front = []; behind = []; whole = refl; are = refl; count = refl }
digits_of (b ∷ text) = go (is_digit b) refl (digits_of text)
  where
    go : (q : Bool) → is_digit b ≡ q → Digits text → Digits (b ∷ text)
    go true e d = record { front = b ∷ d.front; behind = d.behind; whole = ap (λ l. b ∷ l) d.whole; are = and_from (is_digit b) (all_digits d.front) e d.are; count = ap suc d.count ∙ sym (ap (λ q. cond q (suc (leading_digits text)) 0) e) }
    go false e d = record { front = []; behind = b ∷ text; whole = refl; are = refl; count = sym (ap (λ q. cond q (suc (leading_digits text)) 0) e) }

record Tenth (text : List ℕ) (n : ℕ) : Type 0 where
  front : List ℕ
  behind : List ℕ
  whole : text ≡ front ++ behind
  is : IsTenth front
  count : length front ≡ n

no_tenth : (text : List ℕ) → Tenth text 0
no_tenth text = record { front = []; behind = text; whole = refl; is = inl refl; count = refl }

tenth_of : (text : List ℕ) → Tenth text (point_at text 0)
tenth_of [] = no_tenth []
tenth_of (a ∷ []) =
    cond_both (a == 46 && is_digit 0) 2 0 (Tenth (a ∷ [])) (λ e. absurd (false≢true (and_parts (a == 46) (is_digit 0) e).1)) (λ e. no_tenth (a ∷ []))
tenth_of (a ∷ b ∷ text) =
    cond_both (a == 46 && is_digit b) 2 0 (Tenth (a ∷ b ∷ text)) (λ e. let both = and_parts (a == 46) (is_digit b) e in record { front = 46 ∷ b ∷ []; behind = text; whole = ap (λ x. x ∷ b ∷ text) (eqb-true a 46 both.0); is = inr (b, both.1, refl); count = refl }) (λ e. no_tenth (a ∷ b ∷ text))

record Marks (text : List ℕ) (n : ℕ) : Type 0 where
  front : List ℕ
  behind : List ℕ
  whole : text ≡ front ++ behind
  are : AreMarks front
  count : length front ≡ n

no_marks : (text : List ℕ) → Marks text 0
no_marks text = record { front = []; behind = text; whole = refl; are = none; count = refl }

one_mark : (a : ℕ) (text : List ℕ) → (a == 42) || (a == 47) ≡ true → Marks (a ∷ text) 1
one_mark a text e = go (or_cases (a == 42) (a == 47) e)
  where
    go : (a == 42 ≡ true) ⊎ (a == 47 ≡ true) → Marks (a ∷ text) 1
    go (inl e) = record { front = 42 ∷ []; behind = text; whole = ap (λ x. x ∷ text) (eqb-true a 42 e); are = for_each_line; count = refl }
    go (inr e) = record { front = 47 ∷ []; behind = text; whole = ap (λ x. x ∷ text) (eqb-true a 47 e); are = mandatory; count = refl }

both_are : (a b x y : ℕ) (text : List ℕ) → (a == x) && (b == y) ≡ true → a ∷ b ∷ text ≡ x ∷ y ∷ text
both_are a b x y text e =
    let both = and_parts (a == x) (b == y) e in
    ap (λ p. p ∷ b ∷ text) (eqb-true a x both.0) ∙ ap (λ q. x ∷ q ∷ text) (eqb-true b y both.1)

two_marks : (a b : ℕ) (text : List ℕ) → (a == 42 && b == 47) || (a == 47 && b == 42) ≡ true → Marks (a ∷ b ∷ text) 2
two_marks a b text e = go (or_cases (a == 42 && b == 47) (a == 47 && b == 42) e)
  where
    go : (a == 42 && b == 47 ≡ true) ⊎ (a == 47 && b == 42 ≡ true) → Marks (a ∷ b ∷ text) 2
    go (inl e) = record { front = 42 ∷ 47 ∷ []; behind = text; whole = both_are a b 42 47 text e; are = line_first; count = refl }
    go (inr e) = record { front = 47 ∷ 42 ∷ []; behind = text; whole = both_are a b 47 42 text e; are = line_last; count = refl }

-- a byte 0 is no mark
no_second : (a : ℕ) → (a == 42 && 0 == 47) || (a == 47 && 0 == 42) ≡ true → ⊥
no_second a e = go (or_cases (a == 42 && 0 == 47) (a == 47 && 0 == 42) e)
  where
    go : (a == 42 && 0 == 47 ≡ true) ⊎ (a == 47 && 0 == 42 ≡ true) → ⊥
    go (inl e) = false≢true (and_parts (a == 42) (0 == 47) e).1
    go (inr e) = false≢true (and_parts (a == 47) (0 == 42) e).1

at_most_one : (a : ℕ) (text : List ℕ) → Marks (a ∷ text) (cond (a == 42 || a == 47) 1 0)
at_most_one a text = cond_both (a == 42 || a == 47) 1 0 (Marks (a ∷ text)) (one_mark a text) (λ e. no_marks (a ∷ text))

marks_of : (text : List ℕ) → Marks text (marks_at text 0)
marks_of [] = no_marks []
marks_of (a ∷ []) =
    cond_both ((a == 42 && 0 == 47) || (a == 47 && 0 == 42)) 2 (cond (a == 42 || a == 47) 1 0) (Marks (a ∷ [])) (λ e. absurd (no_second a e)) (λ e. at_most_one a [])
marks_of (a ∷ b ∷ text) =
    cond_both ((a == 42 && b == 47) || (a == 47 && b == 42)) 2 (cond (a == 42 || a == 47) 1 0) (Marks (a ∷ b ∷ text)) (two_marks a b text) (λ e. at_most_one a (b ∷ text))

head_is : (text : List ℕ) (b : ℕ) → slice_index text 0 ≡ b → (b ≡ 0 → ⊥) → (rest : List ℕ) × (text ≡ b ∷ rest)
head_is [] b e some = absurd (some (sym e))
head_is (a ∷ text) b e some = (text, ap (λ x. x ∷ text) e)

counted_some : (digits : List ℕ) (n : ℕ) → length digits ≡ n → nat_lt 0 n ≡ true → digits ≢ []
counted_some digits n e some h =
    let positive = ltb-true 0 n some in let none = ap length h in omega (arith, positive, none, e)

-- these parts, one after another, and what is after them
found_of : (text digits tenth marks rest : List ℕ) (n : ℕ) → text ≡ 36 ∷ 60 ∷ (digits ++ (tenth ++ (marks ++ 62 ∷ rest))) → all_digits digits ≡ true → digits ≢ [] → IsTenth tenth → AreMarks marks → 2 + length digits + length tenth + length marks + 1 ≡ n → Found text n
found_of text digits tenth marks rest n whole are some is_tenth are_marks count = record {
  padding = 36 ∷ 60 ∷ (digits ++ (tenth ++ (marks ++ 62 ∷ [])));
  rest = rest;
  whole = whole ∙ sym (padding_and_rest digits tenth marks rest);
  is = record { digits = digits; tenth = tenth; marks = marks; whole = refl; are_digits = are; some = some; is_tenth = is_tenth; are_marks = are_marks };
  long = parts_length digits tenth marks ∙ count;
}

found_behind : (ys : List ℕ) → nat_lt 0 (leading_digits ys) ≡ true → slice_index (36 ∷ 60 ∷ ys) (padding_end (36 ∷ 60 ∷ ys) (leading_digits ys)) ≡ 62 → Found (36 ∷ 60 ∷ ys) (padding_end (36 ∷ 60 ∷ ys) (leading_digits ys) + 1)
found_behind ys some closed =
    let text = 36 ∷ 60 ∷ ys in
    let d = digits_of ys in
    let n = leading_digits ys in
    let t = tenth_of d.behind in
    let m = marks_of t.behind in
    let first_behind : drop (2 + n) text ≡ d.behind =
    ap (λ l. drop (2 + n) (36 ∷ 60 ∷ l)) d.whole ∙ drop_at (36 ∷ 60 ∷ d.front) d.behind (2 + n) (omega (arith, d.count)) in
    let point : point_at (drop (2 + n) text) 0 ≡ length t.front = ap (λ l. point_at l 0) first_behind ∙ sym t.count in
    let second_behind : drop (2 + n + length t.front) text ≡ t.behind =
    sym (drop-drop (length t.front) (2 + n) text) ∙ ap (drop (length t.front)) (first_behind ∙ t.whole) ∙ drop_at t.front t.behind (length t.front) refl in
    let mark : marks_at (drop (2 + n + length t.front) text) 0 ≡ length m.front = ap (λ l. marks_at l 0) second_behind ∙ sym m.count in
    let end : padding_end text n ≡ 2 + n + length t.front + length m.front = end_is text n (length t.front) (length m.front) point mark in
    let third_behind : drop (2 + n + length t.front + length m.front) text ≡ m.behind =
    sym (drop-drop (length m.front) (2 + n + length t.front) text) ∙ ap (drop (length m.front)) (second_behind ∙ m.whole) ∙ drop_at m.front m.behind (length m.front) refl in
    let last : slice_index m.behind 0 ≡ 62 =
    sym (ap (λ l. slice_index l 0) third_behind) ∙ sym (head_from text (2 + n + length t.front + length m.front)) ∙ ap (slice_index text) (sym end) ∙ closed in
    let h = head_is m.behind 62 last (λ e. omega (arith, e)) in
    let third_is : t.behind ≡ m.front ++ 62 ∷ h.0 = m.whole ∙ ap (λ l. m.front ++ l) h.1 in
    let second_is : d.behind ≡ t.front ++ (m.front ++ 62 ∷ h.0) = t.whole ∙ ap (λ l. t.front ++ l) third_is in
    let first_is : ys ≡ d.front ++ (t.front ++ (m.front ++ 62 ∷ h.0)) = d.whole ∙ ap (λ l. d.front ++ l) second_is in
    let count : 2 + length d.front + length t.front + length m.front + 1 ≡ padding_end text n + 1 = omega (arith, d.count, end) in
    found_of text d.front t.front m.front h.0 _ (ap (λ l. 36 ∷ 60 ∷ l) first_is) d.are (counted_some d.front n d.count some) t.is m.are count

found_at : (text : List ℕ) → slice_index text 0 ≡ 36 → slice_index text 1 ≡ 60 → nat_lt 0 (digits_at text 2) ≡ true → slice_index text (padding_end text (digits_at text 2)) ≡ 62 → Found text (padding_end text (digits_at text 2) + 1)
found_at [] a b some closed = let bad : ⊥ = omega (arith, a) in absurd bad
found_at (x ∷ []) a b some closed = let bad : ⊥ = omega (arith, b) in absurd bad
found_at (x ∷ y ∷ ys) a b some closed =
    let whole : x ∷ y ∷ ys ≡ 36 ∷ 60 ∷ ys = ap (λ p. p ∷ y ∷ ys) a ∙ ap (λ q. 36 ∷ q ∷ ys) b in
    let n = leading_digits ys in
    subst (λ l. Found l (padding_end l n + 1)) (sym whole) (found_behind ys some (subst (λ l. slice_index l (padding_end l n) ≡ 62) whole closed))

found : (text : List ℕ) → (padding_length text ≡ 0 → ⊥) → Found text (padding_length text)
found text =
    let d = digits_at text 2 in
    let end = padding_end text d in
    let test = slice_index text 0 == 36 && (slice_index text 1 == 60 && (nat_lt 0 d && slice_index text end == 62)) in
    cond_both test (end + 1) 0 (λ n. (n ≡ 0 → ⊥) → Found text n)
    (λ e some.
    let first = and_parts (slice_index text 0 == 36) _ e in
    let second = and_parts (slice_index text 1 == 60) _ first.1 in
    let third = and_parts (nat_lt 0 d) _ second.1 in
    found_at text (eqb-true _ _ first.0) (eqb-true _ _ second.0) third.0 (eqb-true _ _ third.1))
    (λ e some. absurd (some refl))

-- ---- a text without its padding

-- padding that was measured is left out
pub passed_over : (index n : ℕ) (bytes result : List ℕ) → n ≡ padding_length (drop index bytes) → (n ≡ 0 → ⊥) → Stripped (drop (index + n) bytes) result → Stripped (drop index bytes) result
passed_over index n bytes result e some s =
    let text = drop index bytes in
    let f = found text (λ z. some (e ∙ z)) in
    let behind : drop (index + n) bytes ≡ f.rest = sym (drop-drop n index bytes) ∙ ap (drop n) f.whole ∙ drop_at f.padding f.rest n (f.long ∙ sym e) in
    left_out f.whole f.is (subst (λ l. Stripped l result) behind s)

-- a byte at which nothing was measured stays
pub passed_by : (text : List ℕ) (index : ℕ) (result : List ℕ) → index < length text → padding_length (drop index text) ≡ 0 → Stripped (drop (index + 1) text) result → Stripped (drop index text) (slice_index text index ∷ result)
passed_by text index result le e s =
    let more : drop index text ≡ slice_index text index ∷ drop (index + 1) text = drop_more text index 0 le in
    subst (λ l. Stripped l (slice_index text index ∷ result)) (sym more) (kept (measured_none _ (ap padding_length (sym more) ∙ e)) s)

pub passed_all : (text : List ℕ) (index : ℕ) → length text ≡ index → Stripped (drop index text) []
passed_all text index e = subst (λ l. Stripped l []) (sym (drop_all index text (omega (arith, e)))) ended

-- after a padding with which a text begins the rest is looked at
behind_padding : (text other padding rest : List ℕ) → text ≡ padding ++ rest → IsPadding padding → Stripped text other → Stripped rest other
behind_padding text other padding rest e p ended = absurd (padding_is_some padding p (sym (padding_measured [] padding rest e p)))
behind_padding text other padding rest e p (left_out {padding = front} {rest = behind} f q s) =
    let long = sym (padding_measured text front behind f q) ∙ padding_measured text padding rest e p in
    subst (λ l. Stripped l other) (sym (drop_at front behind (length padding) long) ∙ ap (drop (length padding)) (sym f ∙ e) ∙ drop_at padding rest (length padding) refl) s
behind_padding text other padding rest e p (kept without s) = absurd (without padding rest e p)

pub stripped_once : (text one other : List ℕ) → Stripped text one → Stripped text other → one ≡ other
stripped_once text one other (left_out {padding = padding} {rest = rest} e p s) t = stripped_once rest one other s (behind_padding text other padding rest e p t)
stripped_once text one other ended ended = refl
stripped_once text one other ended (left_out {padding = padding} {rest = rest} e p s) = absurd (padding_is_some padding p (sym (padding_measured [] padding rest e p)))
stripped_once text one other (kept {byte = byte} without s) (kept other_without t) = ap (λ l. byte ∷ l) (stripped_once _ _ _ s t)
stripped_once text one other (kept without s) (left_out {padding = padding} {rest = rest} e p t) = absurd (without padding rest e p)

-- a text without `$` has no padding
pub without_mark : (text : List ℕ) → list_any (λ byte. byte == 36) text ≡ false → Stripped text text
without_mark [] unmarked = ended
without_mark (byte ∷ text) unmarked = by (byte == 36) refl unmarked (without_mark text)
  where
    never : true ≡ false → ⊥
    never e = (cc)

    begins : (byte : ℕ) (text padding rest : List ℕ) → byte ∷ text ≡ padding ++ rest → IsPadding padding → byte ≡ 36
    begins byte text padding rest whole p = let all : byte ∷ text ≡ (36 ∷ 60 ∷ (p.digits ++ (p.tenth ++ (p.marks ++ 62 ∷ [])))) ++ rest = whole ∙ ap (λ l. l ++ rest) p.whole in head all
      where
        head : {a b : ℕ} {xs ys : List ℕ} → a ∷ xs ≡ b ∷ ys → a ≡ b
        head e = (cc)

    by : (b : Bool) → (byte == 36) ≡ b → (b || list_any (λ y. y == 36) text) ≡ false → (list_any (λ y. y == 36) text ≡ false → Stripped text text) → Stripped (byte ∷ text) (byte ∷ text)
    by true here rest further = absurd (never rest)
    by false other rest further =
        kept (λ padding after whole p. let mark : byte ≡ 36 = begins byte text padding after whole p in let same : (byte == 36) ≡ true = grind (arith, nat_tests) in never (sym same ∙ other)) (further rest)
