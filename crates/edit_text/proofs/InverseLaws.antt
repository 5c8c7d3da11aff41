-- What an edit makes of lines, undone, is the lines.
use Rattle.std.proofs.Common.{◌≡◌, ℕ, zero, suc, ◌+◌, ◌<◌, ◌≤◌, List, [], ◌∷◌, ◌++◌, length, take, drop, get_or, set, sym, ◌∙◌, ap, refl, arith, Some, None, length-append, add-one, subst, cond, ◌-◌, Bool, true, false, ◌==◌, ◌&&◌}
use Rattle.std.specs.Prelude.{MatchBool, Option, encode_utf8, nat_lt}
use Rattle.std.specs.List.{insert, remove}
use Rattle.std.proofs.lemmas.List.{take-append-drop, take_at, drop_at, set-append_left, get_or_default, get_or_append_left, get_or-append_right, length-drop}
use Rattle.std.proofs.lemmas.Bool.Decides.{nat_tests}
use Rattle.edit_text.specs.declared.places.TextPlace.{TextPlace}
use Rattle.edit_text.specs.declared.parts.TextPart.{TextPart}
use Rattle.edit_text.specs.declared.parts.TextPart.TheVariants.{Byte, Character}
use Rattle.edit_text.specs.declared.edits.Edit.TheVariants.{Inserted, Deleted, Split, Joined}
use Rattle.edit_text.specs.Lines.{IsPartAt, deleted, inserted, is_end, joined, line_at, removed, split_at, with_bytes, without_bytes}
use Rattle.edit_text.specs.Parts.{IsFirst, IsFirstPart, spelled}
use Rattle.edit_text.specs.Code.Edits.{Undoes}

abbrev pub at : ℕ → ℕ → TextPlace
at n c = record { line = n; column = c }

-- ---- a line

without-with : (xs : List ℕ) (c : ℕ) (bs : List ℕ) → c ≤ length xs → without_bytes (with_bytes xs c bs) c (length bs) ≡ xs
without-with xs zero bs k = drop_at bs xs (length bs) refl
without-with [] (suc c) bs k = absurd (omega arith)
without-with (x ∷ xs) (suc c) bs k = ap (λ ys. x ∷ ys) (without-with xs c bs (omega arith))

with-without : (xs : List ℕ) (c : ℕ) (bs : List ℕ) → c ≤ length xs → drop c xs ≡ bs ++ drop (length bs) (drop c xs) → with_bytes (without_bytes xs c (length bs)) c bs ≡ xs
with-without xs zero bs k e = sym e
with-without [] (suc c) bs k e = absurd (omega arith)
with-without (x ∷ xs) (suc c) bs k e = ap (λ ys. x ∷ ys) (with-without xs c bs (omega arith) e)

length-with : (xs : List ℕ) (c : ℕ) (bs : List ℕ) → c ≤ length xs → length (with_bytes xs c bs) ≡ length bs + length xs
length-with xs zero bs k = length-append bs xs
length-with [] (suc c) bs k = absurd (omega arith)
length-with (x ∷ xs) (suc c) bs k = omega (arith, length-with xs c bs (omega arith))

length-without : (xs : List ℕ) (c n : ℕ) → c + n ≤ length xs → length (without_bytes xs c n) + n ≡ length xs
length-without xs zero n k = omega (arith, length-drop n xs)
length-without [] (suc c) n k = absurd (omega arith)
length-without (x ∷ xs) (suc c) n k = omega (arith, length-without xs c n (omega arith))

-- ---- parts

-- bytes are their first part and the rest
pub first_splits : (xs : List ℕ) (part : TextPart) → IsFirst xs part → xs ≡ spelled part ++ drop (length (spelled part)) xs
first_splits xs (Character c) h = h.bytes_are ∙ ap (λ l. encode_utf8 c ++ l) (sym (ap (drop (length (encode_utf8 c))) h.bytes_are ∙ drop_at (encode_utf8 c) h.rest (length (encode_utf8 c)) refl))
first_splits xs (Byte b) h = h.0.1 ∙ ap (λ l. b ∷ l) (sym (ap (drop 1) h.0.1))

pub first_within : (xs : List ℕ) (part : TextPart) → IsFirst xs part → length (spelled part) ≤ length xs
first_within xs part h = omega (arith, ap length (first_splits xs part h), length-append (spelled part) (drop (length (spelled part)) xs))

-- the part at a place before the end of its line, and at the end
pub at_inside : (ls : List (List ℕ)) (p : TextPlace) (part : Option TextPart) → p.column < length (line_at ls p.line) → IsPartAt ls p part → IsFirstPart (drop p.column (line_at ls p.line)) part
at_inside ls p part l h = subst (λ t. MatchBool t (IsFirstPart (drop p.column (line_at ls p.line)) part) (part ≡ cond (is_end ls p) None (Some (Byte 10)))) (less p.column (length (line_at ls p.line)) l) h
  where
    less : (a b : ℕ) → a < b → nat_lt a b ≡ true
    less a b l = grind (arith, nat_tests)

pub at_end : (ls : List (List ℕ)) (p : TextPlace) (part : Option TextPart) → length (line_at ls p.line) ≤ p.column → IsPartAt ls p part → part ≡ cond (is_end ls p) None (Some (Byte 10))
at_end ls p part l h = subst (λ t. MatchBool t (IsFirstPart (drop p.column (line_at ls p.line)) part) (part ≡ cond (is_end ls p) None (Some (Byte 10)))) (not_less p.column (length (line_at ls p.line)) l) h
  where
    not_less : (a b : ℕ) → b ≤ a → nat_lt a b ≡ false
    not_less a b l = grind (arith, nat_tests)

-- a part at the end of a line is a line feed, and this is not the end of the text
pub is_feed : (ls : List (List ℕ)) (p : TextPlace) (part : TextPart) → length (line_at ls p.line) ≤ p.column → IsPartAt ls p (Some part) → (part ≡ Byte 10) × (is_end ls p ≡ false)
is_feed ls p part l h = by (is_end ls p) (at_end ls p (Some part) l h)
  where
    by : (t : Bool) → Some part ≡ cond t None (Some (Byte 10)) → (part ≡ Byte 10) × (t ≡ false)
    by true e = (cc)
    by false e = ((cc), refl)

-- so many bytes are there
pub part_within : (ls : List (List ℕ)) (p : TextPlace) (part : TextPart) → p.column < length (line_at ls p.line) → IsPartAt ls p (Some part) → p.column + length (spelled part) ≤ length (line_at ls p.line)
part_within ls p part l h = omega (arith, l, first_within _ part (at_inside ls p (Some part) l h), length-drop p.column (line_at ls p.line))

-- ---- lines

removed-inserted : (ls : List (List ℕ)) (n c : ℕ) (bs : List ℕ) → n < length ls → c ≤ length (line_at ls n) → removed (inserted ls (at n c) bs) (at n c) (length bs) ≡ ls
removed-inserted [] n c bs l k = absurd (omega arith)
removed-inserted (x ∷ ls) zero c bs l k = ap (λ y. y ∷ ls) (without-with x c bs k)
removed-inserted (x ∷ ls) (suc n) c bs l k = ap (λ r. x ∷ r) (removed-inserted ls n c bs (omega arith) k)

inserted-removed : (ls : List (List ℕ)) (n c : ℕ) (bs : List ℕ) → n < length ls → c ≤ length (line_at ls n) → drop c (line_at ls n) ≡ bs ++ drop (length bs) (drop c (line_at ls n)) → inserted (removed ls (at n c) (length bs)) (at n c) bs ≡ ls
inserted-removed [] n c bs l k e = absurd (omega arith)
inserted-removed (x ∷ ls) zero c bs l k e = ap (λ y. y ∷ ls) (with-without x c bs k e)
inserted-removed (x ∷ ls) (suc n) c bs l k e = ap (λ r. x ∷ r) (inserted-removed ls n c bs (omega arith) k e)

joined-split : (ls : List (List ℕ)) (n c : ℕ) → n < length ls → joined (split_at ls (at n c)) n ≡ ls
joined-split [] n c l = absurd (omega arith)
joined-split (x ∷ ls) zero c l = ap (λ y. y ∷ ls) (take-append-drop c x)
joined-split (x ∷ ls) (suc n) c l = ap (λ r. x ∷ r) (joined-split ls n c (omega arith))

split-joined : (ls : List (List ℕ)) (n c : ℕ) → suc n < length ls → c ≡ length (line_at ls n) → split_at (joined ls n) (at n c) ≡ ls
split-joined [] n c l e = absurd (omega arith)
split-joined (x ∷ []) n c l e = absurd (omega arith)
split-joined (x ∷ y ∷ ls) zero c l e = λ i. take_at x y c (sym e) i ∷ (drop_at x y c (sym e) i ∷ ls)
split-joined (x ∷ y ∷ ls) (suc n) c l e = ap (λ r. x ∷ r) (split-joined (y ∷ ls) n c (omega arith) e)

-- ---- what the lines after an edit hold

line-inserted : (ls : List (List ℕ)) (n c : ℕ) (bs : List ℕ) → n < length ls → line_at (inserted ls (at n c) bs) n ≡ with_bytes (line_at ls n) c bs
line-inserted [] n c bs l = absurd (omega arith)
line-inserted (x ∷ ls) zero c bs l = refl
line-inserted (x ∷ ls) (suc n) c bs l = line-inserted ls n c bs (omega arith)

line-removed : (ls : List (List ℕ)) (n c m : ℕ) → n < length ls → line_at (removed ls (at n c) m) n ≡ without_bytes (line_at ls n) c m
line-removed [] n c m l = absurd (omega arith)
line-removed (x ∷ ls) zero c m l = refl
line-removed (x ∷ ls) (suc n) c m l = line-removed ls n c m (omega arith)

line-joined : (ls : List (List ℕ)) (n : ℕ) → suc n < length ls → line_at (joined ls n) n ≡ line_at ls n ++ line_at ls (suc n)
line-joined [] n l = absurd (omega arith)
line-joined (x ∷ ls) zero l = refl
line-joined (x ∷ ls) (suc n) l = line-joined ls n (omega arith)

pub length-inserted : (ls : List (List ℕ)) (n c : ℕ) (bs : List ℕ) → length (inserted ls (at n c) bs) ≡ length ls
length-inserted [] n c bs = refl
length-inserted (x ∷ ls) zero c bs = refl
length-inserted (x ∷ ls) (suc n) c bs = ap suc (length-inserted ls n c bs)

pub length-removed : (ls : List (List ℕ)) (n c m : ℕ) → length (removed ls (at n c) m) ≡ length ls
length-removed [] n c m = refl
length-removed (x ∷ ls) zero c m = refl
length-removed (x ∷ ls) (suc n) c m = ap suc (length-removed ls n c m)

pub length-split : (ls : List (List ℕ)) (n c : ℕ) → n < length ls → length (split_at ls (at n c)) ≡ suc (length ls)
length-split [] n c l = absurd (omega arith)
length-split (x ∷ ls) zero c l = refl
length-split (x ∷ ls) (suc n) c l = ap suc (length-split ls n c (omega arith))

pub length-joined : (ls : List (List ℕ)) (n : ℕ) → suc n < length ls → suc (length (joined ls n)) ≡ length ls
length-joined [] n l = absurd (omega arith)
length-joined (x ∷ []) n l = absurd (omega arith)
length-joined (x ∷ y ∷ ls) zero l = refl
length-joined (x ∷ y ∷ ls) (suc n) l = ap suc (length-joined (y ∷ ls) n (omega arith))

-- ---- each edit is undone

pub insertion_undoes : (ls : List (List ℕ)) (p : TextPlace) (part : TextPart) → p.line < length ls → p.column ≤ length (line_at ls p.line) → Undoes (Inserted p part) p ls (inserted ls p (spelled part))
insertion_undoes ls p part l k =
    let bs : List ℕ = spelled part in
    let lines = length-inserted ls p.line p.column bs in
    let line = ap length (line-inserted ls p.line p.column bs l) ∙ length-with (line_at ls p.line) p.column bs k in
    record { at = refl; can = (omega arith, omega arith); back = removed-inserted ls p.line p.column bs l k }

pub removal_undoes : (ls : List (List ℕ)) (p : TextPlace) (part : TextPart) → p.line < length ls → p.column < length (line_at ls p.line) → IsPartAt ls p (Some part) → Undoes (Deleted p part) p ls (removed ls p (length (spelled part)))
removal_undoes ls p part l k h =
    let n : ℕ = length (spelled part) in
    let first : IsFirst (drop p.column (line_at ls p.line)) part = at_inside ls p (Some part) k h in
    let within = part_within ls p part k h in
    let lines = length-removed ls p.line p.column n in
    let line = ap length (line-removed ls p.line p.column n l) in
    let shorter = length-without (line_at ls p.line) p.column n within in
    let column : p.column ≤ length (line_at ls p.line) = omega arith in
    record { at = refl; can = (omega arith, omega arith); back = inserted-removed ls p.line p.column (spelled part) l column (first_splits _ part first) }

pub split_undoes : (ls : List (List ℕ)) (p : TextPlace) → p.line < length ls → Undoes (Split p) p ls (split_at ls p)
split_undoes ls p l =
    let lines = length-split ls p.line p.column l in
    record { at = refl; can = omega arith; back = joined-split ls p.line p.column l }

pub join_undoes : (ls : List (List ℕ)) (p : TextPlace) → suc p.line < length ls → p.column ≡ length (line_at ls p.line) → Undoes (Joined p) p ls (joined ls p.line)
join_undoes ls p l e =
    let lines = length-joined ls p.line l in
    let line = ap length (line-joined ls p.line l) ∙ length-append' (line_at ls p.line) (line_at ls (suc p.line)) in
    record { at = refl; can = (omega arith, omega arith); back = split-joined ls p.line p.column l e }
  where
    length-append' : (xs ys : List ℕ) → length (xs ++ ys) ≡ length xs + length ys
    length-append' xs ys = grind (arith, length-append)

-- ---- what the code makes is what is defined

pub split_is : (ls : List (List ℕ)) (p : TextPlace) → p.line < length ls → insert (set ls p.line (take p.column (line_at ls p.line))) (p.line + 1) (drop p.column (line_at ls p.line)) ≡ split_at ls p
split_is ls p l = rw add-one (made ls p.line p.column l)
  where
    made : (ls : List (List ℕ)) (n c : ℕ) → n < length ls → insert (set ls n (take c (line_at ls n))) (suc n) (drop c (line_at ls n)) ≡ split_at ls (at n c)
    made [] n c l = absurd (omega arith)
    made (x ∷ ls) zero c l = refl
    made (x ∷ ls) (suc n) c l = ap (λ r. x ∷ r) (made ls n c (omega arith))

pub split_read : (ls was : List (List ℕ)) (p : TextPlace) (line : List ℕ) → was ≡ ls → p.line < length ls → line ≡ get_or was p.line line → insert (set was p.line (take p.column line)) (p.line + 1) (drop p.column line) ≡ split_at ls p
split_read ls was p line same l line_is =
    (λ i. insert (set (same i) p.line (take p.column (there i))) (p.line + 1) (drop p.column (there i))) ∙ split_is ls p l
  where
    there : line ≡ line_at ls p.line
    there = line_is ∙ get_or_default was p.line line [] (subst (λ n. p.line < n) (ap length (sym same)) l) ∙ ap (λ all. line_at all p.line) same

pub join_is : (ls : List (List ℕ)) (n : ℕ) → suc n < length ls → remove (set ls n (line_at ls n ++ line_at ls (suc n))) (n + 1) ≡ joined ls n
join_is ls n l = rw add-one (made ls n l)
  where
    made : (ls : List (List ℕ)) (n : ℕ) → suc n < length ls → remove (set ls n (line_at ls n ++ line_at ls (suc n))) (suc n) ≡ joined ls n
    made [] n l = absurd (omega arith)
    made (x ∷ []) n l = absurd (omega arith)
    made (x ∷ y ∷ ls) zero l = refl
    made (x ∷ y ∷ ls) (suc n) l = ap (λ r. x ∷ r) (made (y ∷ ls) n (omega arith))

-- before the end of a line bytes are removed, and after the last one the next line is joined
pub removed_is : (ls : List (List ℕ)) (p : TextPlace) (part : TextPart) → p.column < length (line_at ls p.line) → removed ls p (length (spelled part)) ≡ deleted ls p part
removed_is ls p part l = ap (λ t. cond t (removed ls p (length (spelled part))) (joined ls p.line)) (sym (less p.column (length (line_at ls p.line)) l))
  where
    less : (a b : ℕ) → a < b → nat_lt a b ≡ true
    less a b l = grind (arith, nat_tests)

pub joined_is : (ls : List (List ℕ)) (p : TextPlace) (part : TextPart) → length (line_at ls p.line) ≤ p.column → joined ls p.line ≡ deleted ls p part
joined_is ls p part past = ap (λ t. cond t (removed ls p (length (spelled part))) (joined ls p.line)) (sym (not_less p.column (length (line_at ls p.line)) past))
  where
    not_less : (a b : ℕ) → b ≤ a → nat_lt a b ≡ false
    not_less a b l = grind (arith, nat_tests)

pub append_is : (ls front back : List (List ℕ)) (n : ℕ) (d e new : List ℕ) → ls ≡ front ++ back → length front ≡ n + 1 → 0 < length back → new ≡ get_or front n d ++ get_or back 0 e → set front n new ++ back ≡ set ls n (line_at ls n ++ line_at ls (suc n))
append_is ls front back n d e new whole front_is some new_is =
    sym (set-append_left front back n new (omega arith)) ∙ (λ i. set (sym whole i) n (bytes i))
  where
    first : get_or front n d ≡ line_at ls n
    first = get_or_default front n d [] (omega arith) ∙ sym (get_or_append_left front back [] n (omega arith)) ∙ ap (λ all. line_at all n) (sym whole)

    at_zero : (suc n - length front) ≡ 0
    at_zero = omega arith

    second : get_or back 0 e ≡ line_at ls (suc n)
    second = get_or_default back 0 e [] some ∙ ap (λ k. get_or back k []) (sym at_zero) ∙ sym (get_or-append_right front back (length front) (suc n) [] refl (omega arith)) ∙ ap (λ all. line_at all (suc n)) (sym whole)

    bytes : new ≡ line_at ls n ++ line_at ls (suc n)
    bytes = new_is ∙ (λ i. first i ++ second i)

-- after the last byte of a line, and not at the end of the text: there is a next line
pub not_last : (ls : List (List ℕ)) (p : TextPlace) → p.line < length ls → p.column ≤ length (line_at ls p.line) → length (line_at ls p.line) ≤ p.column → is_end ls p ≡ false → suc p.line < length ls
not_last ls p l k past e = numbers p.line (length ls) p.column (length (line_at ls p.line)) l k past e
  where
    numbers : (n lines c length : ℕ) → n < lines → c ≤ length → length ≤ c → (n + 1 == lines && c == length) ≡ false → suc n < lines
    numbers n lines c length l k past e = grind (arith, nat_tests)
