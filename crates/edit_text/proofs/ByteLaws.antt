-- What edits do to the bytes of a file.
use Rattle.std.proofs.Common.{◌≡◌, ℕ, zero, suc, ◌+◌, ◌<◌, ◌≤◌, Bool, true, false, ◌==◌, ◌&&◌, cond, List, [], ◌∷◌, ◌++◌, length, take, sym, ◌∙◌, ap, refl, arith, append_assoc, leb, Some}
use Rattle.std.specs.Prelude.{nat_lt}
use Rattle.std.specs.List.{sum_by}
use Rattle.std.proofs.lemmas.List.{take-append-le, drop-append-le}
use Rattle.std.proofs.lemmas.List.Sums.{sum_by-cons}
use Rattle.std.proofs.lemmas.Bool.Decides.{nat_tests}
use Rattle.edit_text.specs.declared.parts.TextPart.{TextPart}
use Rattle.edit_text.specs.declared.places.TextPlace.{TextPlace}
use Rattle.edit_text.specs.Laws.{EditsChangeOnePart}
use Rattle.edit_text.specs.Lines.{IsPartAt, bytes_of, deleted, inserted, is_inside, joined, line_at, offset, removed, split_at, with_bytes, without_bytes}
use Rattle.edit_text.specs.Parts.{spelled}
use Rattle.edit_text.proofs.InverseLaws.{at, is_feed, length-inserted, length-joined, length-removed, length-split, part_within}

-- ---- a line in front of others

front : (x : List ℕ) (ls : List (List ℕ)) → 0 < length ls → bytes_of (x ∷ ls) ≡ x ++ (10 ∷ bytes_of ls)
front x [] l = absurd (omega arith)
front x (y ∷ ls) l = refl

with_behind : (xs : List ℕ) (z : ℕ) (ys : List ℕ) (n k : ℕ) (bs : List ℕ) → n ≡ suc (length xs) + k → with_bytes (xs ++ (z ∷ ys)) n bs ≡ xs ++ (z ∷ with_bytes ys k bs)
with_behind [] z ys zero k bs e = absurd (omega arith)
with_behind [] z ys (suc n) k bs e = ap (λ m. z ∷ with_bytes ys m bs) (let s : n ≡ k = omega arith in s)
with_behind (x ∷ xs) z ys zero k bs e = absurd (omega arith)
with_behind (x ∷ xs) z ys (suc n) k bs e = ap (λ rest. x ∷ rest) (with_behind xs z ys n k bs (omega arith))

without_behind : (xs : List ℕ) (z : ℕ) (ys : List ℕ) (n k m : ℕ) → n ≡ suc (length xs) + k → without_bytes (xs ++ (z ∷ ys)) n m ≡ xs ++ (z ∷ without_bytes ys k m)
without_behind [] z ys zero k m e = absurd (omega arith)
without_behind [] z ys (suc n) k m e = ap (λ i. z ∷ without_bytes ys i m) (let s : n ≡ k = omega arith in s)
without_behind (x ∷ xs) z ys zero k m e = absurd (omega arith)
without_behind (x ∷ xs) z ys (suc n) k m e = ap (λ rest. x ∷ rest) (without_behind xs z ys n k m (omega arith))

without_one : (xs : List ℕ) (z : ℕ) (ys : List ℕ) (n : ℕ) → n ≡ length xs → without_bytes (xs ++ (z ∷ ys)) n 1 ≡ xs ++ ys
without_one [] z ys zero e = refl
without_one [] z ys (suc n) e = absurd (omega arith)
without_one (x ∷ xs) z ys zero e = absurd (omega arith)
without_one (x ∷ xs) z ys (suc n) e = ap (λ rest. x ∷ rest) (without_one xs z ys n (omega arith))

with_before : (xs ys : List ℕ) (n : ℕ) (bs : List ℕ) → n ≤ length xs → with_bytes (xs ++ ys) n bs ≡ with_bytes xs n bs ++ ys
with_before xs ys zero bs l = sym (append_assoc bs xs ys)
with_before [] ys (suc n) bs l = absurd (omega arith)
with_before (x ∷ xs) ys (suc n) bs l = ap (λ rest. x ∷ rest) (with_before xs ys n bs (omega arith))

without_before : (xs ys : List ℕ) (n m : ℕ) → n + m ≤ length xs → without_bytes (xs ++ ys) n m ≡ without_bytes xs n m ++ ys
without_before xs ys zero m l = drop-append-le m xs ys (omega arith)
without_before [] ys (suc n) m l = absurd (omega arith)
without_before (x ∷ xs) ys (suc n) m l = ap (λ rest. x ∷ rest) (without_before xs ys n m (omega arith))

-- ---- offsets

at_first : (x : List ℕ) (ls : List (List ℕ)) (c : ℕ) → offset (x ∷ ls) (at zero c) ≡ c
at_first x ls c = omega arith

at_later : (x : List ℕ) (ls : List (List ℕ)) (n c : ℕ) → offset (x ∷ ls) (at (suc n) c) ≡ suc (length x) + offset ls (at n c)
at_later x ls n c = ap (λ m. m + c) (sum_by-cons (λ (line : List ℕ). suc (length line)) x (take n ls)) ∙ regroup (suc (length x)) (sum_by (λ line. suc (length line)) (take n ls)) c
  where
    regroup : (a b c : ℕ) → a + b + c ≡ a + (b + c)
    regroup a b c = omega arith

-- ---- an insertion

bytes-inserted : (ls : List (List ℕ)) (n c : ℕ) (bs : List ℕ) → n < length ls → c ≤ length (line_at ls n) → bytes_of (inserted ls (at n c) bs) ≡ with_bytes (bytes_of ls) (offset ls (at n c)) bs
bytes-inserted [] n c bs l k = absurd (omega arith)
bytes-inserted (x ∷ []) zero c bs l k = ap (λ m. with_bytes x m bs) (sym (at_first x [] c))
bytes-inserted (x ∷ y ∷ ls) zero c bs l k = sym (with_before x (10 ∷ bytes_of (y ∷ ls)) c bs k) ∙ ap (λ m. with_bytes (bytes_of (x ∷ y ∷ ls)) m bs) (sym (at_first x (y ∷ ls) c))
bytes-inserted (x ∷ []) (suc n) c bs l k = absurd (omega arith)
bytes-inserted (x ∷ y ∷ ls) (suc n) c bs l k =
    let lines = length-inserted (y ∷ ls) n c bs in
    front x (inserted (y ∷ ls) (at n c) bs) (omega arith) ∙ ap (λ bytes. x ++ (10 ∷ bytes)) (bytes-inserted (y ∷ ls) n c bs (omega arith) k)
    ∙ sym (with_behind x 10 (bytes_of (y ∷ ls)) (offset (x ∷ y ∷ ls) (at (suc n) c)) (offset (y ∷ ls) (at n c)) bs (at_later x (y ∷ ls) n c))

-- ---- a split

bytes-split : (ls : List (List ℕ)) (n c : ℕ) → n < length ls → c ≤ length (line_at ls n) → bytes_of (split_at ls (at n c)) ≡ with_bytes (bytes_of ls) (offset ls (at n c)) (10 ∷ [])
bytes-split [] n c l k = absurd (omega arith)
bytes-split (x ∷ []) zero c l k = ap (λ m. with_bytes x m (10 ∷ [])) (sym (at_first x [] c))
bytes-split (x ∷ y ∷ ls) zero c l k =
    let rest : List ℕ = 10 ∷ bytes_of (y ∷ ls) in
    (λ i. sym (take-append-le c x rest k) i ++ (10 ∷ sym (drop-append-le c x rest k) i)) ∙ ap (λ m. with_bytes (x ++ rest) m (10 ∷ [])) (sym (at_first x (y ∷ ls) c))
bytes-split (x ∷ []) (suc n) c l k = absurd (omega arith)
bytes-split (x ∷ y ∷ ls) (suc n) c l k =
    let lines = length-split (y ∷ ls) n c (omega arith) in
    front x (split_at (y ∷ ls) (at n c)) (omega arith) ∙ ap (λ bytes. x ++ (10 ∷ bytes)) (bytes-split (y ∷ ls) n c (omega arith) k)
    ∙ sym (with_behind x 10 (bytes_of (y ∷ ls)) (offset (x ∷ y ∷ ls) (at (suc n) c)) (offset (y ∷ ls) (at n c)) (10 ∷ []) (at_later x (y ∷ ls) n c))

-- ---- a deletion

bytes-removed : (ls : List (List ℕ)) (n c m : ℕ) → n < length ls → c + m ≤ length (line_at ls n) → bytes_of (removed ls (at n c) m) ≡ without_bytes (bytes_of ls) (offset ls (at n c)) m
bytes-removed [] n c m l k = absurd (omega arith)
bytes-removed (x ∷ []) zero c m l k = ap (λ i. without_bytes x i m) (sym (at_first x [] c))
bytes-removed (x ∷ y ∷ ls) zero c m l k = sym (without_before x (10 ∷ bytes_of (y ∷ ls)) c m k) ∙ ap (λ i. without_bytes (bytes_of (x ∷ y ∷ ls)) i m) (sym (at_first x (y ∷ ls) c))
bytes-removed (x ∷ []) (suc n) c m l k = absurd (omega arith)
bytes-removed (x ∷ y ∷ ls) (suc n) c m l k =
    let lines = length-removed (y ∷ ls) n c m in
    front x (removed (y ∷ ls) (at n c) m) (omega arith) ∙ ap (λ bytes. x ++ (10 ∷ bytes)) (bytes-removed (y ∷ ls) n c m (omega arith) k)
    ∙ sym (without_behind x 10 (bytes_of (y ∷ ls)) (offset (x ∷ y ∷ ls) (at (suc n) c)) (offset (y ∷ ls) (at n c)) m (at_later x (y ∷ ls) n c))

both_first : (x y : List ℕ) (ls : List (List ℕ)) → bytes_of ((x ++ y) ∷ ls) ≡ x ++ bytes_of (y ∷ ls)
both_first x y [] = refl
both_first x y (z ∷ ls) = append_assoc x y (10 ∷ bytes_of (z ∷ ls))

bytes-joined : (ls : List (List ℕ)) (n c : ℕ) → suc n < length ls → c ≡ length (line_at ls n) → bytes_of (joined ls n) ≡ without_bytes (bytes_of ls) (offset ls (at n c)) 1
bytes-joined [] n c l e = absurd (omega arith)
bytes-joined (x ∷ []) n c l e = absurd (omega arith)
bytes-joined (x ∷ y ∷ ls) zero c l e = both_first x y ls ∙ sym (without_one x 10 (bytes_of (y ∷ ls)) (offset (x ∷ y ∷ ls) (at zero c)) (at_first x (y ∷ ls) c ∙ e))
bytes-joined (x ∷ y ∷ ls) (suc n) c l e =
    let lines = length-joined (y ∷ ls) n (omega arith) in
    front x (joined (y ∷ ls) n) (omega arith) ∙ ap (λ bytes. x ++ (10 ∷ bytes)) (bytes-joined (y ∷ ls) n c (omega arith) e)
    ∙ sym (without_behind x 10 (bytes_of (y ∷ ls)) (offset (x ∷ y ∷ ls) (at (suc n) c)) (offset (y ∷ ls) (at n c)) 1 (at_later x (y ∷ ls) n c))

-- ---- places

in_line : (n m a b : ℕ) → (nat_lt n m && leb a b) ≡ true → n < m
in_line n m a b e = grind (arith, nat_tests)

in_column : (n m a b : ℕ) → (nat_lt n m && leb a b) ≡ true → a ≤ b
in_column n m a b e = grind (arith, nat_tests)

next_line : (n m a b : ℕ) → n < m → a ≤ b → b ≤ a → (n + 1 == m && a == b) ≡ false → suc n < m
next_line n m a b l k j e = grind (arith, nat_tests)

bytes-deleted : (ls : List (List ℕ)) (p : TextPlace) (part : TextPart) → is_inside ls p ≡ true → IsPartAt ls p (Some part) → bytes_of (deleted ls p part) ≡ without_bytes (bytes_of ls) (offset ls p) (length (spelled part))
bytes-deleted ls p part h there = either (nat_lt p.column (length (line_at ls p.line))) refl
  where
    l : p.line < length ls
    l = in_line p.line (length ls) p.column (length (line_at ls p.line)) h

    k : p.column ≤ length (line_at ls p.line)
    k = in_column p.line (length ls) p.column (length (line_at ls p.line)) h

    before : (a b : ℕ) → nat_lt a b ≡ true → a < b
    before a b t = grind (arith, nat_tests)

    behind : (a b : ℕ) → nat_lt a b ≡ false → b ≤ a
    behind a b t = grind (arith, nat_tests)

    either : (t : Bool) → nat_lt p.column (length (line_at ls p.line)) ≡ t → bytes_of (cond t (removed ls p (length (spelled part))) (joined ls p.line)) ≡ without_bytes (bytes_of ls) (offset ls p) (length (spelled part))
    either true t = bytes-removed ls p.line p.column (length (spelled part)) l (part_within ls p part (before _ _ t) there)
    either false t =
        let past : length (line_at ls p.line) ≤ p.column = behind _ _ t in
        let feed = is_feed ls p part past there in
        bytes-joined ls p.line p.column (next_line p.line (length ls) p.column (length (line_at ls p.line)) l k past feed.1) (omega (arith, k, past))
        ∙ ap (λ one. without_bytes (bytes_of ls) (offset ls p) (length (spelled one))) (sym feed.0)

pub edits_change_one_part : EditsChangeOnePart
edits_change_one_part =
    record {
      insertion = λ ls p bs h. bytes-inserted ls p.line p.column bs (in_line p.line (length ls) p.column (length (line_at ls p.line)) h) (in_column p.line (length ls) p.column (length (line_at ls p.line)) h);
      split = λ ls p h. bytes-split ls p.line p.column (in_line p.line (length ls) p.column (length (line_at ls p.line)) h) (in_column p.line (length ls) p.column (length (line_at ls p.line)) h);
      deletion = bytes-deleted;
    }
