-- Lines and the bytes of their file.
use Rattle.std.proofs.Common.{◌≡◌, ℕ, ◌+◌, ◌<◌, false, ◌==◌, cond, List, [], ◌∷◌, ◌++◌, length, take, get_or, sym, ◌∙◌, ap, refl, arith, append_assoc}
use Rattle.std.specs.List.{list_any, flat_map, slice_split, onto_first}
use Rattle.std.proofs.lemmas.List.{take_more, take_all, length_push, append-nil, flat_map_more}
use Rattle.edit_text.specs.Lines.{AreLines, bytes_of, has_line_feed}
use Rattle.edit_text.proofs.KeptLaws.{not_first, not_second}

abbrev cut : List ℕ → List (List ℕ)
cut bytes = slice_split (λ byte. byte == 10) bytes

cut_clean : (xs : List ℕ) → has_line_feed xs ≡ false → cut xs ≡ xs ∷ []
cut_clean [] h = refl
cut_clean (x ∷ xs) h =
    (λ i. cond (not_first (x == 10) (has_line_feed xs) h i) ([] ∷ cut xs) (onto_first x (cut xs))) ∙ ap (onto_first x) (cut_clean xs (not_second (x == 10) _ h))

cut_front : (xs ys : List ℕ) → has_line_feed xs ≡ false → cut (xs ++ (10 ∷ ys)) ≡ xs ∷ cut ys
cut_front [] ys h = refl
cut_front (x ∷ xs) ys h =
    (λ i. cond (not_first (x == 10) (has_line_feed xs) h i) ([] ∷ cut (xs ++ (10 ∷ ys))) (onto_first x (cut (xs ++ (10 ∷ ys))))) ∙ ap (onto_first x) (cut_front xs ys (not_second (x == 10) _ h))

cut_bytes : (ls : List (List ℕ)) → 0 < length ls → list_any has_line_feed ls ≡ false → cut (bytes_of ls) ≡ ls
cut_bytes [] l h = absurd (omega arith)
cut_bytes (x ∷ []) l h = cut_clean x (not_first _ _ h)
cut_bytes (x ∷ y ∷ ls) l h = cut_front x (bytes_of (y ∷ ls)) (not_first _ _ h) ∙ ap (λ rest. x ∷ rest) (cut_bytes (y ∷ ls) (omega arith) (not_second (has_line_feed x) _ h))

pub bytes_tell : (a b : List (List ℕ)) → AreLines a → AreLines b → bytes_of a ≡ bytes_of b → a ≡ b
bytes_tell a b h k e = sym (cut_bytes a h.some h.whole) ∙ ap cut e ∙ cut_bytes b k.some k.whole

-- ---- writing

pub bytes_first : (x : List ℕ) (ls : List (List ℕ)) → bytes_of (x ∷ ls) ≡ x ++ flat_map (λ line. 10 ∷ line) ls
bytes_first x [] = sym (append-nil x)
bytes_first x (y ∷ ls) = ap (λ bytes. x ++ (10 ∷ bytes)) (bytes_first y ls)

pub lines_more : (lines : List (List ℕ)) (i : ℕ) (line start was now : List ℕ) → i < length lines → line ≡ get_or lines i line → was ≡ start ++ flat_map (λ line. 10 ∷ line) (take i lines) → now ≡ (was ++ 10 ∷ []) ++ line → now ≡ start ++ flat_map (λ line. 10 ∷ line) (take (i + 1) lines)
lines_more lines i line start was now l line_is was_is now_is =
    now_is ∙ append_assoc was (10 ∷ []) line ∙ (λ k. was_is k ++ (10 ∷ line_is k)) ∙ flat_map_more (λ (x : List ℕ). 10 ∷ x) start (take i lines) (get_or lines i line)
    ∙ ap (λ ls. start ++ flat_map (λ line. 10 ∷ line) ls) (sym (take_more lines i line l))

-- ---- reading

pub read_more : {X : Type 0} (parts : List (List ℕ)) (yielded : List X) (x : X) (line : List ℕ) (was now : List (List ℕ)) → length yielded < length parts → line ≡ get_or parts (length yielded) line → was ≡ take (length yielded) parts → now ≡ was ++ line ∷ [] → now ≡ take (length (yielded ++ x ∷ [])) parts
read_more parts yielded x line was now l line_is was_is now_is =
    now_is ∙ (λ k. was_is k ++ line_is k ∷ []) ∙ sym (take_more parts (length yielded) line l) ∙ ap (λ n. take n parts) (sym (length_push yielded x))

pub read_all : {X : Type 0} (parts : List (List ℕ)) (yielded : List X) (ls : List (List ℕ)) → length yielded ≡ length parts → ls ≡ take (length yielded) parts → ls ≡ parts
read_all parts yielded ls n e = e ∙ take_all (length yielded) parts (omega arith)
