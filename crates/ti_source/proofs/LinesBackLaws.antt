-- The lines of a printed text.
use Rattle.std.proofs.Common.{◌≡◌, ◌∙◌, ℕ, suc, ◌-◌, ◌<◌, Bool, true, false, not, ◌&&◌, eqb, ltb, List, [], ◌∷◌, ◌++◌, take, drop, map, length, get_or, refl, ap, length-append, arith}
use Rattle.std.specs.List.{list_all}
use Rattle.std.proofs.lemmas.Bool.Decides.{nat_tests}
use Rattle.bstr.specs.Text.{line_len, lines_of, no_cr, without_terminator}
use Rattle.bstr.proofs.lemmas.LineLemmas.{lines-nil, lines-step}
use Rattle.ti_source.specs.Reading.SourceLine.{lines}

-- not a line feed
abbrev pub no_feed : ℕ → Bool
no_feed b = not (eqb b 10)

both : (a b : Bool) → (a && b) ≡ true → (a ≡ true) × (b ≡ true)
both true b e = (refl, e)
both false b e = cc

not-true : (b : Bool) → not b ≡ true → b ≡ false
not-true true e = cc
not-true false e = refl

-- the bytes of a line that a comma and LF end
abbrev pub ended : List ℕ → List ℕ → List ℕ
ended body rest = body ++ 44 ∷ 10 ∷ rest

line_len-ended : (body rest : List ℕ) → list_all no_feed body ≡ true → line_len (ended body rest) ≡ suc (suc (length body))
unfolding line_len
line_len-ended [] rest e = refl
line_len-ended (b ∷ bs) rest e =
    let parts = both (no_feed b) (list_all no_feed bs) e in
    rw (not-true (eqb b 10) parts.0) (ap suc (line_len-ended bs rest parts.1))

take-ended : (body rest : List ℕ) → take (suc (suc (length body))) (ended body rest) ≡ ended body []
take-ended [] rest = refl
take-ended (b ∷ bs) rest = ap (λ xs. b ∷ xs) (take-ended bs rest)

drop-ended : (body rest : List ℕ) → drop (suc (suc (length body))) (ended body rest) ≡ rest
drop-ended [] rest = refl
drop-ended (b ∷ bs) rest = drop-ended bs rest

length-ended : (body : List ℕ) → length (ended body []) ≡ suc (suc (length body))
length-ended [] = refl
length-ended (b ∷ bs) = ap suc (length-ended bs)

last-ended : (body : List ℕ) → get_or (ended body []) (suc (length body)) 0 ≡ 10
last-ended [] = refl
last-ended (b ∷ bs) = last-ended bs

front-ended : (body : List ℕ) → take (suc (length body)) (ended body []) ≡ body ++ 44 ∷ []
front-ended [] = refl
front-ended (b ∷ bs) = ap (λ xs. b ∷ xs) (front-ended bs)

length-comma : (body : List ℕ) → length (body ++ 44 ∷ []) ≡ suc (length body)
length-comma [] = refl
length-comma (b ∷ bs) = ap suc (length-comma bs)

last-comma : (body : List ℕ) → get_or (body ++ 44 ∷ []) (length body) 0 ≡ 44
last-comma [] = refl
last-comma (b ∷ bs) = last-comma bs

one-less : (n : ℕ) → suc n - 1 ≡ n
one-less n = omega arith

some-more : (n : ℕ) → ltb 0 (suc n) ≡ true
some-more n = grind (arith, nat_tests)

no_cr-comma : (body : List ℕ) → no_cr (body ++ 44 ∷ []) ≡ body ++ 44 ∷ []
no_cr-comma body =
    rw (length-comma body, one-less (length body), last-comma body, some-more (length body)) refl

without_terminator-ended : (body : List ℕ) → without_terminator (ended body []) ≡ body ++ 44 ∷ []
without_terminator-ended body =
    rw (length-ended body, one-less (suc (length body)), last-ended body, front-ended body, some-more (suc (length body))) (no_cr-comma body)

-- the first line of a printed text, and the others
pub lines-ended : (body rest : List ℕ) → list_all no_feed body ≡ true → lines (ended body rest) ≡ (body ++ 44 ∷ []) ∷ lines rest
lines-ended body rest e =
    let long : 0 < length (ended body rest) = omega (arith, length-append body (44 ∷ 10 ∷ rest)) in
    let n = line_len-ended body rest e in
    let whole = ended body rest in
    let cut : lines_of whole ≡ ended body [] ∷ lines_of rest =
    lines-step whole long ∙ ap (λ k. take k whole ∷ lines_of (drop k whole)) n ∙ ap (λ t. t ∷ lines_of (drop (suc (suc (length body))) whole)) (take-ended body rest) ∙ ap (λ t. ended body [] ∷ lines_of t) (drop-ended body rest) in
    ap (map without_terminator) cut ∙ ap (λ x. x ∷ lines rest) (without_terminator-ended body)

pub no-lines : lines [] ≡ []
no-lines = ap (map without_terminator) lines-nil
