-- The text that is read is the one that its bytes spell.
use Rattle.std.proofs.Common.{◌≡◌, ◌≢◌, ◌∙◌, ℕ, zero, suc, ◌%◌, ◌<◌, ◌≤◌, Bool, true, false, cond, eqb, ◌||◌, ◌&&◌, ◌⊎◌, inl, inr, List, [], ◌∷◌, length, refl, ap, sym, subst, arith}
use Rattle.std.specs.List.{list_any}
use Rattle.std.proofs.lemmas.Bool.{eqb-true}
use Rattle.std.proofs.lemmas.Bool.Decides.{nat_tests}
use Rattle.ti_caps.specs.Description.{has_nul}
use Rattle.ti_source.specs.Reading.Escape.{is_octal, begins_octal, letter, octal, not_nul, decoded}
use Rattle.ti_source.specs.Reading.Escape as code
use Rattle.ti_source.specs.Reading.Spelling.{letters, IsFor, Spells, AreSpelled}
use Rattle.ti_source.specs.Reading.Spelling as spelled

-- ---- tests

neither : (a b : Bool) → (a || b) ≡ false → (a ≡ false) × (b ≡ false)
neither true b e = cc
neither false b e = (refl, e)

either : (a b : Bool) → (a || b) ≡ true → (a ≡ true) ⊎ (b ≡ true)
either true b e = inl refl
either false b e = inr e

both : (a b : Bool) → (a && b) ≡ true → (a ≡ true) × (b ≡ true)
both true b e = (refl, e)
both false b e = cc

by_test : (P : ℕ → Type 0) (t : Bool) (x y : ℕ) → ((t ≡ true) → P x) → ((t ≡ false) → P y) → P (cond t x y)
by_test P true x y then-so else-so = then-so refl
by_test P false x y then-so else-so = else-so refl

some-of : (b : ℕ) → eqb b 0 ≡ false → 0 < b
some-of b e = grind (arith, nat_tests)

unlike : (b k : ℕ) → eqb b k ≡ false → b ≢ k
unlike b k e is = grind (arith, nat_tests)

test-of : (b k : ℕ) → b ≢ k → eqb b k ≡ false
test-of b k ne = grind (arith, nat_tests)

not_nul-some : (b : ℕ) → 0 < b → not_nul b ≡ b
not_nul-some b h = grind (arith, nat_tests)

none-of : (c : ℕ) (ks : List ℕ) → list_any (λ k. eqb c k) ks ≡ false → (k : ℕ) → list_any (λ j. eqb j k) ks ≡ true → eqb c k ≡ false
none-of c [] h k on = cc
none-of c (x ∷ xs) h k on = by (eqb x k) refl on (none-of c xs (neither (eqb c x) (list_any (λ j. eqb c j) xs) h).1 k)
  where
    by : (t : Bool) → eqb x k ≡ t → (t || list_any (λ j. eqb j k) xs) ≡ true → (list_any (λ j. eqb j k) xs ≡ true → eqb c k ≡ false) → eqb c k ≡ false
    by true e o more = ap (eqb c) (sym (eqb-true x k e)) ∙ (neither (eqb c x) (list_any (λ j. eqb c j) xs) h).0
    by false e o more = more o

is-for : (v : ℕ) → IsFor (not_nul v) v
is-for v = by (eqb v 0) refl
  where
    by : (t : Bool) → eqb v 0 ≡ t → IsFor (cond t 128 v) v
    by true e = let is : v ≡ 0 = eqb-true v 0 e in rw is spelled.nul
    by false e = spelled.itself (some-of v e)

for-is : {byte v : ℕ} → IsFor byte v → byte ≡ not_nul v
for-is (spelled.itself {byte = b} some) = sym (not_nul-some b some)
for-is spelled.nul = refl

-- ---- the first character of a text

octal-none : (c : ℕ) (bs : List ℕ) → is_octal c ≡ false → begins_octal (c ∷ bs) ≡ false
octal-none c [] h = refl
octal-none c (d ∷ []) h = refl
octal-none c (d ∷ e ∷ es) h = rw h refl

slash-first : (c : ℕ) (bs : List ℕ) → begins_octal (c ∷ bs) ≡ false → decoded (92 ∷ c ∷ bs) ≡ not_nul (letter c) ∷ decoded bs
slash-first c bs h = rw h refl

digits-first : (a b c : ℕ) (bs : List ℕ) → is_octal a ≡ true → is_octal b ≡ true → is_octal c ≡ true → decoded (92 ∷ a ∷ b ∷ c ∷ bs) ≡ not_nul (octal (a ∷ b ∷ c ∷ [])) ∷ decoded bs
digits-first a b c bs p q r = rw (p, q, r) refl

plain-first : (b : ℕ) (bs : List ℕ) → eqb b 92 ≡ false → eqb b 94 ≡ false → decoded (b ∷ bs) ≡ not_nul b ∷ decoded bs
plain-first b [] p q = refl
plain-first b (c ∷ bs) p q = rw (p, q) refl

letter-first : (c v : ℕ) (bs text : List ℕ) → is_octal c ≡ false → not_nul (letter c) ≡ v → text ≡ decoded bs → v ∷ text ≡ decoded (92 ∷ c ∷ bs)
letter-first c v bs text off is same =
    (λ i. sym is i ∷ same i) ∙ sym (slash-first c bs (octal-none c bs off))

letter-none : (c : ℕ) → list_any (λ k. eqb c k) letters ≡ false → letter c ≡ c
letter-none c h =
    let off = none-of c letters h in
    rw (off 69 refl, off 101 refl, off 110 refl, off 108 refl, off 114 refl, off 116 refl, off 98 refl, off 102 refl, off 97 refl, off 115 refl, off 48 refl) refl

-- ---- what bytes spell is what is read

determined : {bytes text : List ℕ} → Spells bytes text → text ≡ decoded bytes
determined spelled.nothing = refl
determined (spelled.upper_e {bytes = bs} {text = ts} s) = letter-first 69 27 bs ts refl refl (determined s)
determined (spelled.lower_e {bytes = bs} {text = ts} s) = letter-first 101 27 bs ts refl refl (determined s)
determined (spelled.letter_n {bytes = bs} {text = ts} s) = letter-first 110 10 bs ts refl refl (determined s)
determined (spelled.letter_l {bytes = bs} {text = ts} s) = letter-first 108 10 bs ts refl refl (determined s)
determined (spelled.letter_r {bytes = bs} {text = ts} s) = letter-first 114 13 bs ts refl refl (determined s)
determined (spelled.letter_t {bytes = bs} {text = ts} s) = letter-first 116 9 bs ts refl refl (determined s)
determined (spelled.letter_b {bytes = bs} {text = ts} s) = letter-first 98 8 bs ts refl refl (determined s)
determined (spelled.letter_f {bytes = bs} {text = ts} s) = letter-first 102 12 bs ts refl refl (determined s)
determined (spelled.letter_a {bytes = bs} {text = ts} s) = letter-first 97 7 bs ts refl refl (determined s)
determined (spelled.letter_s {bytes = bs} {text = ts} s) = letter-first 115 32 bs ts refl refl (determined s)
determined (spelled.digits {a = a} {b = b} {c = c} {bytes = bs} p q r is s) =
    (λ i. for-is is i ∷ determined s i) ∙ sym (digits-first a b c bs p q r)
determined (spelled.zero {bytes = bs} off s) = ap (λ ts. 128 ∷ ts) (determined s) ∙ sym (slash-first 48 bs off)
determined (spelled.other {c = c} {bytes = bs} {text = ts} none off some s) =
    let same : not_nul (letter c) ≡ c = ap not_nul (letter-none c none) ∙ not_nul-some c some in
    (λ i. sym same i ∷ determined s i) ∙ sym (slash-first c bs off)
determined (spelled.delete s) = ap (λ ts. 127 ∷ ts) (determined s)
determined (spelled.control {c = c} {byte = b} {bytes = bs} {text = ts} ne is s) =
    let same : b ≡ not_nul (code.control c) = for-is is ∙ ap (λ t. not_nul (cond t 127 (c % 32))) (sym (test-of c 63 ne)) in
    λ i. same i ∷ determined s i
determined (spelled.last (inl is)) = rw is refl
determined (spelled.last (inr is)) = rw is refl
determined (spelled.plain {b = b} {bytes = bs} n92 n94 some s) =
    (λ i. sym (not_nul-some b some) i ∷ determined s i) ∙ sym (plain-first b bs (test-of b 92 n92) (test-of b 94 n94))

-- ---- what is read is what bytes spell

slash-spells : (c : ℕ) (bs text : List ℕ) → begins_octal (c ∷ bs) ≡ false → 0 < c → Spells bs text → Spells (92 ∷ c ∷ bs) (not_nul (letter c) ∷ text)
slash-spells c bs text off some s =
    let P : ℕ → Type 0 = λ v. Spells (92 ∷ c ∷ bs) (not_nul v ∷ text) in
    by_test P (eqb c 69 || eqb c 101) 27 _
    (λ e. elim (either (eqb c 69) (eqb c 101) e) [ inl f ↦ one 69 27 (spelled.upper_e s) f | inr f ↦ one 101 27 (spelled.lower_e s) f ])
    (λ n1. by_test P (eqb c 110 || eqb c 108) 10 _
    (λ e. elim (either (eqb c 110) (eqb c 108) e) [ inl f ↦ one 110 10 (spelled.letter_n s) f | inr f ↦ one 108 10 (spelled.letter_l s) f ])
    (λ n2. by_test P (eqb c 114) 13 _ (one 114 13 (spelled.letter_r s))
    (λ n3. by_test P (eqb c 116) 9 _ (one 116 9 (spelled.letter_t s))
    (λ n4. by_test P (eqb c 98) 8 _ (one 98 8 (spelled.letter_b s))
    (λ n5. by_test P (eqb c 102) 12 _ (one 102 12 (spelled.letter_f s))
    (λ n6. by_test P (eqb c 97) 7 _ (one 97 7 (spelled.letter_a s))
    (λ n7. by_test P (eqb c 115) 32 _ (one 115 32 (spelled.letter_s s))
    (λ n8. by_test P (eqb c 48) 128 c (λ f. zeros (eqb-true c 48 f))
    (λ n9.
    let p = neither (eqb c 69) (eqb c 101) n1 in
    let q = neither (eqb c 110) (eqb c 108) n2 in
    let none : list_any (λ k. eqb c k) letters ≡ false = rw (p.0, p.1, q.0, q.1, n3, n4, n5, n6, n7, n8, n9) refl in
    subst (λ v. Spells (92 ∷ c ∷ bs) (v ∷ text)) (sym (not_nul-some c some)) (spelled.other none off some s))))))))))
  where
    one : (k v : ℕ) → Spells (92 ∷ k ∷ bs) (v ∷ text) → eqb c k ≡ true → Spells (92 ∷ c ∷ bs) (v ∷ text)
    one k v h e = subst (λ x. Spells (92 ∷ x ∷ bs) (v ∷ text)) (sym (eqb-true c k e)) h

    zeros : c ≡ 48 → Spells (92 ∷ c ∷ bs) (128 ∷ text)
    zeros is =
        subst (λ x. Spells (92 ∷ x ∷ bs) (128 ∷ text)) (sym is) (spelled.zero (sym (ap (λ x. begins_octal (x ∷ bs)) is) ∙ off) s)

abbrev Shorter : ℕ → Type 0
Shorter n = (bs : List ℕ) → length bs ≤ n → has_nul bs ≡ false → Spells bs (decoded bs)

slash-step : (n : ℕ) → Shorter n → (c : ℕ) (bs : List ℕ) (t : Bool) → begins_octal (c ∷ bs) ≡ t → suc (length bs) ≤ n → has_nul (c ∷ bs) ≡ false → Spells (92 ∷ c ∷ bs) (decoded (92 ∷ c ∷ bs))
slash-step n ih c bs false off le whole =
    let w = neither (eqb c 0) (has_nul bs) whole in
    subst (λ ts. Spells (92 ∷ c ∷ bs) ts) (sym (slash-first c bs off)) (slash-spells c bs (decoded bs) off (some-of c w.0) (ih bs (omega arith) w.1))
slash-step n ih c [] true e le whole = cc
slash-step n ih c (d ∷ []) true e le whole = cc
slash-step n ih c (d ∷ f ∷ bs) true e le whole =
    let p = both (is_octal c) (is_octal d && is_octal f) e in
    let q = both (is_octal d) (is_octal f) p.1 in
    let w = neither (eqb c 0) (has_nul (d ∷ f ∷ bs)) whole in
    let x = neither (eqb d 0) (has_nul (f ∷ bs)) w.1 in
    let y = neither (eqb f 0) (has_nul bs) x.1 in
    subst (λ ts. Spells (92 ∷ c ∷ d ∷ f ∷ bs) ts) (sym (digits-first c d f bs p.0 q.0 q.1))
    (spelled.digits p.0 q.0 q.1 (is-for (octal (c ∷ d ∷ f ∷ []))) (ih bs (omega arith) y.1))

caret-step : (n : ℕ) → Shorter n → (c : ℕ) (bs : List ℕ) → suc (length bs) ≤ n → has_nul (c ∷ bs) ≡ false → Spells (94 ∷ c ∷ bs) (decoded (94 ∷ c ∷ bs))
caret-step n ih c bs le whole =
    let w = neither (eqb c 0) (has_nul bs) whole in
    by (eqb c 63) refl (ih bs (omega arith) w.1)
  where
    by : (t : Bool) → eqb c 63 ≡ t → Spells bs (decoded bs) → Spells (94 ∷ c ∷ bs) (not_nul (cond t 127 (c % 32)) ∷ decoded bs)
    by true e s = subst (λ x. Spells (94 ∷ x ∷ bs) (127 ∷ decoded bs)) (sym (eqb-true c 63 e)) (spelled.delete s)
    by false e s = spelled.control (unlike c 63 e) (is-for (c % 32)) s

step : (n : ℕ) → Shorter n → (b : ℕ) (bs : List ℕ) (s t : Bool) → eqb b 92 ≡ s → eqb b 94 ≡ t → length bs ≤ n → has_nul (b ∷ bs) ≡ false → Spells (b ∷ bs) (decoded (b ∷ bs))
step n ih b bs false false p q le whole =
    let w = neither (eqb b 0) (has_nul bs) whole in
    let some = some-of b w.0 in
    subst (λ ts. Spells (b ∷ bs) ts) (sym (plain-first b bs p q ∙ ap (λ x. x ∷ decoded bs) (not_nul-some b some))) (spelled.plain (unlike b 92 p) (unlike b 94 q) some (ih bs le w.1))
step n ih b [] true t p q le whole = let is : b ≡ 92 = eqb-true b 92 p in rw is (spelled.last (inl refl))
step n ih b [] false true p q le whole = let is : b ≡ 94 = eqb-true b 94 q in rw is (spelled.last (inr refl))
step n ih b (c ∷ bs) true t p q le whole =
    let w = neither (eqb b 0) (has_nul (c ∷ bs)) whole in
    subst (λ x. Spells (x ∷ c ∷ bs) (decoded (x ∷ c ∷ bs))) (sym (eqb-true b 92 p)) (slash-step n ih c bs (begins_octal (c ∷ bs)) refl le w.1)
step n ih b (c ∷ bs) false true p q le whole =
    let w = neither (eqb b 0) (has_nul (c ∷ bs)) whole in
    subst (λ x. Spells (x ∷ c ∷ bs) (decoded (x ∷ c ∷ bs))) (sym (eqb-true b 94 q)) (caret-step n ih c bs le w.1)

within : (n : ℕ) (bs : List ℕ) → length bs ≤ n → has_nul bs ≡ false → Spells bs (decoded bs)
within n [] le whole = spelled.nothing
within zero (b ∷ bs) le whole = absurd (omega arith)
within (suc n) (b ∷ bs) le whole =
    step n (λ cs l w. within n cs l w) b bs (eqb b 92) (eqb b 94) refl refl (omega arith) whole

pub are-spelled : AreSpelled
are-spelled bytes text whole = (
  determined,
  λ e. subst (λ ts. Spells bytes ts) (sym e) (within (length bytes) bytes (omega arith) whole),
)
