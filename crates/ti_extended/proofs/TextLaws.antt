-- Texts in a table, and the offsets at which they begin.
use Rattle.std.proofs.Common.{◌≡◌, ℕ, ◌+◌, ◌*◌, ◌<◌, ◌≤◌, ◌||◌, ◌&&◌, not, nat_lt, cond, Bool, true, false, refl, sym, ◌∙◌, ap, arith, suc, List, [], ◌∷◌, ◌++◌, append_assoc, length, length-append, map, take, drop, Some, None, subst}
use Rattle.std.specs.List.{before_first, flat_map, list_all, list_any, position_or_len}
use Rattle.std.proofs.lemmas.Bool.Decides.{nat_tests}
use Rattle.std.proofs.lemmas.Bool.{false≢true, or_parts}
use Rattle.std.proofs.lemmas.List.{drop_at}
use Rattle.ti_caps.specs.Description.{has_nul}
use Rattle.ti_binary.specs.Canonical.{table_of, word, words}
use Rattle.ti_binary.specs.Files.{is_negative, is_nul, is_unended, text_said, words_in}
use Rattle.ti_binary.specs.declared.widths.Width.TheVariants.{Legacy}
use Rattle.ti_extended.specs.Whole.{is_extended_name, is_field_byte, is_whole_text}
use Rattle.ti_extended.specs.Sections.{is_unnamed, name_said}
use Rattle.ti_extended.specs.Forms.{joined, number_bytes, starts}
use Rattle.ti_extended.proofs.NumberLaws.{AllFit, numbers_back}

-- ---- a text and the NUL after it

before_step : (b : ℕ) (text back : List ℕ) → is_nul b ≡ false → before_first is_nul (text ++ 0 ∷ back) ≡ text
    → before_first is_nul (b ∷ text ++ 0 ∷ back) ≡ b ∷ text
before_step b text back e h =
    let one : 1 + position_or_len is_nul (text ++ 0 ∷ back) ≡ suc (position_or_len is_nul (text ++ 0 ∷ back)) = omega arith in
    ap (λ t. take (cond (not t) (1 + position_or_len is_nul (text ++ 0 ∷ back)) 0) (b ∷ text ++ 0 ∷ back)) e
    ∙ ap (λ k. take k (b ∷ text ++ 0 ∷ back)) one
    ∙ ap (λ t. b ∷ t) h

before_is : (text back : List ℕ) → has_nul text ≡ false → before_first is_nul (text ++ 0 ∷ back) ≡ text
before_is [] back h = refl
before_is (b ∷ text) back h =
    let parts = or_parts (is_nul b) (has_nul text) h in
    before_step b text back parts.0 (before_is text back parts.1)

nul_after : (text back : List ℕ) → list_any is_nul (text ++ 0 ∷ back) ≡ true
nul_after [] back = refl
nul_after (b ∷ text) back = ap (λ t. is_nul b || t) (nul_after text back) ∙ either_true (is_nul b)
  where
    either_true : (t : Bool) → (t || true) ≡ true
    either_true true = refl
    either_true false = refl

-- ---- texts without a NUL

abbrev pub AllWhole : List (List ℕ) → Type 0
AllWhole [] = Unit {0}
AllWhole (t ∷ ts) = (has_nul t ≡ false) × AllWhole ts

pub and_parts : (a b : Bool) → (a && b) ≡ true → (a ≡ true) × (b ≡ true)
and_parts true b h = (refl, h)
and_parts false b h = absurd (false≢true h)

not_true : (b : Bool) → not b ≡ true → b ≡ false
not_true true h = absurd (false≢true h)
not_true false h = refl

pub whole_texts : (ts : List (List ℕ)) → list_all is_whole_text ts ≡ true → AllWhole ts
whole_texts [] h = tt
whole_texts (t ∷ ts) h =
    let parts = and_parts (is_whole_text t) (list_all is_whole_text ts) h in
    (not_true (has_nul t) parts.0, whole_texts ts parts.1)

field_byte : (b : ℕ) → is_field_byte b ≡ true → is_nul b ≡ false
field_byte b h = grind (arith, nat_tests)

neither : (a b : Bool) → a ≡ false → b ≡ false → (a || b) ≡ false
neither a b h k = rw (h, k) refl

field_bytes : (name : List ℕ) → list_all is_field_byte name ≡ true → has_nul name ≡ false
field_bytes [] h = refl
field_bytes (b ∷ name) h =
    let parts = and_parts (is_field_byte b) (list_all is_field_byte name) h in
    neither (is_nul b) (has_nul name) (field_byte b parts.0) (field_bytes name parts.1)

name_whole : (name : List ℕ) → is_extended_name name ≡ true → has_nul name ≡ false
unfolding is_extended_name
name_whole name h = field_bytes name (and_parts (list_all is_field_byte name) _ h).0

pub whole_names : (ns : List (List ℕ)) → list_all is_extended_name ns ≡ true → AllWhole ns
whole_names [] h = tt
whole_names (n ∷ ns) h =
    let parts = and_parts (is_extended_name n) (list_all is_extended_name ns) h in
    (name_whole n parts.0, whole_names ns parts.1)

-- ---- the texts at their offsets

record SaidAt (table : List ℕ) (offset : ℕ) (text : List ℕ) : Type 0 where
  said : text_said table offset ≡ Some text
  named : name_said table offset ≡ text
  ended : is_unended table offset ≡ false
  placed : is_unnamed table offset ≡ false

tests : (negative ends : Bool) → negative ≡ false → ends ≡ true → ((not negative && not ends) ≡ false) × ((negative || not ends) ≡ false)
tests negative ends a b = (rw (a, b) refl, rw (a, b) refl)

said_at : (text front back : List ℕ) (size : ℕ) → has_nul text ≡ false → length front ≡ size → size ≤ 32767 → SaidAt (front ++ (text ++ 0 ∷ back)) size text
said_at text front back size w e le =
    let table : List ℕ = front ++ (text ++ 0 ∷ back) in
    let after : drop size table ≡ text ++ 0 ∷ back = drop_at front (text ++ 0 ∷ back) size e in
    let there : is_negative size ≡ false = below 32767 size le in
    let before : before_first is_nul (drop size table) ≡ text = ap (before_first is_nul) after ∙ before_is text back w in
    let t = tests (is_negative size) (list_any is_nul (drop size table)) there (ap (list_any is_nul) after ∙ nul_after text back) in
    record {
      said = ap (λ b. cond b None (Some (before_first is_nul (drop size table)))) there ∙ ap Some before;
      named = before;
      ended = t.0;
      placed = t.1;
    }
  where
    below : (most n : ℕ) → n ≤ most → nat_lt most n ≡ false
    below most n h = grind (arith, nat_tests)

-- what a table says at the offsets of its texts
pub record AllSaid (table : List ℕ) (size : ℕ) (texts : List (List ℕ)) : Type 0 where
  pub said : map (text_said table) (starts size texts) ≡ map Some texts
  pub named : map (name_said table) (starts size texts) ≡ texts
  pub ended : list_any (is_unended table) (starts size texts) ≡ false
  pub placed : list_any (is_unnamed table) (starts size texts) ≡ false
  pub words : AllFit Legacy (starts size texts)

pub all_said : (texts : List (List ℕ)) (front back : List ℕ) (size : ℕ) → AllWhole texts → length front ≡ size → size + length (joined texts) ≤ 32767
    → AllSaid (front ++ (joined texts ++ back)) size texts
all_said [] front back size w e le = record { said = refl; named = refl; ended = refl; placed = refl; words = tt }
all_said (t ∷ ts) front back size w e le =
    let one : List ℕ = t ++ 0 ∷ [] in
    let long : length (one ++ joined ts) ≡ length t + 1 + length (joined ts) = omega (arith, length-append one (joined ts), length-append t (0 ∷ [])) in
    let here : SaidAt (front ++ (t ++ 0 ∷ (joined ts ++ back))) size t = said_at t front (joined ts ++ back) size w.0 e (omega (arith, le)) in
    let size_next : length (front ++ one) ≡ size + (length t + 1) = omega (arith, length-append front one, length-append t (0 ∷ []), e) in
    let rest : AllSaid ((front ++ one) ++ (joined ts ++ back)) (size + (length t + 1)) ts = all_said ts (front ++ one) back (size + (length t + 1)) w.1 size_next (omega (arith, le, long)) in
    let table : List ℕ = front ++ (joined (t ∷ ts) ++ back) in
    let same_here : front ++ (t ++ 0 ∷ (joined ts ++ back)) ≡ table =
    ap (λ x. front ++ x) (sym (append_assoc one (joined ts) back ∙ append_assoc t (0 ∷ []) (joined ts ++ back))) in
    let same_rest : (front ++ one) ++ (joined ts ++ back) ≡ table = append_assoc front one (joined ts ++ back) ∙ ap (λ x. front ++ x) (sym (append_assoc one (joined ts) back)) in
    let a : SaidAt table size t = subst (λ x. SaidAt x size t) same_here here in
    let b : AllSaid table (size + (length t + 1)) ts = subst (λ x. AllSaid x (size + (length t + 1)) ts) same_rest rest in
    let fits : size < 65536 = omega (arith, le) in
    record {
      said = λ i. a.said i ∷ b.said i;
      named = λ i. a.named i ∷ b.named i;
      ended = neither (is_unended table size) (list_any (is_unended table) (starts (size + (length t + 1)) ts)) a.ended b.ended;
      placed = neither (is_unnamed table size) (list_any (is_unnamed table) (starts (size + (length t + 1)) ts)) a.placed b.placed;
      words = (fits, b.words);
    }

-- ---- offsets

words_are : (ns : List ℕ) → words ns ≡ flat_map (number_bytes Legacy) ns
words_are [] = refl
words_are (n ∷ ns) = ap (λ bs. word n ++ bs) (words_are ns)

pub words_back : (ns : List ℕ) → AllFit Legacy ns → words_in (words ns) (length ns) ≡ ns
words_back ns h = ap (λ bs. words_in bs (length ns)) (words_are ns) ∙ numbers_back Legacy ns h

pub words_length : (ns : List ℕ) → length (words ns) ≡ 2 * length ns
words_length [] = refl
words_length (n ∷ ns) = omega (arith, words_length ns)

pub starts_length : (size : ℕ) (texts : List (List ℕ)) → length (starts size texts) ≡ length texts
starts_length size [] = refl
starts_length size (t ∷ ts) = omega (arith, starts_length (size + (length t + 1)) ts)

pub table_joined : (texts : List (List ℕ)) → table_of (map Some texts) ≡ joined texts
table_joined [] = refl
table_joined (t ∷ ts) = ap (λ bs. (t ++ 0 ∷ []) ++ bs) (table_joined ts)
