-- Entries by their names, and the index of the code.
use Rattle.std.proofs.Common.{◌≡◌, ◌∙◌, ℕ, zero, suc, ◌+◌, ◌-◌, ◌≤◌, ◌<◌, Bool, true, false, ◌&&◌, ◌||◌, cond, eqb, get_or, drop, length, List, [], ◌∷◌, ◌++◌, Option, Some, None, option_map, is_some, slice_get, refl, ap, sym, arith, add-zero, ◌⊎◌, inl, inr}
use Rattle.std.specs.List.{list_any, onto_first}
use Rattle.std.specs.Map.{lookup}
use Rattle.std.specs.Str.{bytes_eq}
use Rattle.std.proofs.lemmas.List.{drop_more}
use Rattle.std.proofs.lemmas.Slice.Eq.{bytes_eq-Decides}
use Rattle.ti_caps.specs.Names.{alternatives, has_no_blank, is_bar}
use Rattle.ti_caps.specs.Table.{or_else}
use Rattle.ti_source.specs.Described.{Described}
use Rattle.ti_source.specs.Resolving.Named.{has_name, found_from, named, indexed, AreIndexed}
use Rattle.ti_source.proofs.FieldLaws.{with_front, with_front-onto_first}

-- ---- the alternatives, byte by byte

front-nil_onto : (b : ℕ) (parts : List (List ℕ)) → with_front [] (onto_first b parts) ≡ onto_first b parts
front-nil_onto b [] = refl
front-nil_onto b (part ∷ parts) = refl

front-nil_cond : (t : Bool) (xs ys : List (List ℕ)) → with_front [] xs ≡ xs → with_front [] ys ≡ ys → with_front [] (cond t xs ys) ≡ cond t xs ys
front-nil_cond true xs ys p q = p
front-nil_cond false xs ys p q = q

pub front-nil_alternatives : (bs : List ℕ) → with_front [] (alternatives bs) ≡ alternatives bs
front-nil_alternatives [] = refl
front-nil_alternatives (b ∷ bs) =
    front-nil_cond (is_bar b) ([] ∷ alternatives bs) (onto_first b (alternatives bs)) refl (front-nil_onto b (alternatives bs))

-- one more byte of the first alternative
pub alternatives-more : (front bs : List ℕ) (i b : ℕ) → i < length bs → b ≡ get_or bs i 0 → eqb b 124 ≡ false → with_front front (alternatives (drop i bs)) ≡ with_front (front ++ b ∷ []) (alternatives (drop (i + 1) bs))
alternatives-more front bs i b lt at goes =
    let d : drop i bs ≡ b ∷ drop (i + 1) bs = rw at (drop_more bs i 0 lt) in
    rw (d, goes) (with_front-onto_first front b (alternatives (drop (i + 1) bs)))

-- ---- the index

lookup-push : {K : Type 0} → (test : K → Bool) (es : List (K × ℕ)) (k : K) (v : ℕ) → lookup test (es ++ (k, v) ∷ []) ≡ or_else (lookup test es) (cond (test k) (Some v) None)
lookup-push test [] k v = refl
lookup-push test (e ∷ es) k v = by (test e.0) (lookup-push test es k v)
  where
    by : (t : Bool) → lookup test (es ++ (k, v) ∷ []) ≡ or_else (lookup test es) (cond (test k) (Some v) None) → cond t (Some e.1) (lookup test (es ++ (k, v) ∷ [])) ≡ or_else (cond t (Some e.1) (lookup test es)) (cond (test k) (Some v) None)
    by true h = refl
    by false h = h

or_else-none : (x : Option ℕ) → or_else x None ≡ x
or_else-none None = refl
or_else-none (Some y) = refl

-- a name that is not put, since it has a blank or has a place already
unput : (x : Option ℕ) (index : ℕ) (a b : Bool) → (a ≡ true → b ≡ true → is_some x ≡ true) → x ≡ or_else x (cond (a && (b || false)) (Some index) None)
unput (Some y) index a b h = refl
unput None index false b h = refl
unput None index true false h = refl
unput None index true true h = let bad : false ≡ true = h refl refl in absurd cc

pub put-kept : {K : Type 0} → (bytes : K → List ℕ) (es : List (K × ℕ)) (name : List ℕ) (index : ℕ) (q : List ℕ) → ((has_no_blank name ≡ false) ⊎ (is_some (indexed bytes es name) ≡ true)) → indexed bytes es q ≡ or_else (indexed bytes es q) (named (name ∷ []) index q)
put-kept bytes es name index q why =
    unput (indexed bytes es q) index (has_no_blank q) (bytes_eq q name) (λ a b.
    let same : q ≡ name = (bytes_eq-Decides q name).0 b in
    elim why [
      | inl blank ↦ let bad : has_no_blank name ≡ true = ap has_no_blank (sym same) ∙ a in absurd cc
      | inr there ↦ ap (λ n. is_some (indexed bytes es n)) same ∙ there
    ])

put-test : (x : Option ℕ) (index : ℕ) (a b : Bool) → (b ≡ true → a ≡ true) → or_else x (cond b (Some index) None) ≡ or_else x (cond (a && (b || false)) (Some index) None)
put-test (Some y) index a b h = refl
put-test None index true true h = refl
put-test None index true false h = refl
put-test None index false false h = refl
put-test None index false true h = let bad : false ≡ true = h refl in absurd cc

-- a name without a place
pub put-none : {K : Type 0} → (bytes : K → List ℕ) (es : List (K × ℕ)) (name own : List ℕ) → own ≡ name → is_some (indexed bytes es name) ≡ false → indexed bytes es own ≡ None
put-none bytes es name own same none = ap (indexed bytes es) same ∙ by (indexed bytes es name) none
  where
    by : (x : Option ℕ) → is_some x ≡ false → x ≡ None
    by None h = refl
    by (Some y) h = cc

-- a name that is put
pub put-new : {K : Type 0} → (bytes : K → List ℕ) (es more : List (K × ℕ)) (k : K) (name : List ℕ) (index : ℕ) (q : List ℕ) → bytes k ≡ name → has_no_blank name ≡ true → more ≡ es ++ (k, index) ∷ [] → indexed bytes more q ≡ or_else (indexed bytes es q) (named (name ∷ []) index q)
put-new bytes es more k name index q is good all =
    ap (λ xs. indexed bytes xs q) all
    ∙ lookup-push (λ x. bytes_eq q (bytes x)) es k index
    ∙ ap (λ n. or_else (indexed bytes es q) (cond (bytes_eq q n) (Some index) None)) is
    ∙ put-test (indexed bytes es q) index (has_no_blank q) (bytes_eq q name) (λ b. ap has_no_blank ((bytes_eq-Decides q name).0 b) ∙ good)

three : (x : Option ℕ) (p : ℕ) (a b c : Bool) → or_else (or_else x (cond (a && (b || false)) (Some p) None)) (cond (a && c) (Some p) None) ≡ or_else x (cond (a && (b || c)) (Some p) None)
three (Some y) p a b c = refl
three None p false b c = refl
three None p true false c = refl
three None p true true c = refl

-- one more alternative
pub named-more : (x : Option ℕ) (n : List ℕ) (ns : List (List ℕ)) (index : ℕ) (q : List ℕ) → or_else (or_else x (named (n ∷ []) index q)) (named ns index q) ≡ or_else x (named (n ∷ ns) index q)
named-more x n ns index q = three x index (has_no_blank q) (bytes_eq q n) (list_any (bytes_eq q) ns)

pub names-go : (all further : List (List ℕ)) (n : List ℕ) (index : ℕ) (old now new whole : List ℕ → Option ℕ) → all ≡ n ∷ further → ((q : List ℕ) → or_else (now q) (named all index q) ≡ whole q) → ((q : List ℕ) → new q ≡ or_else (now q) (named (n ∷ []) index q)) → (q : List ℕ) → or_else (new q) (named further index q) ≡ whole q
names-go all further n index old now new whole cut before step q =
    ap (λ x. or_else x (named further index q)) (step q) ∙ named-more (now q) n further index q ∙ ap (λ ns. or_else (now q) (named ns index q)) (sym cut) ∙ before q

pub names-end : (all : List (List ℕ)) (n : List ℕ) (index : ℕ) (now new whole : List ℕ → Option ℕ) → all ≡ n ∷ [] → ((q : List ℕ) → or_else (now q) (named all index q) ≡ whole q) → ((q : List ℕ) → new q ≡ or_else (now q) (named (n ∷ []) index q)) → (q : List ℕ) → new q ≡ whole q
names-end all n index now new whole cut before step q =
    step q ∙ ap (λ ns. or_else (now q) (named ns index q)) (sym cut) ∙ before q

found-push : (i : ℕ) (name : List ℕ) (ds : List Described) (d : Described) → option_map (λ p. p.0) (found_from i name (ds ++ d ∷ [])) ≡ or_else (option_map (λ p. p.0) (found_from i name ds)) (named (alternatives d.names) (i + length ds) name)
found-push i name [] d = rw add-zero (one (has_name name d))
  where
    one : (t : Bool) → option_map (λ (p : ℕ × Described). p.0) (cond t (Some (i, d)) None) ≡ cond t (Some i) None
    one true = refl
    one false = refl
found-push i name (x ∷ xs) d = by (has_name name x) (found-push (suc i) name xs d)
  where
    by : (t : Bool) → option_map (λ (p : ℕ × Described). p.0) (found_from (suc i) name (xs ++ d ∷ [])) ≡ or_else (option_map (λ (p : ℕ × Described). p.0) (found_from (suc i) name xs)) (named (alternatives d.names) (suc i + length xs) name) → option_map (λ (p : ℕ × Described). p.0) (cond t (Some (i, x)) (found_from (suc i) name (xs ++ d ∷ []))) ≡ or_else (option_map (λ (p : ℕ × Described). p.0) (cond t (Some (i, x)) (found_from (suc i) name xs))) (named (alternatives d.names) (i + suc (length xs)) name)
    by true h = refl
    by false h = let e : i + suc (length xs) ≡ suc i + length xs = omega arith in rw e h

-- an entry is put last, with its names
pub indexed-push : {K : Type 0} → (bytes : K → List ℕ) (es more : List (K × ℕ)) (ds : List Described) (d : Described) → AreIndexed bytes es ds → ((q : List ℕ) → indexed bytes more q ≡ or_else (indexed bytes es q) (named (alternatives d.names) (length ds) q)) → AreIndexed bytes more (ds ++ d ∷ [])
indexed-push bytes es more ds d are step q =
    let none : length ds ≡ 0 + length ds = omega arith in
    step q ∙ ap (λ x. or_else x (named (alternatives d.names) (length ds) q)) (are q)
    ∙ ap (λ n. or_else (option_map (λ p. p.0) (found_from 0 q ds)) (named (alternatives d.names) n q)) none
    ∙ sym (found-push 0 q ds d)

-- ---- what is found

pub slice_get-at : {A : Type 0} → (xs : List A) (i : ℕ) (x : A) → i < length xs → x ≡ get_or xs i x → slice_get xs i ≡ Some x
slice_get-at [] i x lt at = absurd (omega arith)
slice_get-at (y ∷ ys) zero x lt at = ap Some (sym at)
slice_get-at (y ∷ ys) (suc i) x lt at = slice_get-at ys i x (omega arith) at

pub found-there : (i : ℕ) (name : List ℕ) (ds : List Described) (p : ℕ) (d : Described) → found_from i name ds ≡ Some (p, d) → (i ≤ p) × (slice_get ds (p - i) ≡ Some d) × (has_name name d ≡ true)
found-there i name [] p d e = cc
found-there i name (x ∷ xs) p d e = by (found-there (suc i) name xs p d) (has_name name x) refl e
  where
    by : (found_from (suc i) name xs ≡ Some (p, d) → (suc i ≤ p) × (slice_get xs (p - suc i) ≡ Some d) × (has_name name d ≡ true)) → (t : Bool) → has_name name x ≡ t → cond t (Some (i, x)) (found_from (suc i) name xs) ≡ Some (p, d) → (i ≤ p) × (slice_get (x ∷ xs) (p - i) ≡ Some d) × (has_name name d ≡ true)
    by below true h e =
        let pair : ◌≡◌ {A = ℕ × Described} (i, x) (p, d) = cc in
        let same : i ≡ p = ap (λ q. q.0) pair in
        let here : x ≡ d = ap (λ q. q.1) pair in
        let none : p - i ≡ 0 = omega arith in
        (omega arith, rw (none, here) refl, ap (has_name name) (sym here) ∙ h)
    by below false h e =
        let rest = below e in
        let less : p - i ≡ suc (p - suc i) = omega (arith, rest.0) in
        (omega (arith, rest.0), rw less rest.1, rest.2)

pub found-some : (name : List ℕ) (ds : List Described) (p : ℕ) (d : Described) → Some p ≡ option_map (λ p. p.0) (found_from 0 name ds) → slice_get ds p ≡ Some d → found_from 0 name ds ≡ Some (p, d)
found-some name ds p d index at = by (found_from 0 name ds) refl index
  where
    by : (o : Option (ℕ × Described)) → found_from 0 name ds ≡ o → Some p ≡ option_map (λ p. p.0) o → o ≡ Some (p, d)
    by None e index = cc
    by (Some f) e index =
        let same : p ≡ f.0 = cc in
        let there = found-there 0 name ds f.0 f.1 e in
        let z : f.0 - 0 ≡ p = omega arith in
        let here : slice_get ds (f.0 - 0) ≡ Some d = ap (slice_get ds) z ∙ at in
        let whole : f.1 ≡ d = cc (there.1, here) in
        ap Some (λ i. (sym same i, whole i))

pub found-none : (name : List ℕ) (ds : List Described) → None ≡ option_map (λ p. p.0) (found_from 0 name ds) → found_from 0 name ds ≡ None
found-none name ds none = by (found_from 0 name ds) none
  where
    by : (o : Option (ℕ × Described)) → None ≡ option_map (λ (p : ℕ × Described). p.0) o → o ≡ None
    by None e = refl
    by (Some f) e = cc

pub found-any : (i : ℕ) (name : List ℕ) (ds : List Described) → is_some (option_map (λ p. p.0) (found_from i name ds)) ≡ list_any (has_name name) ds
found-any i name [] = refl
found-any i name (x ∷ xs) = by (has_name name x) (found-any (suc i) name xs)
  where
    by : (t : Bool) → is_some (option_map (λ (p : ℕ × Described). p.0) (found_from (suc i) name xs)) ≡ list_any (has_name name) xs → is_some (option_map (λ (p : ℕ × Described). p.0) (cond t (Some (i, x)) (found_from (suc i) name xs))) ≡ (t || list_any (has_name name) xs)
    by true h = refl
    by false h = h
