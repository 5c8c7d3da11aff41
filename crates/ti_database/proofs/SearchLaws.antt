-- What the first file says is what the search says.
use Rattle.std.proofs.Common.{◌≡◌, ◌∙◌, ◌⊎◌, inl, inr, ℕ, zero, suc, ◌+◌, ◌<◌, ◌≤◌, Bool, true, false, cond, refl, ap, sym, arith, subst, List, [], ◌∷◌, length, take, take_all, drop, get_or, min, Option, Some, None, option_map, slice_get, if◌then◌else◌}
use Rattle.std.specs.Prelude.{Result, Ok, Err, IfOk, IfErr, IfSome}
use Rattle.std.specs.List.{cons_option, filter_map}
use Rattle.std.specs.Str.{bytes_eq}
use Rattle.std.proofs.lemmas.Slice.Eq.{bytes_eq-Decides}
use Rattle.std.proofs.lemmas.List.{drop_more}
use Rattle.std.proofs.lemmas.Bool.{false≢true}
use Rattle.std.proofs.lemmas.Bool.Decides.{nat_tests}
use Rattle.ti_caps.specs.Description.{Description}
use Rattle.ti_database.specs.Places.{paths_of}
use Rattle.ti_database.specs.declared.folders.Variables.{Variables}
use Rattle.ti_database.specs.Search.{CanBe, IsEntry, IsFound, absent_fault, beginning, entry_refusal, fault_of, first_at, first_barred, first_there, search_fault}
use Rattle.ti_database.specs.declared.obstacles.Obstacle.{Obstacle}
use Rattle.ti_database.specs.declared.faults.DatabaseFault.{DatabaseFault}
use Rattle.ti_database.specs.declared.faults.DatabaseFault.TheVariants.{NoMemory, Faulty}

-- some files that the store can have say this of the paths
abbrev pub Says : {A B : Type 0} → (A → B) → Option (List ℕ → Option A) → List (List ℕ) → Option (List ℕ × B) → Type 0
Says {A} make known paths found = (files : List ℕ → Option A) × CanBe known files × (found ≡ first_at make files paths)

-- there are files that a store can have
pub any : {A : Type 0} (known : Option (List ℕ → Option A)) → (files : List ℕ → Option A) × CanBe known files
any None = (λ path. None, tt)
any (Some files) = (files, refl)

-- ---- one thing alone, for a store of which nothing is known

module _ {A B : Type 0} (make : A → B) where
  abbrev only : List ℕ → A → List ℕ → Option A
  only path file other = if bytes_eq other path then Some file else None

  abbrev at : List ℕ → Option A → Option (List ℕ × B)
  at path file = option_map (λ x. (path, make x)) file

  only_step : (path : List ℕ) (file : A) (p : List ℕ) (ps : List (List ℕ)) (same : Bool) → bytes_eq p path ≡ same
      → (same ≡ false → Some (path, make file) ≡ first_at make (only path file) ps) → Some (path, make file) ≡ first_at make (only path file) (p ∷ ps)
  only_step path file p ps true e k =
      let here : p ≡ path = (bytes_eq-Decides p path).0 e in
      sym (ap (λ (t : Bool). slice_get (cons_option (at p (cond t (Some file) None)) (filter_map (λ q. at q (only path file q)) ps)) 0) e
      ∙ ap (λ q. Some (q, make file)) here)
  only_step path file p ps false e k =
      k refl ∙ sym (ap (λ (t : Bool). slice_get (cons_option (at p (cond t (Some file) None)) (filter_map (λ q. at q (only path file q)) ps)) 0) e)

  only_there : (path : List ℕ) (file : A) (paths : List (List ℕ)) (i : ℕ) → i < length paths → get_or paths i path ≡ path
      → Some (path, make file) ≡ first_at make (only path file) paths
  only_there path file [] i lt is = absurd (omega arith)
  only_there path file (p ∷ ps) zero lt is =
      only_step path file p ps (bytes_eq p path) refl (λ f. absurd (false≢true (sym f ∙ (bytes_eq-Decides p path).1 is)))
  only_there path file (p ∷ ps) (suc i) lt is =
      only_step path file p ps (bytes_eq p path) refl (λ f. only_there path file ps i (omega (arith, lt)) is)

  none_there : (paths : List (List ℕ)) → None ≡ first_at make (λ path. None) paths
  none_there [] = refl
  none_there (p ∷ ps) = none_there ps

  -- ---- the first of a store

  front_there : (path : List ℕ) (made : B) (rest : List (List ℕ × B)) (o : Option A) → Some made ≡ option_map make o
      → Some (path, made) ≡ slice_get (cons_option (at path o) rest) 0
  front_there path made rest None e = absurd (cc)
  front_there path made rest (Some file) e = let b : made ≡ make file = cc in ap (λ x. Some (path, x)) b

  nothing_left : (i : ℕ) (paths : List (List ℕ)) → length paths ≤ i → drop i paths ≡ []
  nothing_left zero [] le = refl
  nothing_left zero (p ∷ ps) le = absurd (omega (arith, le))
  nothing_left (suc i) [] le = refl
  nothing_left (suc i) (p ∷ ps) le = nothing_left i ps (omega (arith, le))

  -- a thing is made of this file, which a store may have at the path
  pub found_one : (known : Option (List ℕ → Option A)) (paths : List (List ℕ)) (i : ℕ) (path : List ℕ) (file : A) (made : B)
      → i < length paths → get_or paths i path ≡ path → make file ≡ made
      → IfSome known (λ files. first_at make files paths ≡ first_at make files (drop i paths))
      → IfSome known (λ files. Some made ≡ option_map make (files path)) → Says make known paths (Some (path, made))
  found_one None paths i path file made lt is e inv read = (only path file, tt, ap (λ x. Some (path, x)) (sym e) ∙ only_there path file paths i lt is)
  found_one (Some files) paths i path file made lt is e inv read = (
    files,
    refl,
    front_there path made (filter_map (λ q. at q (files q)) (drop (i + 1) paths)) (files path) read
        ∙ sym (inv ∙ ap (first_at make files) (drop_more paths i path lt ∙ ap (λ p. p ∷ drop (i + 1) paths) is)),
  )

  pub none_found : (known : Option (List ℕ → Option A)) (paths : List (List ℕ)) (i : ℕ) → length paths ≤ i
      → IfSome known (λ files. first_at make files paths ≡ first_at make files (drop i paths)) → Says make known paths None
  none_found None paths i le inv = (λ path. None, tt, none_there paths)
  none_found (Some files) paths i le inv = (files, refl, sym (inv ∙ ap (first_at make files) (nothing_left i paths le)))

-- ---- the first file

abbrev Known : Type 0
Known = Option (List ℕ → Option (List ℕ))

read_shown : (known : Known) (path shown bytes : List ℕ) (o : Option (List ℕ)) → shown ≡ path → o ≡ Some bytes
    → IfSome known (λ files. o ≡ option_map beginning (files shown)) → IfSome known (λ files. Some bytes ≡ option_map beginning (files path))
read_shown None path shown bytes o s e h = tt
read_shown (Some files) path shown bytes o s e h = sym e ∙ h ∙ ap (λ p. option_map beginning (files p)) s

pub found_here : (known : Known) (paths : List (List ℕ)) (i : ℕ) (item path shown bytes : List ℕ) (o : Option (List ℕ)) → i < length paths
    → item ≡ get_or paths i item → path ≡ item → shown ≡ path → o ≡ Some bytes → IfSome o (λ b. length b ≤ 32769)
    → IfSome known (λ files. first_there files paths ≡ first_there files (drop i paths))
    → IfSome known (λ files. o ≡ option_map beginning (files shown)) → Says beginning known paths (Some (path, bytes))
found_here known paths i item path shown bytes o lt is same s e small inv read =
    found_one beginning known paths i path bytes bytes lt (subst (λ p. get_or paths i p ≡ p) (sym same) (sym is)) (take_all 32769 bytes (subst (λ x. IfSome x (λ b. length b ≤ 32769)) e small)) inv
    (read_shown known path shown bytes o s e read)

-- ---- the first that cannot be read

abbrev Barred : Type 0
Barred = Option (List ℕ → Option Obstacle)

bar_shown : (known : Barred) (path shown : List ℕ) (obstacle : Obstacle) (o : Option Obstacle) → shown ≡ path → o ≡ Some obstacle
    → IfSome known (λ bars. o ≡ bars shown) → IfSome known (λ bars. Some obstacle ≡ option_map (λ x. x) (bars path))
bar_shown None path shown obstacle o s e h = tt
bar_shown (Some bars) path shown obstacle o s e h = sym (same (bars path) (sym e ∙ h ∙ ap bars s))
  where
    same : (p : Option Obstacle) → Some obstacle ≡ p → option_map (λ x. x) p ≡ Some obstacle
    same None g = absurd (cc)
    same (Some q) g = sym g

pub barred_here : (known : Barred) (paths : List (List ℕ)) (i : ℕ) (item path shown : List ℕ) (obstacle : Obstacle) (o : Option Obstacle) → i < length paths
    → item ≡ get_or paths i item → path ≡ item → shown ≡ path → o ≡ Some obstacle
    → IfSome known (λ bars. first_barred bars paths ≡ first_barred bars (drop i paths))
    → IfSome known (λ bars. o ≡ bars shown) → Says (λ x. x) known paths (Some (path, obstacle))
barred_here known paths i item path shown obstacle o lt is same s e inv read =
    found_one (λ x. x) known paths i path obstacle obstacle lt (subst (λ p. get_or paths i p ≡ p) (sym same) (sym is)) refl inv
    (bar_shown known path shown obstacle o s e read)

-- ---- what it says is what the search says

pub entry_found : (known : Known) (paths looked : List (List ℕ)) (found : Option (List ℕ × List ℕ)) (path bytes shown : List ℕ) (r : Result Description DatabaseFault)
    → looked ≡ paths → found ≡ Some (path, bytes) → shown ≡ bytes → Says beginning known looked found → IfOk r (λ entry. IsEntry shown entry)
    → IfOk r (λ entry. (files : List ℕ → Option (List ℕ)) × CanBe known files × IsFound files paths entry)
entry_found known paths looked found path bytes shown (Err fault) l e s h k = tt
entry_found known paths looked found path bytes shown (Ok entry) l e s h k =
    (h.0, h.1, (path, bytes, ap (first_there h.0) (sym l) ∙ sym h.2 ∙ e, subst (λ b. IsEntry b entry) s k))

-- files and obstacles by which a search fails so
abbrev Fails : Known → Barred → List (List ℕ) → DatabaseFault → Type 0
Fails known barred paths fault =
    (files : List ℕ → Option (List ℕ)) × (bars : List ℕ → Option Obstacle) × CanBe known files × CanBe barred bars × (search_fault files bars paths ≡ Some fault)

pub fault_found : (known : Known) (barred : Barred) (paths looked : List (List ℕ)) (found : Option (List ℕ × List ℕ)) (path bytes shown : List ℕ) (r : Result Description DatabaseFault)
    → looked ≡ paths → found ≡ Some (path, bytes) → shown ≡ bytes → Says beginning known looked found
    → IfErr r (λ fault. (fault ≡ NoMemory) ⊎ (option_map (λ f. Faulty path f) (entry_refusal shown) ≡ Some fault))
    → IfErr r (λ fault. (fault ≡ NoMemory) ⊎ Fails known barred paths fault)
fault_found known barred paths looked found path bytes shown (Ok entry) l e s h k = tt
fault_found known barred paths looked found path bytes shown (Err fault) l e s h (inl none) = inl none
fault_found known barred paths looked found path bytes shown (Err fault) l e s h (inr why) =
    let b = any barred in
    let there : first_there h.0 paths ≡ Some (path, bytes) = ap (first_there h.0) (sym l) ∙ sym h.2 ∙ e in
    inr (h.0, b.0, h.1, b.1, ap (λ f. fault_of paths f (first_barred b.0 paths)) there ∙ ap (λ b. option_map (λ f. Faulty path f) (entry_refusal b)) (sym s) ∙ why)

pub absent_found : (known : Known) (barred : Barred) (paths looked : List (List ℕ)) (found : Option (List ℕ × List ℕ)) (fault : DatabaseFault) → looked ≡ paths → found ≡ None
    → Says beginning known looked found
    → (fault ≡ NoMemory) ⊎ ((bars : List ℕ → Option Obstacle) × CanBe barred bars × (absent_fault paths (first_barred bars paths) ≡ fault))
    → (fault ≡ NoMemory) ⊎ Fails known barred paths fault
absent_found known barred paths looked found fault l e h (inl none) = inl none
absent_found known barred paths looked found fault l e h (inr (bars, can, is)) =
    let there : first_there h.0 paths ≡ None = ap (first_there h.0) (sym l) ∙ sym h.2 ∙ e in
    inr (h.0, bars, h.1, can, ap (λ f. fault_of paths f (first_barred bars paths)) there ∙ ap Some is)

pub entry_moved : (known : Known) (r : Result Description DatabaseFault) (paths others : List (List ℕ)) → paths ≡ others
    → IfOk r (λ entry. (files : List ℕ → Option (List ℕ)) × CanBe known files × IsFound files paths entry)
    → IfOk r (λ entry. (files : List ℕ → Option (List ℕ)) × CanBe known files × IsFound files others entry)
entry_moved known r paths others e h = subst (λ p. IfOk r (λ entry. (files : List ℕ → Option (List ℕ)) × CanBe known files × IsFound files p entry)) e h

pub any_variables : (known : Known) (variables : Variables) (name shown : List ℕ) (r : Result Description DatabaseFault) → shown ≡ name
    → IfOk r (λ entry. (files : List ℕ → Option (List ℕ)) × CanBe known files × IsFound files (paths_of variables shown) entry)
    → IfOk r (λ entry. (variables : Variables) × (files : List ℕ → Option (List ℕ)) × IsFound files (paths_of variables name) entry)
any_variables known variables name shown (Err fault) e h = tt
any_variables known variables name shown (Ok entry) e h = (variables, h.0, subst (λ n. IsFound h.0 (paths_of variables n) entry) e h.2)

pub take_least : (n most : ℕ) (bytes : List ℕ) → length bytes ≡ n → take (min n most) bytes ≡ take most bytes
take_least n most bytes e = take_two (min n most) most n bytes e (grind (arith, nat_tests))
  where
    take_two : (a b n : ℕ) (bytes : List ℕ) → length bytes ≡ n → (a ≡ b) ⊎ ((n ≤ a) × (n ≤ b)) → take a bytes ≡ take b bytes
    take_two a b n bytes e (inl same) = ap (λ k. take k bytes) same
    take_two a b n bytes e (inr long) = take_all a bytes (omega (arith, e, long.0)) ∙ sym (take_all b bytes (omega (arith, e, long.1)))
