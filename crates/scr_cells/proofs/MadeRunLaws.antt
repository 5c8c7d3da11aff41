-- Runs that a function makes: one element more, the end, and the run in its row.
use Rattle.std.proofs.Common.{Vec, ℕ, suc, ◌≡◌, ◌+◌, ◌-◌, ◌*◌, ◌<◌, ◌≤◌, ◌∙◌, sym, ap, arith, refl, List, [], ◌∷◌, ◌++◌, length, set, take, drop, get_or, Option, Some, None}
use Rattle.std.proofs.lemmas.List.{append_assoc, drop-append-le, drop-drop, drop_more, length-append, length-drop, length-take-le, set-append_right, take-append-drop, take_all, take_more, with_items_is}
use borrow.Rule.Slice.PartMut.{put_mid}
use Rattle.std.specs.Vec.{with_items}
use Rattle.scr_cells.specs.Grids.{GridView, grid_with_run, line_with_run}
use Rattle.scr_cells.specs.MadeRuns.{before, made_while}
use Rattle.scr_cells.proofs.GridLaws.{length-line_with_run, next_row, place_is, run_is_put, seen}

-- something was made of each of some elements, and of the next one
made_more : {A B : Type 0} (f : A → Option B) (xs : List A) (x : A) (y : B) → length (made_while f xs) ≡ length xs → f x ≡ Some y
    → made_while f (xs ++ x ∷ []) ≡ made_while f xs ++ y ∷ []
made_more f [] x y len is = ap (λ o. before o []) is
made_more {A} {B} f (z ∷ xs) x y len is = by (f z) (made_while f xs) (made_while f (xs ++ x ∷ [])) (length xs) y len (λ l. made_more f xs x y l is)
  where
    by : {B : Type 0} (o : Option B) (old new : List B) (n : ℕ) (y : B) → length (before o old) ≡ suc n → (length old ≡ n → new ≡ old ++ y ∷ []) → before o new ≡ before o old ++ y ∷ []
    by None old new n y len more = absurd (omega (arith, len))
    by (Some w) old new n y len more = ap (λ ws. w ∷ ws) (more (omega (arith, len)))

-- nothing is made of the next one
made_ends : {A B : Type 0} (f : A → Option B) (xs ys : List A) (x : A) → length (made_while f xs) ≡ length xs → f x ≡ None
    → made_while f (xs ++ x ∷ ys) ≡ made_while f xs
made_ends f [] ys x len is = ap (λ o. before o (made_while f ys)) is
made_ends {A} {B} f (z ∷ xs) ys x len is = by (f z) (made_while f xs) (made_while f (xs ++ x ∷ ys)) (length xs) len (λ l. made_ends f xs ys x l is)
  where
    by : {B : Type 0} (o : Option B) (old new : List B) (n : ℕ) → length (before o old) ≡ suc n → (length old ≡ n → new ≡ old) → before o new ≡ before o old
    by None old new n len more = absurd (omega (arith, len))
    by (Some w) old new n len more = ap (λ ws. w ∷ ws) (more (omega (arith, len)))

-- at most as many as there are
pub made_fits : {A B : Type 0} (f : A → Option B) (xs : List A) → length (made_while f xs) ≤ length xs
made_fits f [] = omega arith
made_fits {A} {B} f (x ∷ xs) = by (f x) (made_while f xs) (length xs) (made_fits f xs)
  where
    by : {B : Type 0} (o : Option B) (ys : List B) (n : ℕ) → length ys ≤ n → length (before o ys) ≤ suc n
    by None ys n h = omega arith
    by (Some y) ys n h = omega (arith, h)

-- ---- the loop

-- something was made of each source before one, and stands in its place
pub record Made {A B : Type 0} (f : A → Option B) (xs : List A) (n : ℕ) (old new : List B) : Type 0 where
  pub each : length (made_while f (take n xs)) ≡ n
  pub laid : new ≡ made_while f (take n xs) ++ drop n old

pub none_made : {A B : Type 0} (f : A → Option B) (xs : List A) (old : List B) → Made f xs 0 old old
none_made f xs old = record { each = refl; laid = refl }

pub one_made : {A B : Type 0} (f : A → Option B) (xs : List A) (n : ℕ) (old new : List B) (x : A) (y : B) → n < length xs → n < length old
    → x ≡ get_or xs n x → Some y ≡ f x → Made f xs n old new → Made f xs (n + 1) old (set new n y)
one_made {A} {B} f xs n old new x y inside room at is before =
    let done : List B = made_while f (take n xs) in
    let short : length (take n xs) ≡ n = length-take-le n xs (omega arith) in
    let first : take (n + 1) xs ≡ take n xs ++ x ∷ [] = take_more xs n x inside ∙ ap (λ v. take n xs ++ v ∷ []) (sym at) in
    let more : made_while f (take (n + 1) xs) ≡ done ++ y ∷ [] = ap (made_while f) first ∙ made_more f (take n xs) x y (before.each ∙ sym short) (sym is) in
    let z : n - n ≡ 0 = omega arith in
    record {
      each = ap length more ∙ length-append done (y ∷ []) ∙ ap (λ k. k + 1) before.each;
      laid =
          ap (λ ys. set ys n y) before.laid
          ∙ set-append_right done (drop n old) n n y before.each (omega arith)
          ∙ (λ i. done ++ set (drop_more old n y room i) (z i) y)
          ∙ sym (append_assoc done (y ∷ []) (drop (n + 1) old)) ∙ ap (λ ys. ys ++ drop (n + 1) old) (sym more);
    }

in_line : {B : Type 0} (run old new : List B) (n : ℕ) → length run ≡ n → new ≡ run ++ drop n old → new ≡ line_with_run old 0 run
in_line run old new n len is =
    let e : n ≡ 0 + length run = omega (arith, len) in
    is ∙ ap (λ k. run ++ drop k old) e

split_at : {A : Type 0} (xs : List A) (n : ℕ) (x : A) → n < length xs → x ≡ get_or xs n x → xs ≡ take n xs ++ x ∷ drop (n + 1) xs
split_at xs n x inside at =
    sym (take-append-drop n xs) ∙ ap (λ ys. take n xs ++ ys) (drop_more xs n x inside ∙ ap (λ v. v ∷ drop (n + 1) xs) (sym at))

-- the first source of which nothing is made
pub made_until : {A B : Type 0} (f : A → Option B) (xs : List A) (n : ℕ) (x : A) → n < length xs → x ≡ get_or xs n x → None ≡ f x → length (made_while f (take n xs)) ≡ n
    → made_while f xs ≡ made_while f (take n xs)
made_until f xs n x inside at is each =
    let short : length (take n xs) ≡ n = length-take-le n xs (omega arith) in
    ap (made_while f) (split_at xs n x inside at) ∙ made_ends f (take n xs) (drop (n + 1) xs) x (each ∙ sym short) (sym is)

pub stopped : {A B : Type 0} (f : A → Option B) (xs : List A) (n : ℕ) (old new : List B) (x : A) → n < length xs → x ≡ get_or xs n x → None ≡ f x → Made f xs n old new
    → (n ≡ length (made_while f xs)) × (new ≡ line_with_run old 0 (made_while f xs))
stopped f xs n old new x inside at is before =
    let e = made_until f xs n x inside at is before.each in
    (sym (ap length e ∙ before.each), in_line _ old new n before.each before.laid ∙ ap (line_with_run old 0) (sym e))

pub all_made : {A B : Type 0} (f : A → Option B) (xs : List A) (n : ℕ) (old new : List B) → length xs ≤ n → Made f xs n old new
    → (n ≡ length (made_while f xs)) × (new ≡ line_with_run old 0 (made_while f xs))
all_made f xs n old new past before =
    let e : made_while f (take n xs) ≡ made_while f xs = ap (made_while f) (take_all n xs past) in
    (sym before.each ∙ ap length e, in_line _ old new n before.each before.laid ∙ ap (line_with_run old 0) e)

-- ---- the row

-- the first of some elements are others
first_are : {A : Type 0} (xs run : List A) (k : ℕ) → length run ≤ k → k ≤ length xs → line_with_run (take k xs) 0 run ++ drop k xs ≡ run ++ drop (length run) xs
first_are xs run k fits room =
    let e : 0 + length run ≡ length run = omega arith in
    let short : length (take k xs) ≡ k = length-take-le k xs room in
    append_assoc run (drop (0 + length run) (take k xs)) (drop k xs)
    ∙ ap (λ n. run ++ (drop n (take k xs) ++ drop k xs)) e
    ∙ ap (λ ys. run ++ ys) (sym (drop-append-le (length run) (take k xs) (drop k xs) (omega (arith, fits, short))) ∙ ap (drop (length run)) (take-append-drop k xs))

-- what is left where a part was lent whose first elements became others
pub lent_first_are_put : {A Z : Type 0} (rows columns : ℕ) (v : Vec A Z) (xs ys run : List A) (g : GridView A) (r c s k : ℕ) → seen rows columns v.items ≡ g → length v.items ≡ rows * columns
    → r < g.rows → c + k ≤ g.columns → length run ≤ k → xs ≡ v.items → ys ≡ line_with_run (take k (drop s xs)) 0 run → s ≡ r * g.columns + c
    → seen rows columns (with_items v (put_mid s k xs ys)).items ≡ record g { lines = grid_with_run g.lines r c run }
lent_first_are_put {A} rows columns v xs ys run g r c s k is len row_in fits few xs_is ys_is s_is =
    let row_in2 : r < rows = omega (arith, ap (λ (v : GridView A). v.rows) is) in
    let fits2 : c + k ≤ columns = omega (arith, ap (λ (v : GridView A). v.columns) is) in
    let end : r * columns + columns ≤ rows * columns = next_row columns r rows row_in2 in
    let at : s ≡ r * columns + c = place_is rows columns v.items g r c s is s_is in
    let rest : length (drop s v.items) ≡ length v.items - s = length-drop s v.items in
    let e : put_mid s k xs ys ≡ line_with_run v.items (r * columns + c) run =
    ap (put_mid s k xs) ys_is
    ∙ ap (λ (zs : List A). take s zs ++ (line_with_run (take k (drop s zs)) 0 run ++ drop k (drop s zs))) xs_is
    ∙ ap (λ zs. take s v.items ++ zs) (first_are (drop s v.items) run k few (omega (arith, rest, len, end, at)))
    ∙ sym (append_assoc (take s v.items) run (drop (length run) (drop s v.items)))
    ∙ ap (λ zs. (take s v.items ++ run) ++ zs) (drop-drop (length run) s v.items)
    ∙ ap (λ n. line_with_run v.items n run) at in
    let kept : length (put_mid s k xs ys) ≡ v.len = ap length e ∙ length-line_with_run v.items run (r * columns + c) (omega (arith, len, end)) ∙ sym v.ok.0 in
    run_is_put rows columns v.items run _ g r c is len row_in (omega arith) (with_items_is v (put_mid s k xs ys) kept ∙ e)
