-- Lists by their indices, places of areas, and marks.
use Rattle.std.proofs.Common.{◌≡◌, ℕ, ◌+◌, ◌<◌, ◌≤◌, sym, ◌∙◌, ap, refl, arith, List, ◌∷◌, zero, suc, length, map, set, take, drop, get_or, Bool, cond, ltb, leb, ◌&&◌, true, false}
use Rattle.std.specs.List.{range_with_len}
use Rattle.std.proofs.Math.Seq.{drop-cons}
use Rattle.std.proofs.lemmas.Grind.{get_or-set_at}
use Rattle.std.proofs.lemmas.List.{get_or-set_other, length-set, take_all}
use Rattle.std.proofs.lemmas.Bool.Decides.{nat_tests}
use Rattle.scr_windows.specs.declared.surfaces.areas.Area.{Area}
use Rattle.scr_windows.specs.Surfaces.SurfaceViews.{is_inside}
use Rattle.scr_windows.specs.Changes.{marked_lines}

pub map_range : {X : Type 0} (f g : ℕ → X) (a n : ℕ) → ((k : ℕ) → a ≤ k → k < a + n → f k ≡ g k) → map f (range_with_len a n) ≡ map g (range_with_len a n)
map_range f g a zero h = refl
map_range f g a (suc n) h =
    let e : f a ≡ g a = h a (omega arith) (omega arith) in
    let rest : map f (range_with_len (a + 1) n) ≡ map g (range_with_len (a + 1) n) = map_range f g (a + 1) n (λ k l m. h k (omega arith) (omega arith)) in
    cc

pub part_is : {X : Type 0} (xs : List X) (h : ℕ → X) (d : X) (a s n : ℕ) → s + n ≤ length xs → ((k : ℕ) → k < n → get_or xs (s + k) d ≡ h (a + k)) → take n (drop s xs) ≡ map h (range_with_len a n)
part_is xs h d a s zero le e = refl
part_is {X} xs h d a s (suc n) le e =
    let l : s < length xs = omega arith in
    let here : get_or xs s d ≡ h a = (let z : s + 0 ≡ s = omega arith in let y : a + 0 ≡ a = omega arith in ap (λ k. get_or xs k d) (sym z) ∙ e 0 (omega arith) ∙ ap h y) in
    let rest : take n (drop (s + 1) xs) ≡ map h (range_with_len (a + 1) n) = part_is xs h d (a + 1) (s + 1) n (omega arith) (λ k b.
    let z : s + 1 + k ≡ s + (k + 1) = omega arith in let y : a + (k + 1) ≡ a + 1 + k = omega arith in
    ap (λ i. get_or xs i d) z ∙ e (k + 1) (omega arith) ∙ ap h y) in
    let one : s + 1 ≡ suc s = omega arith in
    let rest2 : take n (drop (suc s) xs) ≡ map h (range_with_len (a + 1) n) = (ap (λ k. take n (drop k xs)) (sym one) ∙ rest) in
    let cut : drop s xs ≡ get_or xs s d ∷ drop (suc s) xs = drop-cons xs s d l in
    ap (take (suc n)) cut ∙ ap (λ x. x ∷ take n (drop (suc s) xs)) here ∙ ap (λ ys. h a ∷ ys) rest2

pub is_inside_tells : (area : Area) (r c : ℕ) → is_inside area r c ≡ true → (area.top ≤ r) × (r < area.top + area.rows) × (area.left ≤ c) × (c < area.left + area.columns)
is_inside_tells area r c t = tells area.top area.left area.rows area.columns r c t
  where
    tells : (top left rows columns r c : ℕ) → (leb top r && ltb r (top + rows) && leb left c && ltb c (left + columns)) ≡ true → (top ≤ r) × (r < top + rows) × (left ≤ c) × (c < left + columns)
    tells top left rows columns r c t = (grind (arith, nat_tests), grind (arith, nat_tests), grind (arith, nat_tests), grind (arith, nat_tests))

-- marks that are changed for some lines alone
pub marks_are : (first end : ℕ) (mark : Bool) (old new : List Bool) → length new ≡ length old
    → ((k : ℕ) → k < length old → first ≤ k → k < end → get_or new k false ≡ mark)
    → ((k : ℕ) → k < first → get_or new k false ≡ get_or old k false)
    → ((k : ℕ) → k < length old → end ≤ k → get_or new k false ≡ get_or old k false)
    → new ≡ marked_lines first end mark old
unfolding marked_lines
marks_are first end mark old new len put before after =
    sym (take_all (length old) new (omega (arith, len)))
    ∙ part_is new (λ r. cond (leb first r && ltb r end) mark (get_or old r false)) false 0 0 (length old) (omega (arith, len)) (λ k b.
    let y : 0 + k ≡ k = omega arith in
    mark_at first end mark old new (0 + k) (λ h l. put (0 + k) (omega arith) h l) (λ h. before (0 + k) h) (λ h. after (0 + k) (omega arith) h))
  where
    mark_at : (first end : ℕ) (mark : Bool) (old new : List Bool) (k : ℕ) → (first ≤ k → k < end → get_or new k false ≡ mark) → (k < first → get_or new k false ≡ get_or old k false) → (end ≤ k → get_or new k false ≡ get_or old k false)
        → get_or new k false ≡ cond (leb first k && ltb k end) mark (get_or old k false)
    mark_at first end mark old new k put before after = grind (arith, nat_tests)

-- one line's mark, where the line is there, and where it is not
pub mark_put : (line : ℕ) (mark : Bool) (marks : List Bool) → line < length marks → set marks line mark ≡ marked_lines line (line + 1) mark marks
mark_put line mark marks l =
    marks_are line (line + 1) mark marks (set marks line mark) (length-set marks line mark)
    (λ k b h e. get_or-set_at marks line k mark false (omega arith) l) (λ k b. get_or-set_other marks line k mark false (λ p. absurd (omega arith))) (λ k b h. get_or-set_other marks line k mark false (λ p. absurd (omega arith)))

pub no_mark_put : (line : ℕ) (mark : Bool) (marks : List Bool) → length marks ≤ line → marks ≡ marked_lines line (line + 1) mark marks
no_mark_put line mark marks l = marks_are line (line + 1) mark marks marks refl (λ k b h e. absurd (omega arith)) (λ k b. refl) (λ k b h. refl)
