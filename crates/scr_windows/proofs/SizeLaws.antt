-- The surfaces of a desk and their sizes, when one takes the place of another, one is added at the end, or one goes.
use Rattle.std.proofs.Common.{◌≡◌, ◌≢◌, ◌⊎◌, inl, inr, ℕ, ◌+◌, ◌-◌, ◌<◌, ◌≤◌, sym, ◌∙◌, ap, arith, List, [], ◌∷◌, ◌++◌, zero, suc, length, get_or, cond, ltb}
use Rattle.std.specs.Prelude.{slice_set}
use Rattle.std.specs.List.{remove}
use Rattle.std.proofs.Math.ListN.{get_or-append}
use Rattle.std.proofs.Math.Seq.{get_or-append_seam}
use Rattle.std.proofs.lemmas.Bool.Decides.{nat_tests}
use Rattle.std.proofs.lemmas.List.{get_or-set_other, get_or-set_same}
use Rattle.std.proofs.lemmas.List.Edits.{get_or-remove_above, get_or-remove_below}
use Rattle.scr_windows.specs.Surfaces.SurfaceViews.{SurfaceView}
use Rattle.scr_windows.specs.DeskViews.{no_surface, size_on}
use Rattle.scr_windows.specs.Calls.Removing.{moved_up}
use Rattle.scr_windows.proofs.NumberLaws.{differs, equal, is_or_not}

abbrev size_of : SurfaceView → ℕ × ℕ
size_of surface = (surface.rows, surface.columns)

-- where a surface has a row, it is there
pub is_surface_there : (surfaces : List SurfaceView) (k : ℕ) → 1 ≤ (size_on surfaces k).0 → k < length surfaces
is_surface_there [] k h = absurd (omega (arith, h))
is_surface_there (s ∷ surfaces) zero h = omega arith
is_surface_there (s ∷ surfaces) (suc k) h = (let rest = is_surface_there surfaces k h in omega (arith, rest))

-- a surface of the same size takes the place of one
pub size_set : (surfaces : List SurfaceView) (k : ℕ) (new : SurfaceView) → k < length surfaces → (new.rows, new.columns) ≡ size_on surfaces k → (other : ℕ) → size_on (slice_set surfaces k new) other ≡ size_on surfaces other
size_set surfaces k new l same other = elim (is_or_not other k) [
  | inl t ↦ (let e : other ≡ k = equal other k t in
      ap (size_on (slice_set surfaces k new)) e ∙ ap size_of (get_or-set_same surfaces k new no_surface l) ∙ same ∙ ap (size_on surfaces) (sym e))
  | inr t ↦ ap size_of (get_or-set_other surfaces k other new no_surface (differs other k t))
]

-- a surface more
pub size_more : (surfaces : List SurfaceView) (last : SurfaceView) (k : ℕ) → k < length surfaces → size_on (surfaces ++ last ∷ []) k ≡ size_on surfaces k
size_more surfaces last k l = ap size_of (get_or-append surfaces (last ∷ []) no_surface k l)

pub size_last : (surfaces : List SurfaceView) (last : SurfaceView) → size_on (surfaces ++ last ∷ []) (length surfaces) ≡ (last.rows, last.columns)
size_last surfaces last = ap size_of (get_or-append_seam surfaces last [] no_surface)

-- ---- a surface less

before_or_behind : (gone k : ℕ) → k ≢ gone → (k < gone) ⊎ (gone < k)
before_or_behind gone k other = grind arith

moved_before : (gone k : ℕ) → k < gone → moved_up gone k ≡ k
moved_before gone k less = one gone k less
  where
    one : (a b : ℕ) → b < a → cond (ltb a b) (b - 1) b ≡ b
    one a b h = grind (arith, nat_tests)

moved_behind : (gone k : ℕ) → gone < k → moved_up gone k ≡ k - 1
moved_behind gone k less = one gone k less
  where
    one : (a b : ℕ) → a < b → cond (ltb a b) (b - 1) b ≡ b - 1
    one a b h = grind (arith, nat_tests)

-- the others are found where they have moved
pub surface_less : (surfaces : List SurfaceView) (gone k : ℕ) → gone < length surfaces → k ≢ gone → get_or (remove surfaces gone) (moved_up gone k) no_surface ≡ get_or surfaces k no_surface
surface_less surfaces gone k l other = elim (before_or_behind gone k other) [
  | inl less ↦ ap (λ n. get_or (remove surfaces gone) n no_surface) (moved_before gone k less) ∙ get_or-remove_below surfaces gone no_surface k less l
  | inr more ↦ (let back : k - 1 + 1 ≡ k = omega arith in
      ap (λ n. get_or (remove surfaces gone) n no_surface) (moved_behind gone k more) ∙ get_or-remove_above surfaces gone no_surface (k - 1) (omega arith) l ∙ ap (λ n. get_or surfaces n no_surface) back)
]

pub size_less : (surfaces : List SurfaceView) (gone k : ℕ) → gone < length surfaces → k ≢ gone → size_on (remove surfaces gone) (moved_up gone k) ≡ size_on surfaces k
size_less surfaces gone k l other = ap size_of (surface_less surfaces gone k l other)

-- what moves to one place was in one place
pub moved_same : (gone a b : ℕ) → a ≢ gone → b ≢ gone → moved_up gone a ≡ moved_up gone b → a ≡ b
moved_same gone a b other_a other_b same = one gone a b other_a other_b same
  where
    one : (g x y : ℕ) → x ≢ g → y ≢ g → cond (ltb g x) (x - 1) x ≡ cond (ltb g y) (y - 1) y → x ≡ y
    one g x y h k same = grind (arith, nat_tests)
