-- The parts of a search.
use Rattle.std.proofs.Common.{◌≡◌, ℕ, ◌+◌, ◌-◌, ◌<◌, ◌≤◌, Bool, true, false, ◌&&◌, ◌||◌, cond, List, length, take, drop, get_or, None, Some, sym, ◌∙◌, ap, refl, arith, subst, min}
use Rattle.std.proofs.lemmas.List.{length-take, length-drop, get_or-take, get_or-drop, drop-drop, same_lists, get_or_default, length-take-le}
use Rattle.memchr.specs.Find.{OccursAt, FindsNeedle}
use Rattle.edit_text.specs.declared.places.TextPlace.{TextPlace}
use Rattle.edit_text.specs.Places.{is_before}
use Rattle.edit_text.specs.Finds.{IsFound}
use Rattle.edit_text.specs.Code.Searches.{IsAt, IsFirstColumn, IsFirstFrom}

-- ---- a line

fits : (line bytes : List ℕ) (c : ℕ) → 0 < length bytes → IsAt line bytes c → c + length bytes ≤ length line
fits line bytes c some h =
    let taken : length bytes ≡ min (length bytes) (length line - c) = ap length (sym h) ∙ length-take (length bytes) (drop c line) ∙ ap (min (length bytes)) (length-drop c line) in
    omega arith

occurs : (line bytes : List ℕ) (c : ℕ) → 0 < length bytes → IsAt line bytes c → OccursAt line bytes c
occurs line bytes c some h =
    record {
      fits = fits line bytes c some h;
      reads = λ j l. sym (get_or-drop c line j 0) ∙ sym (get_or-take (length bytes) (drop c line) j 0 l) ∙ ap (λ list. get_or list j 0) h;
    }

is_there : (line bytes : List ℕ) (c : ℕ) → OccursAt line bytes c → IsAt line bytes c
is_there line bytes c o =
    let n : length (drop c line) ≡ length line - c = length-drop c line in
    let within : length bytes ≤ length (drop c line) = omega (arith, o.fits) in
    let lengths : length (take (length bytes) (drop c line)) ≡ length bytes = length-take-le (length bytes) (drop c line) within in
    same_lists _ _ lengths (λ k d l.
    let small : k < length bytes = omega arith in
    let long : c + k < length line = omega (arith, o.fits) in
    get_or-take (length bytes) (drop c line) k d small ∙ get_or-drop c line k d ∙ get_or_default line (c + k) d 0 long ∙ o.reads k small ∙ get_or_default bytes k 0 d small)

in_rest : (line bytes : List ℕ) (start c k : ℕ) → c ≡ start + k → IsAt line bytes c → IsAt (drop start line) bytes k
in_rest line bytes start c k e h = ap (take (length bytes)) (drop-drop k start line ∙ ap (λ n. drop n line) (sym e)) ∙ h

in_line : (line bytes : List ℕ) (start k : ℕ) → IsAt (drop start line) bytes k → IsAt line bytes (start + k)
in_line line bytes start k h = ap (take (length bytes)) (sym (drop-drop k start line)) ∙ h

pub none_in_rest : (line bytes rest : List ℕ) (start : ℕ) → 0 < length bytes → rest ≡ drop start line → FindsNeedle rest bytes 0 None → IsFirstColumn line start bytes None
none_in_rest line bytes rest start some e finds = λ c l h.
    let there : IsAt rest bytes (c - start) = subst (λ list. IsAt list bytes (c - start)) (sym e) (in_rest line bytes start c (c - start) (omega arith) h) in
    let o : OccursAt rest bytes (c - start) = occurs rest bytes (c - start) some there in
    finds (c - start) (omega arith) (omega (arith, o.fits)) o

pub some_in_rest : (line bytes rest : List ℕ) (start k : ℕ) → 0 < length bytes → rest ≡ drop start line → FindsNeedle rest bytes 0 (Some k) → IsFirstColumn line start bytes (Some (start + k))
some_in_rest line bytes rest start k some e finds = (
  omega arith,
  in_line line bytes start k (subst (λ list. IsAt list bytes k) e (is_there rest bytes k finds.1)),
  λ c l small h.
      let there : IsAt rest bytes (c - start) = subst (λ list. IsAt list bytes (c - start)) (sym e) (in_rest line bytes start c (c - start) (omega arith) h) in
      finds.0.before (c - start) (omega arith) (omega arith) (occurs rest bytes (c - start) some there),
)

-- ---- the whole

found_later : (a b c : Bool) → b ≡ false → (a ≡ false → c ≡ false) → cond a (b && c) (b || c) ≡ false
found_later true b c e h = ap (λ x. x && c) e
found_later false b c e h = ap (λ x. x || c) e ∙ h refl

pub found_from : (lines : List (List ℕ)) (from : TextPlace) (bytes : List ℕ) (place : TextPlace) → IsFirstFrom lines from bytes (Some place) → IsFound lines from bytes (Some place)
found_from lines from bytes place h = (h.0, λ p s. found_later (is_before p from) (is_before place from) (is_before p place) h.1 (h.2 p s))
