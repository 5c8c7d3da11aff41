-- Texts of Unicode that are added: what is shown for each scalar value, and a text in parts.
use Rattle.std.proofs.Common.{◌≡◌, ℕ, zero, suc, ◌+◌, ◌-◌, ◌<◌, ◌≤◌, ◌∙◌, ap, refl, sym, subst, arith, lit<, List, [], ◌∷◌, ◌++◌, length, zero-add, take, drop, get_or, Bool, true, false, cond, ◌&&◌, ◌||◌}
use Rattle.std.specs.Prelude.{replicate}
use Rattle.std.specs.Char.{is_control, encode_utf8, len_utf8}
use Rattle.std.specs.List.{flat_map, list_all}
use Rattle.std.specs.Option.{unwrap_or}
use Rattle.std.specs.Str.{IsCharBoundary, IsUtf8, chars}
use Rattle.std.proofs.lemmas.Bool.{and_parts}
use Rattle.std.proofs.lemmas.Bool.Decides.{nat_tests}
use Rattle.std.proofs.Math.Seq.{take-append_seam}
use Rattle.std.proofs.lemmas.List.{append-nil, drop-drop, drop_all, get_or-take, length-take, take-append-drop, take-take}
use Rattle.std.proofs.lemmas.List.Concat.{flat_map-append}
use Rattle.std.proofs.lemmas.Str.{IsCharBoundary-after_ascii, IsCharBoundary-past_char, IsUtf8-drop, IsUtf8-take, chars-IsAscii, chars-append, chars-nil, chars_past_char, length-encode}
use Rattle.ucd_category.specs.GeneralCategory.{general_category}
use Rattle.unicode_width.specs.Width.{char_width}
use Rattle.unicode_width.proofs.Computing.{unicode_width}
use Rattle.scr_cells.specs.Characters.{IsCharacter, is_ascii, is_beyond_ascii, is_character}
use Rattle.scr_windows.specs.Calls.Adding.{fitted}
use Rattle.scr_windows.specs.Code.Stretches.{characters_first}
use Rattle.scr_windows.proofs.TextLaws.{first_fits}

-- the character that replaces a code that is none
pub replacement_is_character : IsCharacter 0xFFFD
unfolding is_beyond_ascii unicode_width general_category
replacement_is_character = refl

-- ---- what is shown for a scalar value

either_true : (a b : Bool) → b ≡ true → (a || b) ≡ true
either_true true b is = refl
either_true false b is = is

fitted_itself : (code : ℕ) → (is_control code || is_character code) ≡ true → fitted code ≡ code ∷ []
unfolding fitted
fitted_itself code is = ap (λ t. cond t (code ∷ []) (replicate (unwrap_or (char_width false code) 0) 0xFFFD)) is

pub fitted_other : (code : ℕ) → is_control code ≡ false → (IsCharacter code → false ≡ true) → fitted code ≡ replicate (unwrap_or (char_width false code) 0) 0xFFFD
unfolding fitted
fitted_other code printed none =
    ap (λ t. cond (t || is_character code) (code ∷ []) (replicate (unwrap_or (char_width false code) 0) 0xFFFD)) printed ∙ by (is_character code) none
  where
    by : (t : Bool) → (t ≡ true → false ≡ true) → cond t (code ∷ []) (replicate (unwrap_or (char_width false code) 0) 0xFFFD) ≡ replicate (unwrap_or (char_width false code) 0) 0xFFFD
    by true other = let e : false ≡ true = other refl in cc
    by false other = refl

pub fitted_control : (code : ℕ) → is_control code ≡ true → fitted code ≡ code ∷ []
fitted_control code is = fitted_itself code (ap (λ t. t || is_character code) is)

pub fitted_character : (code : ℕ) → IsCharacter code → fitted code ≡ code ∷ []
fitted_character code is = fitted_itself code (either_true (is_control code) (is_character code) is)

-- ---- a text in two parts

pub fitted_parts : (text : List ℕ) (n : ℕ) → IsUtf8 text → IsCharBoundary text n → flat_map fitted (chars text) ≡ flat_map fitted (chars (take n text)) ++ flat_map fitted (chars (drop n text))
fitted_parts text n utf8 place =
    let cut : chars text ≡ chars (take n text) ++ chars (drop n text) = ap chars (sym (take-append-drop n text)) ∙ chars-append (take n text) (drop n text) (IsUtf8-take text n utf8 place) in
    ap (flat_map fitted) cut ∙ flat_map-append fitted (chars (take n text)) (chars (drop n text))

pub fitted_more : (text : List ℕ) (at count : ℕ) → IsUtf8 text → IsCharBoundary text at → IsCharBoundary (drop at text) count
    → flat_map fitted (chars (drop at text)) ≡ flat_map fitted (chars (take count (drop at text))) ++ flat_map fitted (chars (drop (at + count) text))
fitted_more text at count utf8 place next =
    fitted_parts (drop at text) count (IsUtf8-drop text at utf8 place) next ∙ ap (λ ys. flat_map fitted (chars (take count (drop at text))) ++ flat_map fitted (chars ys)) (drop-drop count at text)

-- nothing is left at the end
pub fitted_none : (text : List ℕ) (at : ℕ) → length text ≤ at → flat_map fitted (chars (drop at text)) ≡ []
fitted_none text at end = ap (λ ys. flat_map fitted (chars ys)) (drop_all at text end) ∙ ap (flat_map fitted) chars-nil

-- ---- replacements

pub replacements_cut : (count made : ℕ) → made < count → replicate {A = ℕ} (count - made) 0xFFFD ≡ (0xFFFD ∷ []) ++ replicate (count - (made + 1)) 0xFFFD
replacements_cut count made more = let e : count - made ≡ suc (count - (made + 1)) = omega (arith, more) in ap (λ n. replicate {A = ℕ} n 0xFFFD) e

pub replacements_done : (count made : ℕ) → count ≤ made → replicate {A = ℕ} (count - made) 0xFFFD ≡ []
replacements_done count made all = let e : count - made ≡ 0 = omega (arith, all) in ap (λ n. replicate {A = ℕ} n 0xFFFD) e

-- ---- one scalar value

pub first_ends : (text rest : List ℕ) (code : ℕ) → IsUtf8 text → text ≡ encode_utf8 code ++ rest → IsCharBoundary text (len_utf8 code)
first_ends text rest code utf8 is =
    let e : 0 + len_utf8 code ≡ len_utf8 code = zero-add (len_utf8 code) in
    subst (IsCharBoundary text) e (IsCharBoundary-past_char text rest 0 code (omega arith) utf8 is)

pub first_fitted : (text rest : List ℕ) (code : ℕ) → IsUtf8 text → text ≡ encode_utf8 code ++ rest → fitted code ≡ flat_map fitted (chars (take (len_utf8 code) text))
first_fitted text rest code utf8 is =
    let first : take (len_utf8 code) text ≡ encode_utf8 code ++ [] =
    ap (take (len_utf8 code)) is ∙ ap (λ n. take n (encode_utf8 code ++ rest)) (sym (length-encode code)) ∙ take-append_seam (encode_utf8 code) rest ∙ sym (append-nil (encode_utf8 code)) in
    let one : chars (take (len_utf8 code) text) ≡ code ∷ [] = chars_past_char (take (len_utf8 code) text) [] code (IsUtf8-take text (len_utf8 code) utf8 (first_ends text rest code utf8 is)) first ∙ ap (λ ys. code ∷ ys) chars-nil in
    sym (ap (flat_map fitted) one ∙ append-nil (fitted code))

-- ---- characters of ASCII

all_fitted : (text : List ℕ) → list_all is_ascii text ≡ true → flat_map fitted text ≡ text
all_fitted [] all = refl
all_fitted (byte ∷ text) all =
    let parts = and_parts (is_ascii byte) (list_all is_ascii text) all in
    let one = fitted_character byte (ap (λ t. t || is_beyond_ascii byte) parts.0) in
    let rest = all_fitted text parts.1 in
    (λ j. one j ++ rest j)

all_below : (text : List ℕ) → list_all is_ascii text ≡ true → (i : ℕ) → get_or text i 0 < 128
all_below [] all i = lit< tt
all_below (byte ∷ text) all zero = let here = (and_parts (is_ascii byte) (list_all is_ascii text) all).0 in grind (arith, nat_tests)
all_below (byte ∷ text) all (suc i) = all_below text (and_parts (is_ascii byte) (list_all is_ascii text) all).1 i

first_are_ascii : (text : List ℕ) → list_all is_ascii (take (characters_first text) text) ≡ true
first_are_ascii [] = refl
first_are_ascii (byte ∷ text) = by (is_ascii byte) refl (first_are_ascii text)
  where
    by : (t : Bool) → is_ascii byte ≡ t → list_all is_ascii (take (characters_first text) text) ≡ true → list_all is_ascii (take (cond t (suc (characters_first text)) 0) (byte ∷ text)) ≡ true
    by true is rest = ap (λ t. t && list_all is_ascii (take (characters_first text) text)) is ∙ rest
    by false is rest = refl

-- the stretch that a part of a text begins with is one of the text
stretch_is : (text part : List ℕ) (count end : ℕ) → part ≡ take end text → count ≡ characters_first part → take count part ≡ take count text
stretch_is text part count end is count_is =
    let few = first_fits part in
    let short : length part ≤ end = omega (arith, ap length is, length-take end text) in
    ap (take count) is ∙ take-take count end text (omega (arith, few, short, count_is))

stretch_is_ascii : (text part : List ℕ) (count end : ℕ) → part ≡ take end text → count ≡ characters_first part → list_all is_ascii (take count text) ≡ true
stretch_is_ascii text part count end is count_is =
    ap (list_all is_ascii) (sym (stretch_is text part count end is count_is) ∙ ap (λ n. take n part) count_is) ∙ first_are_ascii part

pub stretch_is_fitted : (text part : List ℕ) (count end : ℕ) → part ≡ take end text → count ≡ characters_first part → take count part ≡ flat_map fitted (chars (take count text))
stretch_is_fitted text part count end is count_is =
    let all = stretch_is_ascii text part count end is count_is in
    stretch_is text part count end is count_is ∙ sym (all_fitted (take count text) all) ∙ sym (ap (flat_map fitted) (chars-IsAscii (take count text) (all_below (take count text) all)))

-- a text may be cut after it
pub stretch_ends : (text part : List ℕ) (count end : ℕ) → IsUtf8 text → part ≡ take end text → count ≡ characters_first part → 1 ≤ count → IsCharBoundary text count
stretch_ends text part count end utf8 is count_is some =
    let few = first_fits part in
    let short : length part ≤ length text = omega (arith, ap length is, length-take end text) in
    let last : count - 1 < length text = omega (arith, few, short, count_is, some) in
    let same : get_or (take count text) (count - 1) 0 ≡ get_or text (count - 1) 0 = get_or-take count text (count - 1) 0 (omega (arith, some)) in
    let below = all_below (take count text) (stretch_is_ascii text part count end is count_is) (count - 1) in
    let e : count - 1 + 1 ≡ count = omega (arith, some) in
    subst (IsCharBoundary text) e (IsCharBoundary-after_ascii text (count - 1) utf8 last (omega (arith, below, same)))
