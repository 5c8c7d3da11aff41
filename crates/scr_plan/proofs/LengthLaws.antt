-- How many bytes the characters have that are seen in places of a row.
use Rattle.std.proofs.Common.{◌≡◌, ◌∙◌, ℕ, zero, suc, ◌+◌, ◌-◌, ◌<◌, ◌≤◌, false, All, ap, arith, encode_utf8, length, refl, subst, sym}
use Rattle.std.proofs.lemmas.List.Elements.{recursion_from_All}
use Rattle.std.proofs.lemmas.Str.{encode_ascii}
use Rattle.scr_cells.specs.CellViews.{IsCell, blank_cell}
use Rattle.scr_cells.specs.Characters.{CharacterLaws, is_utf8, seen_character}
use Rattle.scr_cells.specs.Grids.{grid_at}
use Rattle.scr_cells.specs.PictureViews.{IsPicture, PictureView}
use Rattle.scr_cells.specs.declared.charsets.Charset.{Charset}
use Rattle.scr_cells.specs.declared.charsets.Charset.TheVariants.{Ascii, Utf8}
use Rattle.scr_term.specs.Operations.Laws.{HasLaws}
use Rattle.scr_term.specs.Operations.Profiles.{ProfileView}
use Rattle.scr_plan.specs.Code.Joinings.{place_bytes, run_bytes}
use Rattle.scr_plan.specs.Code.Painters.{painter_look, painter_of}
use Rattle.scr_plan.specs.Scratch.{look_at}
use Rattle.scr_plan.specs.declared.painting.Painter.{Painter}
use Rattle.scr_plan.proofs.PlaceLaws.{cell_of, seen_had}

-- the bytes of no place, of one more, and of one
no_bytes : (profile : ProfileView) (picture : PictureView) (row column : ℕ) → run_bytes profile picture row column (column - column) ≡ 0
no_bytes profile picture row column = let none : column - column ≡ 0 = omega arith in subst (λ n. run_bytes profile picture row column n ≡ 0) (sym none) refl

pub more_bytes : (profile : ProfileView) (picture : PictureView) (row column place : ℕ) → column ≤ place → run_bytes profile picture row column (place + 1 - column) ≡ run_bytes profile picture row column (place - column) + place_bytes profile picture row place
more_bytes profile picture row column place low =
    let count : place + 1 - column ≡ suc (place - column) = omega (arith, low) in
    let there : column + (place - column) ≡ place = omega (arith, low) in
    ap (run_bytes profile picture row column) count ∙ ap (λ c. run_bytes profile picture row column (place - column) + place_bytes profile picture row c) there

pub one_bytes : (profile : ProfileView) (picture : PictureView) (row column : ℕ) → run_bytes profile picture row column (column + 1 - column) ≡ place_bytes profile picture row column
one_bytes profile picture row column = omega (arith, more_bytes profile picture row column column (omega arith), no_bytes profile picture row column)

-- a character has the bytes of its encoding
place_encoded : (profile : ProfileView) → HasLaws profile → (picture : PictureView) → IsPicture picture → (r c : ℕ) → place_bytes profile picture r c ≡ length (encode_utf8 (look_at profile picture (r, c)).character)
place_encoded profile can picture k r c =
    let cell : IsCell (grid_at blank_cell picture.lines r c) = cell_of picture.lines r c (recursion_from_All (All IsCell) picture.lines k.cells) in
    ap length (can.put_bytes (look_at profile picture (r, c)).character (seen_had profile can _ cell.character))

-- one place more, whose character has this code
pub one_more : (profile : ProfileView) → HasLaws profile → (picture : PictureView) → IsPicture picture → (painter : Painter) → painter ≡ painter_of profile → (row from column code count bytes : ℕ) → from ≤ column
    → code ≡ (painter_look painter picture (row, column)).character → count ≡ length (encode_utf8 code) → bytes ≡ run_bytes profile picture row from (column - from)
    → bytes + count ≡ run_bytes profile picture row from (column + 1 - from)
one_more profile can picture k painter who row from column code count bytes low is many before =
    let same : code ≡ (look_at profile picture (row, column)).character = is ∙ ap (λ p. (painter_look p picture (row, column)).character) who in
    let here : count ≡ place_bytes profile picture row column = many ∙ ap (λ n. length (encode_utf8 n)) same ∙ sym (place_encoded profile can picture k row column) in
    omega (arith, here, before, more_bytes profile picture row from column low)

ascii_is : (charset : Charset) → is_utf8 charset ≡ false → charset ≡ Ascii
ascii_is Ascii e = refl
ascii_is Utf8 e = (cc)

-- in ASCII each has one
ascii_place : CharacterLaws → (profile : ProfileView) → HasLaws profile → (picture : PictureView) → IsPicture picture → profile.charset ≡ Ascii → (r c : ℕ) → place_bytes profile picture r c ≡ 1
ascii_place characters profile can picture k ascii r c =
    let code : ℕ = (grid_at blank_cell picture.lines r c).character in
    let few : seen_character profile.charset code < 128 = subst (λ s. seen_character s code < 128) (sym ascii) (characters.low code) in
    place_encoded profile can picture k r c ∙ ap length (encode_ascii (seen_character profile.charset code) few)

ascii_run : CharacterLaws → (profile : ProfileView) → HasLaws profile → (picture : PictureView) → IsPicture picture → profile.charset ≡ Ascii → (r from n : ℕ) → run_bytes profile picture r from n ≡ n
ascii_run characters profile can picture k ascii r from zero = refl
ascii_run characters profile can picture k ascii r from (suc n) = omega (arith, ascii_run characters profile can picture k ascii r from n, ascii_place characters profile can picture k ascii r (from + n))

pub each_is_one : CharacterLaws → (profile : ProfileView) → HasLaws profile → (picture : PictureView) → IsPicture picture → (painter : Painter) → painter ≡ painter_of profile → is_utf8 painter.charset ≡ false → (r from n : ℕ) → n ≡ run_bytes profile picture r from n
each_is_one characters profile can picture k painter who ascii r from n =
    sym (ascii_run characters profile can picture k (sym (ap (λ p. p.charset) who) ∙ ascii_is painter.charset ascii) r from n)
