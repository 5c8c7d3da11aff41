-- Which codes are characters. Adding codes keeps the size of the screen.
use Rattle.std.proofs.Common.{◌≡◌, ℕ, ◌<◌, ◌∙◌, ◌⊎◌, inl, inr, ap, refl, List, [], ◌∷◌, arith, Bool, true, false, ◌-◌, ◌==◌, ◌&&◌, ◌||◌, if◌then◌else◌}
use Rattle.std.proofs.lemmas.Bool.Decides.{nat_tests}
use Rattle.std.proofs.lemmas.Bool.{and_parts}
use Rattle.std.specs.Char.{is_control}
use Rattle.std.specs.List.{list_all}
use Rattle.scr_cells.specs.CellViews.{CellView}
use Rattle.scr_cells.specs.Characters.{IsCharacter, is_ascii, is_beyond_ascii, is_character}
use Rattle.scr_cells.specs.declared.attributes.Attrs.{Attrs}
use Rattle.scr_windows.specs.declared.faults.Added.{Added}
use Rattle.scr_windows.specs.declared.frames.WindowState.{WindowState}
use Rattle.scr_windows.specs.DeskViews.{DeskView, HasSameSize, no_attributes, window_at}
use Rattle.scr_windows.specs.Changes.{write}
use Rattle.scr_windows.specs.Calls.Adding.{line_begun, cell_added, character_added, gone_to, newline_added, tab_added, code_added, shown_added, text_added, written_form}
use Rattle.scr_windows.specs.Calls.Erasing.{erased_up_to}

-- ---- characters

pub ascii_is_character : (code : ℕ) → is_ascii code ≡ true → IsCharacter code
ascii_is_character code is = ap (λ t. t || is_beyond_ascii code) is

pub all_are_characters : (codes : List ℕ) → list_all is_ascii codes ≡ true → list_all is_character codes ≡ true
all_are_characters [] all = refl
all_are_characters (code ∷ codes) all =
    let parts = and_parts (is_ascii code) (list_all is_ascii codes) all in
    let here = ascii_is_character code parts.0 in
    let rest = all_are_characters codes parts.1 in
    (λ j. here j && rest j) ∙ refl

-- what is no control character
pub other_is_character : (code : ℕ) → (code < 160) ⊎ IsCharacter code → is_control code ≡ false → IsCharacter code
other_is_character code (inl few) other = ascii_is_character code (grind (arith, nat_tests))
other_is_character code (inr is) other = is

-- ---- the size of the screen

pub cell_size : (d : DeskView) (i : ℕ) (cell : CellView) → HasSameSize d (cell_added d i cell).0
unfolding cell_added line_begun write
cell_size d i cell = record { rows = grind arith; columns = grind arith }

-- whichever is done
either_size : (d : DeskView) (b : Bool) (x y : DeskView × Added) → HasSameSize d x.0 → HasSameSize d y.0 → HasSameSize d (if b then x else y).0
either_size d true x y h g = h
either_size d false x y h g = g

-- one after the other
then_size : (d mid new : DeskView) → HasSameSize d mid → HasSameSize mid new → HasSameSize d new
then_size d mid new h g = record { rows = g.rows ∙ h.rows; columns = g.columns ∙ h.columns }

gone_size : (d : DeskView) (i : ℕ) (cursor : ℕ × ℕ) → HasSameSize d (gone_to d i cursor).0
gone_size d i cursor = record { rows = refl; columns = refl }

erased_size : (d : DeskView) (i end : ℕ) → HasSameSize d (erased_up_to d i end)
unfolding write
erased_size d i end = record { rows = refl; columns = refl }

line_size : (d : DeskView) (i : ℕ) → HasSameSize d (line_begun d i).0
unfolding line_begun write
line_size d i = record { rows = grind arith; columns = grind arith }

character_size : (d : DeskView) (i code : ℕ) (attrs : Attrs) → HasSameSize d (character_added d i code attrs).0
unfolding character_added
character_size d i code attrs = cell_size d i _

newline_size : (d : DeskView) (i : ℕ) → HasSameSize d (newline_added d i).0
unfolding newline_added
newline_size d i = then_size d _ _ (erased_size d i _) (line_size _ i)

tab_size : (d : DeskView) (i : ℕ) → HasSameSize d (tab_added d i).0
unfolding tab_added
tab_size d i = either_size d _ _ _ (then_size d _ _ (erased_size d i _) (gone_size _ i _)) (newline_size d i)

shown_size : (d : DeskView) (i code : ℕ) (attrs : Attrs) → HasSameSize d (shown_added d i code attrs).0
shown_size d i code attrs = then_size d _ _ (character_size d i _ attrs) (character_size _ i _ attrs)

pub code_size : (d : DeskView) (i code : ℕ) (attrs : Attrs) → HasSameSize d (code_added d i code attrs).0
unfolding code_added
code_size d i code attrs =
    let cursor : ℕ × ℕ = (window_at d i).state.cursor in
    let shown : DeskView × Added = if is_control code then shown_added d i code attrs else character_added d i code attrs in
    let returned : DeskView × Added = if code == 13 then gone_to d i (cursor.0, 0) else shown in
    let left : DeskView × Added = if code == 8 then gone_to d i (cursor.0, cursor.1 - 1) else returned in
    let tabbed : DeskView × Added = if code == 9 then tab_added d i else left in
    either_size d (code == 10) (newline_added d i) tabbed (newline_size d i)
    (either_size d (code == 9) (tab_added d i) left (tab_size d i)
    (either_size d (code == 8) (gone_to d i (cursor.0, cursor.1 - 1)) returned (gone_size d i _)
    (either_size d (code == 13) (gone_to d i (cursor.0, 0)) shown (gone_size d i _)
    (either_size d (is_control code) (shown_added d i code attrs) (character_added d i code attrs) (shown_size d i code attrs) (character_size d i code attrs)))))

pub text_size : (codes : List ℕ) (d : DeskView) (i : ℕ) → HasSameSize d (text_added d i codes).0
text_size [] d i = record { rows = refl; columns = refl }
text_size (code ∷ codes) d i =
    let first : DeskView = (code_added d i code no_attributes).0 in
    let one : HasSameSize d first = code_size d i code no_attributes in
    let rest : HasSameSize first (text_added first i codes).0 = text_size codes first i in
    then_size d first _ one rest

-- ---- a character and its code

-- a cell in the written form of a character
pub character_is_cell : (d : DeskView) (i code : ℕ) (attrs : Attrs) (cell : CellView) (state : WindowState) → cell ≡ written_form code attrs state → state ≡ (window_at d i).state → cell_added d i cell ≡ character_added d i code attrs
unfolding character_added
character_is_cell d i code attrs cell state form is = ap (cell_added d i) (form ∙ ap (written_form code attrs) is)

-- a character is added as its code is
pub character_is_code : (d : DeskView) (i code : ℕ) (attrs : Attrs) → is_control code ≡ false → character_added d i code attrs ≡ code_added d i code attrs
unfolding code_added
character_is_code d i code attrs printed = last _ _ _ _ _ _
  where
    last : (a b c e f g : DeskView × Added) → g ≡ if code == 10 then a else if code == 9 then b else if code == 8 then c else if code == 13 then e else if is_control code then f else g
    last a b c e f g = grind (arith, nat_tests, printed)
