-- Calls by the short names that scripts have for them, and what follows each.
use Rattle.std.specs.Prelude.{ℕ, false, List, [], ◌∷◌, Option, Some, None, option_and_then, option_map, codes, if◌then◌else◌}
use Rattle.std.specs.Str.{bytes_eq}
use Rattle.scr_cells.specs.declared.attributes.Attrs.{Attrs}
use Rattle.scr_cells.specs.CellViews.{CellView}
use Rattle.scr_windows.specs.declared.calls.borders.TheConstants.{BOX}
use Rattle.scr_windows.specs.declared.faults.Win.{Win}
use Rattle.screen_calls.specs.declared.calls.Call.{Call}
use Rattle.screen_calls.specs.declared.calls.Call.TheVariants.{NewWindow, NewPad, Derive, Sub, SubPad, ResizeWindow, Copy, Overlay, Overwrite, Delete, TouchWindow, Untouch, AddByte, AddText, BorderOf, Erase, Clear, Scroll, ChangeBackground, MoveCursor, ScrollOk, AttrSet, ColorSet, SetPairOf, Noutrefresh, PadNoutrefresh, Doupdate}
use Rattle.screen_calls.specs.Fields.{cut, colour, field_and_text, fields_behind, graphic, integer, number, setting, up_to}

-- what is made of so many fields, each read in its way; nothing of more or fewer
abbrev pub none_read : {C : Type 0} → C → List (List ℕ) → Option C
none_read made [] = Some made
none_read made _ = None

abbrev pub one_read : {A C : Type 0} → (List ℕ → Option A) → (A → C) → List (List ℕ) → Option C
one_read read make (a ∷ []) = option_map make (read a)
one_read read make _ = None

abbrev pub two_read : {A B C : Type 0} → (List ℕ → Option A) → (List ℕ → Option B) → (A → B → C) → List (List ℕ) → Option C
two_read first second make (a ∷ b ∷ []) = option_and_then (λ x. option_map (λ y. make x y) (second b)) (first a)
two_read first second make _ = None

abbrev pub three_read : {A B D C : Type 0} → (List ℕ → Option A) → (List ℕ → Option B) → (List ℕ → Option D) → (A → B → D → C) → List (List ℕ) → Option C
three_read first second third make (a ∷ b ∷ c ∷ []) =
    option_and_then (λ x. option_and_then (λ y. option_map (λ z. make x y z) (third c)) (second b)) (first a)
three_read first second third make _ = None

-- what is made of so many numbers
abbrev pub four_numbers : {C : Type 0} → (ℕ → ℕ → ℕ → ℕ → C) → List (List ℕ) → Option C
four_numbers make (a ∷ b ∷ c ∷ d ∷ []) =
    option_and_then (λ p. option_and_then (λ q. option_and_then (λ r. option_map (λ s. make p q r s) (number d)) (number c)) (number b)) (number a)
four_numbers make _ = None

abbrev pub five_numbers : {C : Type 0} → (ℕ → ℕ → ℕ → ℕ → ℕ → C) → List (List ℕ) → Option C
five_numbers make (first ∷ rest) = option_and_then (λ n. four_numbers (λ p q r s. make n p q r s) rest) (number first)
five_numbers make _ = None

abbrev pub seven_numbers : {C : Type 0} → (ℕ → ℕ → ℕ → ℕ → ℕ → ℕ → ℕ → C) → List (List ℕ) → Option C
seven_numbers make (a ∷ b ∷ c ∷ rest) =
    option_and_then (λ x. option_and_then (λ y. option_and_then (λ z. four_numbers (λ p q r s. make x y z p q r s) rest) (number c)) (number b)) (number a)
seven_numbers make _ = None

abbrev pub eight_numbers : {C : Type 0} → (ℕ → ℕ → ℕ → ℕ → ℕ → ℕ → ℕ → ℕ → C) → List (List ℕ) → Option C
eight_numbers make (first ∷ rest) = option_and_then (λ n. seven_numbers (λ a b c d e f g. make n a b c d e f g) rest) (number first)
eight_numbers make _ = None

-- the window with a number
abbrev pub window : ℕ → Win
window number = record { 0 = number }

-- the attribute set with a number
abbrev pub attributes : ℕ → Attrs
attributes number = record { 0 = number }

-- the cell of a character with attributes and no colours
abbrev pub plain_cell : ℕ → ℕ → CellView
plain_cell byte attrs = record { character = byte; attrs = attrs; pair = 0 }

-- the calls that have most fields
abbrev pub resize_read : List (List ℕ) → Option Call
resize_read fields = three_read number number number (λ w rows columns. ResizeWindow (window w) rows columns) fields

abbrev pub pad_read : List (List ℕ) → Option Call
pad_read fields = seven_numbers (λ w row column top left bottom right. PadNoutrefresh (window w) row column top left bottom right) fields

abbrev pub copy_read : List (List ℕ) → Option Call
copy_read fields =
    eight_numbers (λ source target row column top left bottom right. Copy (window source) (window target) row column top left bottom right false) fields

abbrev pub pair_read : List (List ℕ) → Option Call
pair_read fields = three_read number colour colour (λ pair foreground background. SetPairOf pair foreground background) fields

abbrev pub background_read : List (List ℕ) → Option Call
background_read fields = three_read number graphic (up_to 127) (λ w byte attrs. ChangeBackground (window w) (plain_cell byte attrs)) fields

-- names, each with what is made of the fields behind it
abbrev pub Names : Type 0 → Type 0
Names C = List (List ℕ × (List (List ℕ) → Option C))

-- what is made by a name; by another name, something else
abbrev pub by_name : {C : Type 0} → Names C → List ℕ → List (List ℕ) → Option C → Option C
by_name [] name fields other = other
by_name (row ∷ rows) name fields other = if bytes_eq name row.0 then row.1 fields else by_name rows name fields other

-- calls that copy to the virtual screen, and the update; in all of these lists the first number is that of a window where
-- it is called w, source or target
abbrev pub refreshes : Names Call
refreshes =
    (codes "refresh", one_read number (λ w. Noutrefresh (window w)))
    ∷ (codes "padrefresh", pad_read)
    ∷ (codes "update", none_read Doupdate)
    ∷ []

-- calls that set something
abbrev pub settings : Names Call
settings =
    (codes "at", three_read number number number (λ w row column. MoveCursor (window w) row column))
    ∷ (codes "attr", two_read number (up_to 127) (λ w attrs. AttrSet (window w) (attributes attrs)))
    ∷ (codes "color", two_read number number (λ w pair. ColorSet (window w) pair))
    ∷ (codes "pair", pair_read)
    ∷ (codes "scrollok", two_read number setting (λ w is_on. ScrollOk (window w) is_on))
    ∷ []

-- calls that copy from window to window
abbrev pub copies : Names Call
copies =
    (codes "copy", copy_read)
    ∷ (codes "overlay", two_read number number (λ source target. Overlay (window source) (window target)))
    ∷ (codes "overwrite", two_read number number (λ source target. Overwrite (window source) (window target)))
    ∷ []

-- calls that change cells
abbrev pub changes : Names Call
changes =
    (codes "byte", two_read number (up_to 255) (λ w byte. AddByte (window w) byte (attributes 0)))
    ∷ (codes "bkgd", background_read)
    ∷ (codes "erase", one_read number (λ w. Erase (window w)))
    ∷ (codes "clear", one_read number (λ w. Clear (window w)))
    ∷ (codes "lines", one_read number (λ w. BorderOf (window w) BOX))
    ∷ (codes "scroll", two_read number integer (λ w n. Scroll (window w) n))
    ∷ []

-- calls that make subwindows, or give windows another size
abbrev pub subwindows : Names Call
subwindows =
    (codes "sub", five_numbers (λ w rows columns row column. Sub (window w) rows columns row column))
    ∷ (codes "derive", five_numbers (λ w rows columns row column. Derive (window w) rows columns row column))
    ∷ (codes "subpad", five_numbers (λ w rows columns row column. SubPad (window w) rows columns row column))
    ∷ (codes "resize", resize_read)
    ∷ []

-- calls that make or delete windows, or touch their lines
abbrev pub windows : Names Call
windows =
    (codes "win", four_numbers (λ rows columns row column. NewWindow rows columns row column))
    ∷ (codes "pad", two_read number number (λ rows columns. NewPad rows columns))
    ∷ (codes "del", one_read number (λ w. Delete (window w)))
    ∷ (codes "touch", one_read number (λ w. TouchWindow (window w)))
    ∷ (codes "untouch", one_read number (λ w. Untouch (window w)))
    ∷ []

-- the call by a name with these fields, of each kind and those after it
unfoldable pub refresh_call : List ℕ → List (List ℕ) → Option Call
refresh_call name fields = by_name refreshes name fields None

unfoldable pub setting_call : List ℕ → List (List ℕ) → Option Call
setting_call name fields = by_name settings name fields (refresh_call name fields)

unfoldable pub copy_call : List ℕ → List (List ℕ) → Option Call
copy_call name fields = by_name copies name fields (setting_call name fields)

unfoldable pub change_call : List ℕ → List (List ℕ) → Option Call
change_call name fields = by_name changes name fields (copy_call name fields)

unfoldable pub subwindow_call : List ℕ → List (List ℕ) → Option Call
subwindow_call name fields = by_name subwindows name fields (change_call name fields)

unfoldable pub short_call : List ℕ → List (List ℕ) → Option Call
short_call name fields = by_name windows name fields (subwindow_call name fields)

-- `put`: a window, and all that is behind the blank after its number is a text
unfoldable pub text_call : Option (List ℕ) → Option Call
text_call text = option_and_then (λ parts. option_map (λ w. AddText (window w) parts.1) (number parts.0)) (field_and_text text)

-- the call of a line
unfoldable pub call_of : List ℕ → Option Call
call_of line =
    if bytes_eq (cut line).0 (codes "put") then text_call (cut line).1 else short_call (cut line).0 (fields_behind (cut line).1)
