-- What each operation sends: a character, or the texts of capabilities with their parameters. terminfo(5), 'Basic
-- Capabilities', 'Cursor Motions', 'Area Clears', 'Scrolling', 'Highlighting', 'Color Handling' and 'Miscellaneous'.
use Rattle.std.specs.Prelude.{ℕ, ◌==◌, ◌&&◌, Bool, true, false, nat_lt, nat_le, ℤ, pos, List, [], ◌∷◌, ◌++◌, map, take, replicate, Option, Some, None, bit_and, encode_utf8, if◌then◌else◌}
use Rattle.std.specs.List.{flat_map, list_any}
use Rattle.scr_cells.specs.Attributes.{all_attributes, standout, underline, reverse, blink, dim, bold, invis}
use Rattle.scr_cells.specs.Characters.{is_ascii, is_beyond_ascii, is_utf8}
use Rattle.ti_param.specs.States.{Outcome}
use Rattle.ti_param.specs.Tree.{Tree, start, value}
use Rattle.scr_term.specs.declared.operations.capability.Capability.{Capability}
use Rattle.scr_term.specs.declared.operations.capability.Capability.TheVariants as capability
use Rattle.scr_term.specs.declared.operations.operation.Op.{Op}
use Rattle.scr_term.specs.declared.operations.operation.Op.TheVariants.{Home, Move, Column, Line, Up, Down, Left, Right, UpBy, DownBy, LeftBy, RightBy, Return, Clear, EraseLine, EraseBelow, EraseChars, InsertLines, DeleteLines, InsertChars, DeleteChars, ScrollUp, ScrollDown, Reset, ExitAttributes, Enter, Set, Fore, Back, Put, Write, Repeat}
use Rattle.scr_term.specs.Operations.Pieces.{Piece, Character, Spelled, Text}
use Rattle.scr_term.specs.Operations.Profiles.{ProfileView, entering, has_colours, is_shown, is_there, program_of, shown_set}

-- What writes a character: it is put as a byte if it is one of ASCII.
unfoldable pub put_of : ℕ → Op
put_of code = if nat_lt code 128 then Put code else Write code

-- The nine parameters of a text: these first, and zeros after them.
abbrev pub nine : List ℤ → List ℤ
nine first = take 9 (first ++ replicate 9 (pos 0))

-- The text of a capability without parameters.
abbrev pub text : Capability → Piece
text capability = Text capability (nine [])

-- The text of a capability with one number.
abbrev pub text_of_one : Capability → ℕ → Piece
text_of_one capability n = Text capability (nine (pos n ∷ []))

-- The text of a capability with two numbers.
abbrev pub text_of_two : Capability → ℕ → ℕ → Piece
text_of_two capability n m = Text capability (nine (pos n ∷ pos m ∷ []))

-- A text for one place or line, if the terminal has one; otherwise that for a number of them.
abbrev pub motion : ProfileView → Capability → Capability → ℕ → Piece
motion profile one many n = if n == 1 && is_there profile one then text one else text_of_one many n

-- 1 for an attribute in the set, 0 for another.
abbrev pub one_if_in : ℕ → ℕ → ℤ
one_if_in set attribute = if bit_and set attribute == attribute then pos 1 else pos 0

-- The parameters of `sgr`: one for each attribute in its order; protected and alternate characters are never asked for.
abbrev pub renditions_of : ℕ → List ℤ
renditions_of set = nine (map (one_if_in set) (standout ∷ underline ∷ reverse ∷ blink ∷ dim ∷ bold ∷ invis ∷ []))

-- What an operation sends, or sends first.
abbrev pub first_piece : ProfileView → Op → Piece
first_piece profile Home = text capability.Home
first_piece profile (Move r c) = text_of_two capability.Cup r c
first_piece profile (Column c) = text_of_one capability.Hpa c
first_piece profile (Line r) = text_of_one capability.Vpa r
first_piece profile (Up n) = motion profile capability.Cuu1 capability.Cuu n
first_piece profile (Down n) = motion profile capability.Cud1 capability.Cud n
first_piece profile (Left n) = motion profile capability.Cub1 capability.Cub n
first_piece profile (Right n) = motion profile capability.Cuf1 capability.Cuf n
first_piece profile (UpBy n) = text_of_one capability.Cuu n
first_piece profile (DownBy n) = text_of_one capability.Cud n
first_piece profile (LeftBy n) = text_of_one capability.Cub n
first_piece profile (RightBy n) = text_of_one capability.Cuf n
first_piece profile Return = text capability.Cr
first_piece profile Clear = text capability.Clear
first_piece profile EraseLine = text capability.El
first_piece profile EraseBelow = text capability.Ed
first_piece profile (EraseChars n) = text_of_one capability.Ech n
first_piece profile (InsertLines n) = motion profile capability.Il1 capability.Il n
first_piece profile (DeleteLines n) = motion profile capability.Dl1 capability.Dl n
first_piece profile (InsertChars n) = text_of_one capability.Ich n
first_piece profile (DeleteChars n) = motion profile capability.Dch1 capability.Dch n
first_piece profile (ScrollUp n) = motion profile capability.Ind capability.Indn n
first_piece profile (ScrollDown n) = motion profile capability.Ri capability.Rin n
first_piece profile Reset = text capability.Sgr0
first_piece profile ExitAttributes = text capability.Sgr0
first_piece profile (Enter a) = text (entering a.0)
first_piece profile (Set a) = Text capability.Sgr (renditions_of a.0)
first_piece profile (Fore n) = text_of_one capability.Setaf n
first_piece profile (Back n) = text_of_one capability.Setab n
first_piece profile (Put byte) = Character byte
first_piece profile (Write code) = Spelled code
first_piece profile (Repeat byte n) = text_of_two capability.Rep byte n

-- After these operations the colours are the default ones.
abbrev pub resets_colours : Op → Bool
resets_colours Reset = true
resets_colours (Set a) = true
resets_colours _ = false

-- Everything that an operation sends. Where there are colours, `op` follows an operation that resets them.
abbrev pub pieces : ProfileView → Op → List Piece
pieces profile op =
    first_piece profile op ∷ (if resets_colours op && has_colours profile then text capability.Op ∷ [] else [])

-- The terminal has the text of this piece, or is sent UTF-8; every character of ASCII is sent.
abbrev pub is_sendable : ProfileView → Piece → Bool
is_sendable profile (Character byte) = true
is_sendable profile (Spelled code) = is_utf8 profile.charset
is_sendable profile (Text capability parameters) = is_there profile capability

-- The numbers by which the cursor can be moved and lines scroll, and of lines and characters that are erased, inserted
-- or deleted: 1 to 500.
abbrev pub is_count : ℕ → Bool
is_count n = nat_le 1 n && nat_le n 500

-- How often a character can be repeated: 2 to 500 times. Texts that say how often it follows itself would say 0 for
-- once, which many terminals take for 1.
abbrev pub is_repetition : ℕ → Bool
is_repetition n = nat_le 2 n && nat_le n 500

-- The set has exactly one attribute.
abbrev pub is_attribute : ℕ → Bool
is_attribute set = list_any (λ a. a == set) all_attributes

-- The colour is one of the eight, and the terminal shows colours.
abbrev pub is_shown_colour : ProfileView → ℕ → Bool
is_shown_colour profile n = nat_lt n 8 && has_colours profile

-- The operation's numbers are within the screen, its attributes and colours are shown, and its byte is a character of
-- ASCII, or its character one above that, if the terminal is sent such.
abbrev pub is_within : ProfileView → Op → Bool
is_within profile (Move r c) = nat_lt r profile.rows && nat_lt c profile.columns
is_within profile (Column c) = nat_lt c profile.columns
is_within profile (Line r) = nat_lt r profile.rows
is_within profile (Up n) = is_count n
is_within profile (Down n) = is_count n
is_within profile (Left n) = is_count n
is_within profile (Right n) = is_count n
is_within profile (UpBy n) = is_count n
is_within profile (DownBy n) = is_count n
is_within profile (LeftBy n) = is_count n
is_within profile (RightBy n) = is_count n
is_within profile (EraseChars n) = is_count n
is_within profile (InsertLines n) = is_count n
is_within profile (DeleteLines n) = is_count n
is_within profile (InsertChars n) = is_count n
is_within profile (DeleteChars n) = is_count n
is_within profile (ScrollUp n) = is_count n
is_within profile (ScrollDown n) = is_count n
is_within profile (Enter a) = is_attribute a.0 && is_shown profile a.0
is_within profile (Set a) = bit_and (shown_set profile) a.0 == a.0
is_within profile (Fore n) = is_shown_colour profile n
is_within profile (Back n) = is_shown_colour profile n
is_within profile (Put byte) = is_ascii byte
is_within profile (Write code) = is_utf8 profile.charset && is_beyond_ascii code
is_within profile (Repeat byte n) = is_ascii byte && is_repetition n
is_within profile Home = true
is_within profile Return = true
is_within profile Clear = true
is_within profile EraseLine = true
is_within profile EraseBelow = true
is_within profile Reset = true
is_within profile ExitAttributes = true

-- The profile has the operation: it is within these limits, and the terminal has the text.
unfoldable pub has : ProfileView → Op → Bool
has profile op = is_within profile op && is_sendable profile (first_piece profile op)

-- The bytes of an outcome.
abbrev pub bytes_in : Outcome → List ℕ
bytes_in None = []
bytes_in (Some r) = r.0

-- What a program sends for these parameters when all static variables are 0.
abbrev pub written : Option Tree → List ℤ → List ℕ
written None parameters = []
written (Some program) parameters = bytes_in (value program (start parameters (replicate 26 (pos 0))))

-- The bytes of a piece. There are none for a text that the terminal does not have, nor for what is spelled in UTF-8 where
-- it is not sent such.
abbrev pub piece_bytes : ProfileView → Piece → List ℕ
piece_bytes profile (Character byte) = byte ∷ []
piece_bytes profile (Spelled code) = if is_utf8 profile.charset then encode_utf8 code else []
piece_bytes profile (Text capability parameters) = written (program_of profile capability) parameters

-- The bytes that are sent for an operation.
unfoldable pub bytes_of : ProfileView → Op → List ℕ
bytes_of profile op = flat_map (piece_bytes profile) (pieces profile op)

-- The bytes of several operations, one after another.
abbrev pub all_bytes : ProfileView → List Op → List ℕ
all_bytes profile ops = flat_map (bytes_of profile) ops
