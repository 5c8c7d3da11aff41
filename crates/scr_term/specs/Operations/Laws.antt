-- The laws of operations, of runs and of their bytes.
use Rattle.std.specs.Prelude.{ℕ, ◌≡◌, ◌++◌, ◌<◌, Bool, true, false, List, All, Some, option_and_then, bit_and, encode_utf8, length, ◌≤◌}
use Rattle.scr_cells.specs.Attributes.{every_attribute}
use Rattle.scr_cells.specs.Characters.{IsAscii, IsCharacter, seen_character}
use Rattle.scr_cells.specs.Grids.{IsGrid, grid_at, grid_filled, grid_of, grid_with, places_left, places_right, rows_down, rows_up}
use Rattle.scr_cells.specs.LookViews.{IsLook, LookView, blank, blank_grid}
use Rattle.scr_cells.specs.PenViews.{IsPen, PenView, plain_pen, with_attribute}
use Rattle.scr_cells.specs.declared.attributes.Attrs.{Attrs}
use Rattle.scr_term.specs.declared.operations.capability.Capability.TheVariants.{Sgr0}
use Rattle.scr_term.specs.Operations.Abilities.{Abilities, AreAbilities}
use Rattle.scr_term.specs.Operations.Admission.{IsEcma48}
use Rattle.scr_term.specs.Operations.Profiles.{ProfileView, IsProfile, abilities, has_colours, is_there, shown_set}
use Rattle.scr_term.specs.Operations.States.{TerminalState, IsShownPen, IsState, blank_state, character_written, negative_state}
use Rattle.scr_term.specs.Operations.Steps.{act, step, runs}
use Rattle.scr_term.specs.Operations.Texts.{has, is_attribute, bytes_of, all_bytes, put_of}
use Rattle.scr_term.specs.Ecma.Meanings.{Leads}
use Rattle.scr_term.specs.declared.operations.operation.Op.{Op}
use Rattle.scr_term.specs.declared.operations.operation.Op.TheVariants.{Move, Clear, Reset, Enter, Set, Fore, Back, Put}

-- On the bundled entry, the bytes of an operation do to the negative of a state what the operation does to the state.
abbrev pub BytesActAsTheirOperation : Type 0
BytesActAsTheirOperation =
    (profile : ProfileView) → IsEcma48 profile
    → (old new : TerminalState) → IsState (abilities profile) old
    → (op : Op) → step profile old op ≡ Some new
    → Leads profile.charset profile.rows profile.columns (negative_state old) (bytes_of profile op) (negative_state new)

-- The same for the bytes of several operations, one after another.
abbrev pub BytesActAsTheirOperations : Type 0
BytesActAsTheirOperations =
    (profile : ProfileView) → IsEcma48 profile
    → (old new : TerminalState) → IsState (abilities profile) old
    → (ops : List Op) → runs profile old ops ≡ Some new
    → Leads profile.charset profile.rows profile.columns (negative_state old) (all_bytes profile ops) (negative_state new)

-- An operation leads from a state of the profile to a state of the profile.
abbrev pub StepsKeepStates : Type 0
StepsKeepStates =
    (profile : ProfileView) → IsProfile profile
    → (old new : TerminalState) → IsState (abilities profile) old
    → (op : Op) → step profile old op ≡ Some new
    → IsState (abilities profile) new

-- A run of two lists is the second run after the first, also where the first is undefined; their bytes are joined
-- likewise. A run leads from a state of the profile to one, and only has operations that the profile has. What writes
-- the shown form of a character has a byte at least.
pub record RunLaws : Type 0 where
  pub after : (profile : ProfileView) (old : TerminalState) (ops more : List Op) → runs profile old (ops ++ more) ≡ option_and_then (λ next. runs profile next more) (runs profile old ops)
  pub joined : (profile : ProfileView) (old next : TerminalState) (ops more : List Op) → runs profile old ops ≡ Some next → runs profile old (ops ++ more) ≡ runs profile next more
  pub bytes : (profile : ProfileView) (ops more : List Op) → all_bytes profile (ops ++ more) ≡ all_bytes profile ops ++ all_bytes profile more
  pub kept : (profile : ProfileView) → IsProfile profile → (old new : TerminalState) → IsState (abilities profile) old
      → (ops : List Op) → runs profile old ops ≡ Some new → IsState (abilities profile) new
  pub had : (profile : ProfileView) (old new : TerminalState) (ops : List Op) → runs profile old ops ≡ Some new → All (λ op. has profile op ≡ true) ops
  pub some : (profile : ProfileView) (code : ℕ) → 1 ≤ length (bytes_of profile (put_of (seen_character profile.charset code)))

-- A blank screen is a state of each profile, and its own negative.
pub record BlankLaws : Type 0 where
  pub state : (profile : ProfileView) → IsProfile profile → IsState (abilities profile) (blank_state profile.rows profile.columns)
  pub negative : (rows columns : ℕ) → negative_state (blank_state rows columns) ≡ blank_state rows columns

-- A profile can write the shown form of each character.
unfoldable pub WritesSeen : ProfileView → Type 0
WritesSeen profile = (code : ℕ) → IsCharacter code → has profile (put_of (seen_character profile.charset code)) ≡ true

-- What can be relied on: a profile can move the cursor everywhere, clear the screen and write each character of ASCII,
-- and the shown form of another, each in UTF-8. It can turn on each attribute and set each colour that it shows, and
-- reset them; without `sgr0` it shows none.
pub record HasLaws (profile : ProfileView) : Type 0 where
  pub can_show : AreAbilities (abilities profile)
  pub move : (r c : ℕ) → r < profile.rows → c < profile.columns → has profile (Move r c) ≡ true
  pub clear : has profile Clear ≡ true
  pub put : (byte : ℕ) → IsAscii byte → has profile (Put byte) ≡ true
  pub seen : WritesSeen profile
  pub put_acts : (state : TerminalState) (code : ℕ) → act profile state (put_of code) ≡ character_written profile.columns state code
  pub put_bytes : (code : ℕ) → has profile (put_of code) ≡ true → bytes_of profile (put_of code) ≡ encode_utf8 code
  pub reset : is_there profile Sgr0 ≡ true → has profile Reset ≡ true
  pub enter : (a : ℕ) → is_attribute a ≡ true → bit_and (shown_set profile) a ≡ a → has profile (Enter (record { 0 = a })) ≡ true
  pub fore : (n : ℕ) → n < 8 → has_colours profile ≡ true → has profile (Fore n) ≡ true
  pub back : (n : ℕ) → n < 8 → has_colours profile ≡ true → has profile (Back n) ≡ true
  pub plain_set : is_there profile Sgr0 ≡ false → shown_set profile ≡ 0
  pub plain_colours : is_there profile Sgr0 ≡ false → has_colours profile ≡ false

-- The same for every profile.
abbrev pub ProfilesHave : Type 0
ProfilesHave = (profile : ProfileView) → IsProfile profile → HasLaws profile

-- Grids of looks: a blank grid is one, and it stays one where a place changes, places become blank, or rows and places
-- move.
pub record LookGridLaws : Type 0 where
  pub blank_size : (rows columns : ℕ) → IsGrid rows columns (blank_grid rows columns)
  pub blank_looks : (rows columns : ℕ) → All (All IsLook) (blank_grid rows columns)
  pub put_size : (rows columns : ℕ) (lines : List (List LookView)) (r c : ℕ) (look : LookView) → IsGrid rows columns lines → IsGrid rows columns (grid_with lines r c look)
  pub put_looks : (rows columns : ℕ) (lines : List (List LookView)) (r c : ℕ) (look : LookView) → IsGrid rows columns lines → r < rows → IsLook look → All (All IsLook) lines
      → All (All IsLook) (grid_with lines r c look)
  pub formed_looks : (rows columns : ℕ) (f : ℕ → ℕ → LookView) → ((r c : ℕ) → IsLook (f r c)) → All (All IsLook) (grid_of rows columns f)
  pub filled_looks : (rows columns : ℕ) (inside : ℕ → ℕ → Bool) (lines : List (List LookView)) → All (All IsLook) lines
      → All (All IsLook) (grid_filled rows columns inside (λ _ _. blank) (grid_at blank lines))
  pub up_looks : (first end n : ℕ) (lines : List (List LookView)) → All (All IsLook) lines → (r c : ℕ) → IsLook (rows_up first end n blank (grid_at blank lines) r c)
  pub down_looks : (first end n : ℕ) (lines : List (List LookView)) → All (All IsLook) lines → (r c : ℕ) → IsLook (rows_down first end n blank (grid_at blank lines) r c)
  pub left_looks : (row from end n : ℕ) (lines : List (List LookView)) → All (All IsLook) lines → (r c : ℕ) → IsLook (places_left row from end n blank (grid_at blank lines) r c)
  pub right_looks : (row from end n : ℕ) (lines : List (List LookView)) → All (All IsLook) lines → (r c : ℕ) → IsLook (places_right row from end n blank (grid_at blank lines) r c)

-- Pens that are shown: the plain one, with attributes that are shown, and with one more of them; each is a pen. A
-- profile turns on attributes that it knows.
pub record ShownPenLaws : Type 0 where
  pub plain : (abilities : Abilities) → IsShownPen abilities plain_pen
  pub set : (abilities : Abilities) (set : ℕ) → bit_and abilities.shown set ≡ set → IsShownPen abilities (record plain_pen { attrs = set })
  pub more : (abilities : Abilities) (pen : PenView) (a : ℕ) → IsShownPen abilities pen → bit_and abilities.shown a ≡ a → IsShownPen abilities (with_attribute pen a)
  pub pen : (abilities : Abilities) → bit_and every_attribute abilities.shown ≡ abilities.shown → (pen : PenView) → IsShownPen abilities pen → IsPen pen
  pub entered : (profile : ProfileView) (a : Attrs) → has profile (Enter a) ≡ true → bit_and every_attribute a.0 ≡ a.0
  pub chosen : (profile : ProfileView) (a : Attrs) → has profile (Set a) ≡ true → bit_and every_attribute a.0 ≡ a.0
