-- Entries with which more can be shown: with colours in place of the attributes that exclude them, and without the last
-- column where a character there would scroll (terminfo(5), 'Color Handling', 'Basic Capabilities').
use Rattle.std.specs.Prelude.{ℕ, ◌≡◌, ◌-◌, ◌==◌, ◌&&◌, Bool, true, false, not, nat_eq, nat_le, bit_and, List, [], ◌∷◌, codes, map, filter, Option, Some, None, is_some, unwrap_or, slice_set, if◌then◌else◌}
use Rattle.std.specs.List.{list_any, starts_with}
use Rattle.ti_caps.specs.Bundled.{IsBundled}
use Rattle.ti_caps.specs.Description.{Description, flag_at, number_at, text_at}
use Rattle.ti_caps.specs.Names.{first_name}
use Rattle.ti_caps.specs.Settings.{all_set}
use Rattle.ti_caps.specs.declared.slots.TheConstants.{AM, XENL, COLS, COLORS, PAIRS, NCV, BLINK, BOLD, DIM, INVIS, SMSO, SMUL, SGR0, SETAF, SETAB, OP, ICH1, ICH, DCH1, DCH, IL1, IL, DL1, DL, IND, RI, INDN, RIN}

-- The texts, those at these positions absent.
abbrev pub texts_without : List ℕ → List (Option (List ℕ)) → List (Option (List ℕ))
texts_without slots texts = all_set texts (map (λ slot. (slot, None)) slots)

-- ---- colours first

-- The number is there, and at least this.
abbrev pub is_number_from : ℕ → Option ℕ → Bool
is_number_from least None = false
is_number_from least (Some n) = nat_le least n

-- The entry has eight colours and 64 pairs, and the texts to set them and to make all default again.
abbrev pub can_colour : Description → Bool
can_colour d =
    is_number_from 8 (number_at d COLORS.0) && (is_number_from 64 (number_at d PAIRS.0)
    && (is_some (text_at d SETAF.0) && (is_some (text_at d SETAB.0) && (is_some (text_at d OP.0) && is_some (text_at d SGR0.0)))))

-- The attributes that cannot be shown beside colours, as the sum of their weights; none if `ncv` is absent.
abbrev pub excluded : Description → ℕ
excluded d = unwrap_or (number_at d NCV.0) 0

-- An attribute is among them.
abbrev pub is_excluded : ℕ → ℕ → Bool
is_excluded attributes weight = not (bit_and attributes weight == 0)

-- The weight of reverse.
abbrev pub reverse_weight : ℕ
reverse_weight = 4

-- The weights of the others that a screen has, and the positions of the texts that turn them on.
abbrev pub attribute_texts : List (ℕ × ℕ)
attribute_texts = (1, SMSO.0) ∷ (2, SMUL.0) ∷ (8, BLINK.0) ∷ (16, DIM.0) ∷ (32, BOLD.0) ∷ (64, INVIS.0) ∷ []

-- The positions of those among them that are excluded.
abbrev pub excluded_texts : ℕ → List (ℕ × ℕ) → List ℕ
excluded_texts attributes texts = map (λ text. text.1) (filter (λ text. is_excluded attributes text.0) texts)

-- The entry is of a terminal that shows every attribute beside colours, though its `ncv` says otherwise: PuTTY.
abbrev pub is_combining : Description → Bool
is_combining d = starts_with nat_eq (first_name d.names) (codes "putty")

-- The entry without `ncv`, and without the texts at these positions.
abbrev pub with_colours : List ℕ → Description → Description
with_colours slots d = record d { numbers = slice_set d.numbers NCV.0 None; texts = texts_without slots d.texts }

-- The entry, colours first. If they exclude reverse, nothing could be highlighted beside them: then it stays as it is,
-- unless the terminal shows every attribute.
unfoldable pub colours_first : Description → Description
colours_first d =
    if not (can_colour d) then d
    else if not (is_excluded (excluded d) reverse_weight) then with_colours (excluded_texts (excluded d) attribute_texts) d
    else if is_combining d then with_colours [] d
    else d

-- ---- without the last column

-- A character in the last column moves the cursor to the next row at once, and so scrolls the last row.
abbrev pub wraps_at_once : Description → Bool
wraps_at_once d = flag_at d AM.0 && not (flag_at d XENL.0)

-- One column less, if one is left.
abbrev pub one_less : Option ℕ → Option ℕ
one_less None = None
one_less (Some columns) = if nat_le 2 columns then Some (columns - 1) else None

-- The texts that move characters into the last column, or out of it.
abbrev pub texts_at_the_end : List ℕ
texts_at_the_end = DCH1.0 ∷ ICH1.0 ∷ DCH.0 ∷ ICH.0 ∷ []

-- The entry without its last column, if it wraps there at once: nothing that is sent then reaches it.
unfoldable pub without_last_column : Description → Description
without_last_column d =
    if wraps_at_once d
    then record d {
      flags = slice_set d.flags AM.0 false;
      numbers = slice_set d.numbers COLS.0 (one_less (number_at d COLS.0));
      texts = texts_without texts_at_the_end d.texts;
    }
    else d

-- ---- without moves

-- The texts that insert or delete lines or characters, or scroll.
abbrev pub moving_texts : List ℕ
moving_texts =
    IL1.0 ∷ IL.0 ∷ DL1.0 ∷ DL.0 ∷ ICH1.0 ∷ ICH.0 ∷ DCH1.0 ∷ DCH.0 ∷ IND.0 ∷ RI.0 ∷ INDN.0 ∷ RIN.0 ∷ []

-- The text at this position is one of them.
abbrev pub is_moving : ℕ → Bool
is_moving slot = list_any (λ s. s == slot) moving_texts

-- The entry without them, for a screen that is smaller than its terminal.
unfoldable pub without_moves : Description → Description
without_moves d = record d { texts = texts_without moving_texts d.texts }

-- These texts are absent then, and all others are as they were. The bundled entry has none of them.
pub record MovesAreLeftOut : Type 0 where
  pub flags : (d : Description) → (without_moves d).flags ≡ d.flags
  pub numbers : (d : Description) → (without_moves d).numbers ≡ d.numbers
  pub absent : (d : Description) (slot : ℕ) → is_moving slot ≡ true → text_at (without_moves d) slot ≡ None
  pub others : (d : Description) (slot : ℕ) → is_moving slot ≡ false → text_at (without_moves d) slot ≡ text_at d slot
  pub bundled : (d : Description) → IsBundled d → IsBundled (without_moves d)
