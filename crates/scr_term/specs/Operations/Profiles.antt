-- What is known of a terminal from its terminfo entry and its size. terminfo(5), 'Capabilities'.
use Rattle.std.specs.Prelude.{ℕ, ◌≡◌, ◌≤◌, ◌==◌, ◌&&◌, Bool, true, List, [], ◌∷◌, All, length, filter, bit_or, Option, None, IfSome, slice_index_or, if◌then◌else◌}
use Rattle.std.specs.Option.{is_some}
use Rattle.scr_cells.specs.Attributes.{all_attributes, standout, underline, reverse, blink, dim, bold}
use Rattle.scr_cells.specs.PictureViews.{IsSize}
use Rattle.scr_cells.specs.declared.charsets.Charset.{Charset}
use Rattle.ti_param.specs.Tree.{Tree, bound, depth}
use Rattle.scr_term.specs.declared.operations.capability.Capability.{Capability}
use Rattle.scr_term.specs.declared.operations.capability.Capability.TheVariants.{Clear, Cup, Blink, Bold, Dim, Invis, Rev, Smso, Smul, Sgr0, Op, Setaf, Setab}
use Rattle.scr_term.specs.Operations.Abilities.{Abilities}
use Rattle.scr_term.specs.Operations.Capabilities.{ordinal}

-- A profile: the size of the screen; for each capability that operations send, the program of its text, or none;
-- whether the cursor may be moved while an attribute or a colour is on (`msgr`); whether the entry promises eight
-- colours and 64 pairs; and the characters that it is sent.
pub record ProfileView : Type 0 where
  pub rows : ℕ
  pub columns : ℕ
  pub programs : List (Option Tree)
  pub msgr : Bool
  pub palette : Bool
  pub charset : Charset

-- The program of a capability, if there is one.
abbrev pub program_of : ProfileView → Capability → Option Tree
program_of profile capability = slice_index_or profile.programs (ordinal capability) None

-- The capability is there.
abbrev pub is_there : ProfileView → Capability → Bool
is_there profile capability = is_some (program_of profile capability)

-- The capability that turns on an attribute.
abbrev pub entering : ℕ → Capability
entering attribute = if attribute == standout then Smso else
    (if attribute == underline then Smul else
    (if attribute == reverse then Rev else
    (if attribute == blink then Blink else
    (if attribute == dim then Dim else
    (if attribute == bold then Bold else Invis)))))

-- The attribute is shown: it can be turned on, and all attributes can be turned off.
abbrev pub is_shown : ProfileView → ℕ → Bool
is_shown profile attribute = is_there profile Sgr0 && is_there profile (entering attribute)

-- The set with these attributes.
abbrev pub set_of : List ℕ → ℕ
set_of [] = 0
set_of (attribute ∷ attributes) = bit_or attribute (set_of attributes)

-- All attributes that are shown.
unfoldable pub shown_set : ProfileView → ℕ
shown_set profile = set_of (filter (is_shown profile) all_attributes)

-- Colours are shown: the entry promises them, and foreground and background can be set and made default again.
unfoldable pub has_colours : ProfileView → Bool
has_colours profile = profile.palette && is_there profile Sgr0 && is_there profile Op && is_there profile Setaf && is_there profile Setab

-- What the profile's screen can show.
abbrev pub abilities : ProfileView → Abilities
abilities profile = record {
  rows = profile.rows;
  columns = profile.columns;
  charset = profile.charset;
  shown = shown_set profile;
  colours = has_colours profile;
}

-- No run needs a stack of more than 20, and none sends more than 1,024 bytes.
pub record IsPlanned (program : Tree) : Type 0 where
  pub depth : depth program ≤ 20
  pub bound : bound program ≤ 1024

-- A valid profile: a valid size, a place for each capability, programs with bounded runs, and at least `cup` and
-- `clear`.
pub record IsProfile (profile : ProfileView) : Type 0 where
  pub size : IsSize profile.rows profile.columns
  pub whole : length profile.programs ≡ 41
  pub programs : All (λ program. IfSome program IsPlanned) profile.programs
  pub cup : is_there profile Cup ≡ true
  pub clear : is_there profile Clear ≡ true
