-- Which entries make a profile, which profile, and why others do not. terminfo(5), 'Predefined Capabilities'.
use Rattle.std.specs.Prelude.{ℕ, ◌≡◌, ◌==◌, ◌&&◌, ◌||◌, Bool, true, false, not, nat_lt, nat_le, List, [], ◌∷◌, ◌++◌, map, Option, Some, None, option_and_then, option_map, Result, Ok, Err, if◌then◌else◌, ◌⊎◌}
use Rattle.std.specs.List.{list_any}
use Rattle.std.specs.Option.{is_some, is_none}
use Rattle.scr_cells.specs.declared.sizes.Size.{Size}
use Rattle.scr_cells.specs.PictureViews.{IsSize}
use Rattle.scr_cells.specs.declared.charsets.Charset.{Charset}
use Rattle.scr_cells.specs.declared.charsets.Charset.TheVariants.{Ascii}
use Rattle.ti_caps.specs.Bundled.{IsBundled}
use Rattle.ti_caps.specs.Description.{Description, flag_at, number_at, text_at}
use Rattle.ti_caps.specs.Table.{or_else}
use Rattle.ti_caps.specs.declared.table.Kind.{Kind}
use Rattle.ti_caps.specs.declared.table.Kind.TheVariants as kind
use Rattle.ti_caps.specs.declared.table.Slot.{Slot}
use Rattle.ti_caps.specs.declared.slots.TheConstants.{AM, XENL, HC, OS, GN, HZ, UL, XHP, XT, SAM, XMC, LINES, COLS, COLORS, PAIRS, NCV, MSGR, IN, DA, DB, SMDC}
use Rattle.ti_param.specs.Parsed.{parsed}
use Rattle.ti_param.specs.Stripped.{stripped}
use Rattle.ti_param.specs.Tree.{Tree, bound, depth}
use Rattle.scr_term.specs.declared.operations.capability.Capability.{Capability}
use Rattle.scr_term.specs.declared.operations.capability.Capability.TheVariants.{Clear, Cup, Il1, Il, Dl1, Dl, Ich, Dch1, Dch, Ind, Ri, Indn, Rin}
use Rattle.scr_term.specs.declared.operations.profile_faults.ProfileFault.{ProfileFault}
use Rattle.scr_term.specs.declared.operations.profile_faults.ProfileFault.TheVariants.{Unsuitable, AutoMargin, Missing, NoSize, BadSize, BadString, LongString, NoMemory}
use Rattle.scr_term.specs.Operations.Capabilities.{each_capability, each_spare, slot_of}
use Rattle.scr_term.specs.Operations.Profiles.{ProfileView}

-- ---- the profile

-- The text, if it is not empty.
abbrev pub some_text : List ℕ → Option (List ℕ)
some_text [] = None
some_text (byte ∷ bytes) = Some (byte ∷ bytes)

-- What the entry sends for the text at a position: the text without padding; none if nothing is left of it.
abbrev pub sent_at : Description → Slot → Option (List ℕ)
sent_at entry slot = option_and_then (λ text. some_text (stripped text)) (text_at entry slot.0)

-- The same for a capability.
abbrev pub sent_text : Description → Capability → Option (List ℕ)
sent_text entry capability = sent_at entry (slot_of capability)

-- The program of that text, if it is one: of the text at a position, and of a capability.
abbrev pub program_at : Description → Slot → Option Tree
program_at entry slot = option_and_then parsed (sent_at entry slot)

abbrev pub planned_program : Description → Capability → Option Tree
planned_program entry capability = program_at entry (slot_of capability)

-- A text of a spare capability is not used where what it moves could come back or be moved otherwise: lines, also those
-- that scroll, where the terminal keeps those that went off the screen (`da`, `db`), inserted characters where it tells
-- blanks that were written from others (`in`), deleted ones where a mode has to be entered first (`smdc`).
abbrev pub is_spoiled : Description → Capability → Bool
is_spoiled entry Il1 = flag_at entry DA.0 || flag_at entry DB.0
is_spoiled entry Il = flag_at entry DA.0 || flag_at entry DB.0
is_spoiled entry Dl1 = flag_at entry DA.0 || flag_at entry DB.0
is_spoiled entry Dl = flag_at entry DA.0 || flag_at entry DB.0
is_spoiled entry Ind = flag_at entry DA.0 || flag_at entry DB.0
is_spoiled entry Ri = flag_at entry DA.0 || flag_at entry DB.0
is_spoiled entry Indn = flag_at entry DA.0 || flag_at entry DB.0
is_spoiled entry Rin = flag_at entry DA.0 || flag_at entry DB.0
is_spoiled entry Ich = flag_at entry IN.0
is_spoiled entry Dch1 = is_some (sent_at entry SMDC)
is_spoiled entry Dch = is_some (sent_at entry SMDC)
is_spoiled entry _ = false

-- The program, if no run of it needs a stack of more than 20 or sends more than 1,024 bytes.
abbrev pub within_limits : Option Tree → Option Tree
within_limits None = None
within_limits (Some program) = if nat_le (depth program) 20 && nat_le (bound program) 1024 then Some program else None

-- The program of a text of a spare capability. A line feed (10) in it could become a carriage return too on its way.
abbrev pub program_without_line_feed : List ℕ → Option Tree
program_without_line_feed text = if list_any (λ byte. byte == 10) text then None else within_limits (parsed text)

-- The program of the text of this spare capability. Only `ind` may have a line feed, which is all of it on most
-- terminals; it is sent in the first column, where a carriage return more changes nothing.
abbrev pub used_program : Capability → List ℕ → Option Tree
used_program Ind text = within_limits (parsed text)
used_program _ text = program_without_line_feed text

-- The program of a spare capability: none where its text cannot be used.
abbrev pub spare_program : Description → Capability → Option Tree
spare_program entry capability =
    if is_spoiled entry capability then None else option_and_then (used_program capability) (sent_text entry capability)

-- The number is present and at least this.
abbrev pub is_at_least : ℕ → Option ℕ → Bool
is_at_least least None = false
is_at_least least (Some n) = nat_le least n

-- The number is 0 or absent.
abbrev pub is_zero_or_absent : Option ℕ → Bool
is_zero_or_absent None = true
is_zero_or_absent (Some n) = n == 0

-- The entry promises eight colours and 64 pairs, and every attribute can be shown with a colour.
abbrev pub has_palette : Description → Bool
has_palette entry = is_at_least 8 (number_at entry COLORS.0) && is_at_least 64 (number_at entry PAIRS.0) && is_zero_or_absent (number_at entry NCV.0)

-- The profile that the entry makes on a screen of this size that is sent these characters.
unfoldable pub admitted : Charset → Description → ℕ → ℕ → ProfileView
admitted charset entry rows columns = record {
  rows = rows;
  columns = columns;
  programs = map (planned_program entry) each_capability ++ map (spare_program entry) each_spare;
  msgr = flag_at entry MSGR.0;
  palette = has_palette entry;
  charset = charset;
}

-- ---- the refusals, in their order

-- The first element that passes the test.
abbrev pub first_where : {A : Type 0} → (A → Bool) → List A → Option A
first_where test [] = None
first_where test (x ∷ xs) = if test x then Some x else first_where test xs

-- The first option that has a value.
abbrev pub first_some : {A : Type 0} → List (Option A) → Option A
first_some [] = None
first_some (x ∷ xs) = or_else x (first_some xs)

-- The flag, number or text is present.
abbrev pub is_present : Description → Kind × Slot → Bool
is_present entry (kind.Flag, slot) = flag_at entry slot.0
is_present entry (kind.Number, slot) = is_some (number_at entry slot.0)
is_present entry (kind.Text, slot) = is_some (text_at entry slot.0)

-- The capabilities of printing and overstriking terminals, and of others that do not show each cell by itself.
abbrev pub unsuitable_capabilities : List (Kind × Slot)
unsuitable_capabilities =
    (kind.Flag, HC) ∷ (kind.Flag, OS) ∷ (kind.Flag, GN) ∷ (kind.Flag, HZ) ∷ (kind.Flag, UL) ∷ (kind.Flag, XHP) ∷ (kind.Flag, XT)
    ∷ (kind.Flag, SAM) ∷ (kind.Number, XMC) ∷ []

-- The text cannot be run: it is not a parameter string, or a run could overflow its stack of 20.
abbrev pub is_unreadable : Option Tree → Bool
is_unreadable None = true
is_unreadable (Some program) = nat_lt 20 (depth program)

-- The entry has a text at this position that cannot be run.
abbrev pub is_bad_at : Description → Slot → Bool
is_bad_at entry slot = is_some (sent_at entry slot) && is_unreadable (program_at entry slot)

-- The same for a capability.
abbrev pub is_bad_string : Description → Capability → Bool
is_bad_string entry capability = is_bad_at entry (slot_of capability)

-- The error of such a text.
abbrev pub bad_text : Description → Slot → Option ProfileFault
bad_text entry slot = if is_bad_at entry slot then Some (BadString (kind.Text, slot)) else None

-- Whether the text was read, or refused for the error that there is or because memory ran out.
abbrev pub IsJudged : {A : Type 0} → Option ProfileFault → Result A ProfileFault → Type 0
IsJudged refusal (Ok x) = refusal ≡ None
IsJudged refusal (Err fault) = (fault ≡ NoMemory) ⊎ (refusal ≡ Some fault)

-- A run of this program could send more than 1,024 bytes.
abbrev pub is_over_bound : Option Tree → Bool
is_over_bound None = false
is_over_bound (Some program) = nat_lt 1024 (bound program)

-- A run of this capability could send more than 1,024 bytes.
abbrev pub is_long_string : Description → Capability → Bool
is_long_string entry capability = is_over_bound (planned_program entry capability)

-- How errors name a capability.
abbrev pub named_text : Capability → Kind × Slot
named_text capability = (kind.Text, slot_of capability)

-- Both numbers, if both are there.
abbrev pub number_pair : Option ℕ → Option ℕ → Option (ℕ × ℕ)
number_pair (Some rows) (Some columns) = Some (rows, columns)
number_pair _ _ = None

-- The size of the screen: the one given, else the entry's.
abbrev pub screen_size : Description → Option Size → Option (ℕ × ℕ)
screen_size entry (Some size) = Some (size.rows, size.columns)
screen_size entry None = number_pair (number_at entry LINES.0) (number_at entry COLS.0)

-- A number of rows or columns that a screen may have.
abbrev pub is_screen_length : ℕ → Bool
is_screen_length n = nat_le 1 n && nat_le n 500

-- There is no size, or it is not from 1 to 500 rows and columns.
abbrev pub size_fault : Option (ℕ × ℕ) → Option ProfileFault
size_fault None = Some NoSize
size_fault (Some size) = if is_screen_length size.0 && is_screen_length size.1 then None else Some BadSize

-- The first unsuitable capability that the entry has.
abbrev pub unsuitable_fault : Description → Option ProfileFault
unsuitable_fault entry = option_map Unsuitable (first_where (is_present entry) unsuitable_capabilities)

-- The entry has `am` without `xenl`, so the cursor leaves a row as soon as its last column is written.
abbrev pub margin_fault : Description → Option ProfileFault
margin_fault entry = if flag_at entry AM.0 && not (flag_at entry XENL.0) then Some AutoMargin else None

-- The entry sends nothing for this capability.
abbrev pub is_missing : Description → Capability → Bool
is_missing entry capability = is_none (sent_text entry capability)

-- `cup` or `clear` is missing.
abbrev pub missing_fault : Description → Option ProfileFault
missing_fault entry = option_map (λ c. Missing (named_text c)) (first_where (is_missing entry) (Cup ∷ Clear ∷ []))

-- The first capability whose text cannot be run.
abbrev pub bad_fault : Description → Option ProfileFault
bad_fault entry = option_map (λ c. BadString (named_text c)) (first_where (is_bad_string entry) each_capability)

-- The first capability whose run could send too many bytes.
abbrev pub long_fault : Description → Option ProfileFault
long_fault entry = option_map (λ c. LongString (named_text c)) (first_where (is_long_string entry) each_capability)

-- Why an entry and a size make no profile, in order; the first that applies counts.
abbrev pub refusals : Description → Option Size → List (Option ProfileFault)
refusals entry size =
    unsuitable_fault entry ∷ margin_fault entry ∷ missing_fault entry ∷ size_fault (screen_size entry size) ∷ bad_fault entry ∷ long_fault entry ∷ []

-- The reason that counts, if there is one.
unfoldable pub refusal : Description → Option Size → Option ProfileFault
refusal entry size = first_some (refusals entry size)

-- The entry makes this profile on a screen of this size.
abbrev pub admitted_on : Charset → Description → Option (ℕ × ℕ) → ProfileView → Type 0
admitted_on charset entry None profile = ⊥
admitted_on charset entry (Some size) profile = profile ≡ admitted charset entry size.0 size.1

-- Nothing is against the entry, and this is its profile.
pub record IsAdmittedAs (charset : Charset) (entry : Description) (size : Option Size) (profile : ProfileView) : Type 0 where
  pub suits : refusal entry size ≡ None
  pub made : admitted_on charset entry (screen_size entry size) profile

-- The same for a terminal that has ASCII alone.
abbrev pub IsAdmitted : Description → Option Size → ProfileView → Type 0
IsAdmitted entry size profile = IsAdmittedAs Ascii entry size profile

-- The refusal is the first reason that applies, or memory ran out.
abbrev pub IsRefused : Description → Option Size → ProfileFault → Type 0
IsRefused entry size fault = (fault ≡ NoMemory) ⊎ (refusal entry size ≡ Some fault)

-- The entry is neither Unsuitable nor AutoMargin, which is decided before any allocation.
pub record IsSuitable (entry : Description) : Type 0 where
  pub suitable : unsuitable_fault entry ≡ None
  pub margin : margin_fault entry ≡ None

-- The entry sends something for `cup` and `clear`, and the screen has a size, from 1 to 500 rows and columns. This too is
-- decided before any allocation.
pub record IsEquipped (entry : Description) (size : Option Size) : Type 0 where
  pub texts : missing_fault entry ≡ None
  pub sized : size_fault (screen_size entry size) ≡ None

-- The profile of the bundled entry on a screen of some valid size.
pub record IsEcma48 (profile : ProfileView) : Type 0 where
  pub size : IsSize profile.rows profile.columns
  pub entry : Description
  pub bundled : IsBundled entry
  pub made : profile ≡ admitted profile.charset entry profile.rows profile.columns

-- The bundled entry makes this profile on a screen of this size, and nothing is against it.
abbrev pub IsBundledAdmitted : Size → ProfileView → Type 0
IsBundledAdmitted size profile = (entry : Description) × (IsBundled entry × IsAdmitted entry (Some size) profile)
