-- The lines that the demonstration prints, and the bytes that it sends instead in raw mode.
use Rattle.std.specs.Prelude.{ℕ, ◌≡◌, ◌+◌, ◌/◌, ◌%◌, ◌==◌, ◌&&◌, nat_lt, Bool, true, false, List, [], ◌∷◌, ◌++◌, codes, Option, Some, None, IfSome, if◌then◌else◌, encode_utf8}
use Rattle.std.specs.List.{flat_map, list_all}
use Rattle.std.specs.Option.{is_none}
use Rattle.std.specs.Fmt.{decimal}
use Rattle.std.specs.Io.KnownBytes.{Appends}
use Rattle.scr_cells.specs.declared.charsets.Charset.{Charset}
use Rattle.scr_cells.specs.LookViews.{LookView, negative_grid}
use Rattle.scr_cells.specs.PictureViews.{PictureView}
use Rattle.scr_term.specs.declared.operations.operation.Op.{Op}
use Rattle.scr_term.specs.declared.operations.operation.Spot.{Spot}
use Rattle.scr_term.specs.declared.operations.operation.Spot.TheVariants.{At, Margin}
use Rattle.scr_term.specs.Operations.Abilities.{Abilities, full_abilities}
use Rattle.scr_term.specs.Operations.Ecma48.{ecma48_profile}
use Rattle.scr_term.specs.Operations.Profiles.{ProfileView, abilities}
use Rattle.scr_term.specs.Operations.Painted.{painted}
use Rattle.scr_term.specs.Operations.States.{TerminalState, IsState}
use Rattle.scr_term.specs.Operations.Texts.{all_bytes}
use Rattle.scr_memory.specs.Memories.{MemoryView, all_followed, disturbed, unknown}
use Rattle.scr_plan.specs.Plans.{IsPlan}
use Rattle.scr_plan.specs.Scratch.{RunsToShow}
use Rattle.scr_keys.specs.declared.keys.Key.{Key}
use Rattle.scr_keys.specs.declared.keys.Key.TheVariants.{Slot, Byte}
use Rattle.ti_caps.specs.Table.{name_at}
use Rattle.ti_caps.specs.declared.table.Kind.TheVariants.{Text}
use Rattle.screen_scripts.specs.Stories.{Event, Refused, Marked, Shown, Pressed, size_of, story_of}

-- A hexadecimal digit, in lower case.
abbrev pub hexadecimal_digit : ℕ → ℕ
hexadecimal_digit n = if nat_lt n 10 then 48 + n else 87 + n

-- The attributes of a place as two hexadecimal digits.
abbrev pub attribute_digits : LookView → List ℕ
attribute_digits look = hexadecimal_digit (look.pen.attrs / 16) ∷ hexadecimal_digit (look.pen.attrs % 16) ∷ []

-- The characters of a row between two bars, in UTF-8.
abbrev pub character_line : List LookView → List ℕ
character_line looks = 124 ∷ flat_map (λ look. encode_utf8 look.character) looks ++ 124 ∷ 10 ∷ []

-- The attributes of a row between two colons; nothing if the row has none.
abbrev pub attribute_line : List LookView → List ℕ
attribute_line looks =
    if list_all (λ look. look.pen.attrs == 0) looks then [] else 58 ∷ flat_map attribute_digits looks ++ 58 ∷ 10 ∷ []

-- The digit of a colour, or a dash for the default.
abbrev pub colour_digit : Option ℕ → ℕ
colour_digit None = 45
colour_digit (Some colour) = 48 + colour

-- The foreground and background of a place.
abbrev pub colour_digits : LookView → List ℕ
colour_digits look = colour_digit look.pen.foreground ∷ colour_digit look.pen.background ∷ []

-- Both colours are the default ones.
abbrev pub has_default_colours : LookView → Bool
has_default_colours look = is_none look.pen.foreground && is_none look.pen.background

-- The colours of a row between two equals signs; nothing if all are the default ones.
abbrev pub colour_line : List LookView → List ℕ
colour_line looks = if list_all has_default_colours looks then [] else 61 ∷ flat_map colour_digits looks ++ 61 ∷ 10 ∷ []

-- The lines of one row.
abbrev pub row_lines : List LookView → List ℕ
row_lines looks = character_line looks ++ attribute_line looks ++ colour_line looks

-- The cursor's position.
abbrev pub cursor_line : Spot → List ℕ
cursor_line (At row column) = codes "cursor " ++ decimal row ++ 32 ∷ decimal column ++ 10 ∷ []
cursor_line (Margin row) = codes "cursor " ++ decimal row ++ codes " margin" ++ 10 ∷ []

-- A screen: its rows from the top, then the cursor.
abbrev pub screen_lines : List (List LookView) → Spot → List ℕ
screen_lines grid spot = flat_map row_lines grid ++ cursor_line spot

-- The line of a refused call, by its error's name.
abbrev pub refusal_line : List ℕ → List ℕ
refusal_line name = codes "refused " ++ name ++ 10 ∷ []

-- The name, or nothing.
abbrev pub name_or_none : Option (List ℕ) → List ℕ
name_or_none None = []
name_or_none (Some name) = name

-- A key's capability name, or the number of a byte that belongs to no key.
abbrev pub key_name : Key → List ℕ
key_name (Slot slot) = name_or_none (name_at Text slot)
key_name (Byte byte) = decimal byte

-- The line of a pressed key.
abbrev pub key_line : Key → List ℕ
key_line key = codes "key " ++ key_name key ++ 10 ∷ []

-- ---- what is printed

-- What the terminal of the bundled entry can show: every attribute, and colours.
abbrev pub abilities_for : Charset → PictureView → Abilities
abilities_for charset picture = full_abilities charset picture.rows picture.columns

-- The lines of a screen that shows the negative of the painted picture (reverse in place of standout), with the cursor
-- where the picture asks for it, if it does.
pub record IsScreenOf (charset : Charset) (picture : PictureView) (text : List ℕ) : Type 0 where
  pub spot : Spot
  pub wished : IfSome picture.wish (λ wish. spot ≡ At wish.0 wish.1)
  pub lines : text ≡ screen_lines (negative_grid (painted (abilities_for charset picture) picture)) spot

-- The lines printed for an event on a terminal with this charset; a mark prints none.
abbrev pub IsPrinted : Charset → Event → List ℕ → Type 0
IsPrinted charset (Refused name) text = text ≡ refusal_line name
IsPrinted charset (Marked first n) text = text ≡ []
IsPrinted charset (Shown virtual) text = IsScreenOf charset virtual.picture text
IsPrinted charset (Pressed key) text = text ≡ key_line key

-- The lines printed for several events, in order.
abbrev pub ArePrinted : Charset → List Event → List ℕ → Type 0
ArePrinted charset [] text = text ≡ []
ArePrinted charset (event ∷ events) text =
    (lines more : List ℕ) × (text ≡ lines ++ more) × IsPrinted charset event lines × ArePrinted charset events more

-- The line of an event that is a refusal; nothing for any other.
abbrev pub refused_event : Event → List ℕ
refused_event (Refused name) = refusal_line name
refused_event event = []

-- The lines of all refusals.
abbrev pub refusals_of : List Event → List ℕ
refusals_of events = flat_map refused_event events

-- ---- what is sent

-- The picture that an event shows, if it shows one.
abbrev pub shown_by : Event → List PictureView
shown_by (Shown virtual) = virtual.picture ∷ []
shown_by event = []

-- All pictures shown, in order.
abbrev pub pictures_of : List Event → List PictureView
pictures_of events = flat_map shown_by events

-- There is one update for each picture. From this state their operations are all defined, in order, and each update
-- leads to a state that shows its picture.
abbrev pub RunToShow : ProfileView → TerminalState → List (List Op) → List PictureView → Type 0
RunToShow profile state [] [] = Unit {0}
RunToShow profile state [] (picture ∷ pictures) = ⊥
RunToShow profile state (ops ∷ updates) [] = ⊥
RunToShow profile state (ops ∷ updates) (picture ∷ pictures) = (first : RunsToShow profile state ops picture) × RunToShow profile first.new updates pictures

-- There is one update for each virtual screen shown, and its operations are a plan for what is known of the terminal at
-- that point. A mark forgets its rows, and the terminal follows each update.
abbrev pub ArePlans : ProfileView → MemoryView → List Event → List (List Op) → MemoryView → Type 0
ArePlans profile memory [] [] last = last ≡ memory
ArePlans profile memory [] (ops ∷ updates) last = ⊥
ArePlans profile memory (Refused name ∷ events) updates last = ArePlans profile memory events updates last
ArePlans profile memory (Marked first n ∷ events) updates last = ArePlans profile (disturbed first n memory) events updates last
ArePlans profile memory (Shown virtual ∷ events) [] last = ⊥
ArePlans profile memory (Shown virtual ∷ events) (ops ∷ updates) last = IsPlan profile memory virtual ops × ArePlans profile (all_followed profile ops memory) events updates last
ArePlans profile memory (Pressed key ∷ events) updates last = ArePlans profile memory events updates last

-- The bytes of one update for each virtual screen shown. Each is a plan for what is known at that point, which is
-- nothing at first; where everything is known, an update sends no more than the joined repaint, unless a repaint was
-- requested. The updates show the pictures whatever state the terminal was in at first.
pub record AreSent (profile : ProfileView) (events : List Event) (text : List ℕ) : Type 0 where
  pub updates : List (List Op)
  pub bytes : text ≡ flat_map (all_bytes profile) updates
  -- What is known of the terminal after the last update.
  pub last : MemoryView
  pub plans : ArePlans profile (unknown profile.rows profile.columns) events updates last
  pub show : (state : TerminalState) → IsState (abilities profile) state → RunToShow profile state updates (pictures_of events)

-- ---- what a run writes

-- The output for these events: printed or, in raw mode, the bytes sent.
abbrev pub IsOutput : Bool → ProfileView → List Event → List ℕ → Type 0
IsOutput true profile events text = AreSent profile events text
IsOutput false profile events text = ArePrinted profile.charset events text

-- The profile of the bundled entry on a screen of the script's size, on a terminal with this charset.
abbrev pub profile_of : Charset → List ℕ → ProfileView
profile_of charset script = ecma48_profile charset (size_of script).0 (size_of script).1

-- The writer's text grew by an output for these events.
pub record Writes (charset : Charset) (raw : Bool) (script : List ℕ) (events : List Event) (old new : Option (List ℕ)) : Type 0 where
  pub text : List ℕ
  pub output : IsOutput raw (profile_of charset script) events text
  pub written : Appends old new text

-- The writer's text grew by a beginning of this text.
pub record GrewByBeginning (old new : Option (List ℕ)) (text : List ℕ) : Type 0 where
  pub beginning : List ℕ
  pub rest : List ℕ
  pub whole : text ≡ beginning ++ rest
  pub written : Appends old new beginning

-- The writer's text grew by a beginning of an output for the first events of the story.
pub record Begins (charset : Charset) (raw : Bool) (script : List ℕ) (old new : Option (List ℕ)) : Type 0 where
  pub first : List Event
  pub later : List Event
  pub story : (story_of script).events ≡ first ++ later
  pub text : List ℕ
  pub output : IsOutput raw (profile_of charset script) first text
  pub grew : GrewByBeginning old new text
