-- A screen of curses: its windows, what is to be shown, the terminal and its keys. X/Open Curses Issue 7, 'Screens,
-- Windows and Terminals'.
use Rattle.std.specs.Prelude.{ℕ, ◌≡◌, ◌≤◌, List, length, refl}
use Rattle.std.specs.Coded.{Coded, code_by, coded×, coded_ℕ, coded_list}
use Rattle.scr_virtual.specs.VirtualViews.{VirtualView}
use Rattle.scr_windows.specs.DeskViews.{DeskView}
use Rattle.scr_term.specs.declared.operations.operation.Op.{Op}
use Rattle.scr_term.specs.Operations.Profiles.{ProfileView, abilities}
use Rattle.scr_term.specs.Operations.Texts.{bytes_of}
use Rattle.scr_memory.specs.Memories.{MayBe, MemoryView}
use Rattle.scr_plan.specs.Repaints.{IsSizeOf, IsUpToDate}
use Rattle.scr_plan.specs.Scratch.{Fits}
use Rattle.scr_keys.specs.Readers.{ReaderView}

-- A screen: the windows; the virtual screen that they are copied to; the terminal's profile, and what is known of the
-- terminal; the bytes owed, which are the unsent rest of a text; the keyboard input; and the texts sent before the
-- first update and after the last.
pub record ScreenState : Type 0 where
  pub desk : DeskView
  pub virtual : VirtualView
  pub profile : ProfileView
  pub memory : MemoryView
  pub owed : List ℕ
  pub keys : ReaderView
  pub opening : List ℕ
  pub closing : List ℕ

-- What is known of the terminal has its size, is a possible state of it, and is up to date with the picture.
pub record IsRemembered (profile : ProfileView) (memory : MemoryView) (virtual : VirtualView) : Type 0 where
  pub fits : Fits profile virtual.picture
  pub size : IsSizeOf virtual.picture memory
  pub possible : MayBe (abilities profile) memory
  pub same : IsUpToDate profile memory virtual

-- Windows, virtual screen and terminal have one size. The remembered state is one that the terminal can be in; its
-- known rows show the picture, except in columns that may look different since the last successful update.
pub record IsScreen (screen : ScreenState) : Type 0 where
  pub desk_rows : screen.desk.rows ≡ screen.profile.rows
  pub desk_columns : screen.desk.columns ≡ screen.profile.columns
  pub memory : IsRemembered screen.profile screen.memory screen.virtual

-- `room` bytes are enough for the text of any operation.
abbrev pub HasRoom : ProfileView → ℕ → Type 0
HasRoom profile room = (op : Op) → length (bytes_of profile op) ≤ room

-- They are also enough for the opening and the closing text, each of at most 2,048 bytes.
pub record HasTextRoom (opening closing : List ℕ) (room : ℕ) : Type 0 where
  pub opening_room : length opening ≤ room
  pub closing_room : length closing ≤ room
  pub opening_short : length opening ≤ 2048
  pub closing_short : length closing ≤ 2048

-- A screen is stored as its fields, side by side.
abbrev pub screen_code : Coded DeskView → Coded VirtualView → Coded ProfileView → Coded MemoryView → Coded ReaderView → Coded ScreenState
screen_code desk virtual profile memory keys =
    code_by (DeskView × (VirtualView × (ProfileView × (MemoryView × (List ℕ × (ReaderView × (List ℕ × List ℕ)))))))
    (coded× desk (coded× virtual (coded× profile (coded× memory (coded× (coded_list coded_ℕ) (coded× keys (coded× (coded_list coded_ℕ) (coded_list coded_ℕ))))))))
    (λ s. (s.desk, (s.virtual, (s.profile, (s.memory, (s.owed, (s.keys, (s.opening, s.closing))))))))
    (λ t. record { desk = t.0; virtual = t.1.0; profile = t.1.1.0; memory = t.1.1.1.0; owed = t.1.1.1.1.0; keys = t.1.1.1.1.1.0; opening = t.1.1.1.1.1.1.0; closing = t.1.1.1.1.1.1.1 }) (λ _. refl)
