-- A screen as it is opened.
use Rattle.std.specs.Prelude.{ℕ, ◌≡◌, List, []}
use Rattle.ti_caps.specs.Description.{Description}
use Rattle.scr_term.specs.Operations.Profiles.{ProfileView}
use Rattle.scr_windows.specs.DeskViews.{first_desk}
use Rattle.scr_virtual.specs.VirtualViews.{blank_virtual}
use Rattle.scr_memory.specs.Memories.{unknown}
use Rattle.scr_keys.specs.Readers.{ReaderView}
use Rattle.scr_keys.specs.declared.sets.KeySet.{KeySet}
use Rattle.scr_keys.specs.Tables.{AreKeysOf}
use Rattle.curses.specs.ScreenStates.{ScreenState}

-- a screen on the terminal of a profile, with a keyboard, and its opening and its closing text
abbrev pub first_screen : ProfileView → ReaderView → List ℕ → List ℕ → ScreenState
first_screen profile keys opening closing = record {
  desk = first_desk profile.rows profile.columns;
  virtual = blank_virtual profile.rows profile.columns;
  profile = profile;
  memory = unknown profile.rows profile.columns;
  owed = [];
  keys = keys;
  opening = opening;
  closing = closing;
}

-- a reader of these keys of an entry, which has read nothing
pub record IsReaderOf (set : KeySet) (entry : Description) (reader : ReaderView) : Type 0 where
  pub keys : AreKeysOf set entry reader.keys
  pub queue : reader.queue ≡ []
  pub waiting : reader.waiting ≡ []
