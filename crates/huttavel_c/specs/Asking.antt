-- The functions of the C library: each is one call on the screen that the handle holds.
use Rattle.std.specs.Prelude.{◌≡◌, ◌⊎◌, Option, Some, None, Result, IsOk, MatchOption}
use Rattle.scr_keys.specs.Readers.{ReaderView}
use Rattle.scr_memory.specs.Memories.{MemoryView}
use Rattle.scr_virtual.specs.VirtualViews.{VirtualView}
use Rattle.scr_windows.specs.DeskViews.{DeskView}
use Rattle.curses.specs.ScreenStates.{ScreenState}
use Rattle.huttavel_c.specs.declared.sessions.Described.{Described}
use Rattle.huttavel_c.specs.declared.sessions.Kept.{Kept}
use Rattle.huttavel_c.specs.declared.sessions.Kept.TheVariants.{Entry, Screen}
use Rattle.huttavel_c.specs.declared.sessions.Session.{Session}

-- A call on a screen gives the screen after it, and an answer. It changes the windows alone;
abbrev pub on_windows : {A : Type 0} → ScreenState → DeskView × A → ScreenState × A
on_windows screen call = (record screen { desk = call.0 }, call.1)

-- the virtual screen alone;
abbrev pub on_virtual : {A : Type 0} → ScreenState → VirtualView × A → ScreenState × A
on_virtual screen call = (record screen { virtual = call.0 }, call.1)

-- the virtual screen and the windows;
abbrev pub on_both : {A : Type 0} → ScreenState → (VirtualView × DeskView) × A → ScreenState × A
on_both screen call = (record screen { virtual = call.0.0; desk = call.0.1 }, call.1)

-- the virtual screen and what is known of the terminal;
abbrev pub on_terminal : {A : Type 0} → ScreenState → VirtualView × A → MemoryView → ScreenState × A
on_terminal screen call memory = (record screen { virtual = call.0; memory = memory }, call.1)

-- the keys alone;
abbrev pub on_keys : {A : Type 0} → ScreenState → ReaderView × A → ScreenState × A
on_keys screen call = (record screen { keys = call.0 }, call.1)

-- or nothing.
abbrev pub reading : {A : Type 0} → ScreenState → A → ScreenState × A
reading screen answer = (screen, answer)

-- The call is made on the screen that the handle holds, and its answer is shown so. Nothing else that the handle holds
-- changes. Of a handle without a screen this is given, and it stays as it is.
abbrev pub Asked : {A B : Type 0} → (ScreenState → ScreenState × A) → (A → B) → B → Option Kept → Option Kept → B → Type 0
Asked call shown closed None new answer = (new ≡ None) × (answer ≡ closed)
Asked call shown closed (Some (Entry entry)) new answer = (new ≡ Some (Entry entry)) × (answer ≡ closed)
Asked call shown closed (Some (Screen session)) new answer =
    (new ≡ Some (Screen (record session { screen = (call session.screen).0 }))) × (answer ≡ shown (call session.screen).1)

-- The same; or memory ran out in a call that nothing else refuses, and all stays as it was.
abbrev pub AskedForMemory : {A E B : Type 0} → (ScreenState → ScreenState × Result A E) → (Result A E → B) → B → B → Option Kept → Option Kept → B → Type 0
AskedForMemory call shown none closed None new answer = (new ≡ None) × (answer ≡ closed)
AskedForMemory call shown none closed (Some (Entry entry)) new answer = (new ≡ Some (Entry entry)) × (answer ≡ closed)
AskedForMemory call shown none closed (Some (Screen session)) new answer =
    Asked call shown closed (Some (Screen session)) new answer ⊎ ((new ≡ Some (Screen session)) × (answer ≡ none) × IsOk (call session.screen).1)

-- What is held is a screen of which this holds, or an entry.
abbrev pub OfScreen : (Session → Type 0) → Kept → Type 0
OfScreen IsSo (Screen session) = IsSo session
OfScreen IsSo (Entry entry) = ⊥

abbrev pub OfEntry : (Described → Type 0) → Kept → Type 0
OfEntry IsSo (Screen session) = ⊥
OfEntry IsSo (Entry entry) = IsSo entry

-- The screen that a handle holds changes so, and this is the answer. Of a handle without a screen this is given, and it
-- stays as it is.
abbrev pub Makes : {B : Type 0} → (Session → Session → B → Type 0) → B → Option Kept → Option Kept → B → Type 0
Makes change closed None new answer = (new ≡ None) × (answer ≡ closed)
Makes change closed (Some (Entry entry)) new answer = (new ≡ Some (Entry entry)) × (answer ≡ closed)
Makes change closed (Some (Screen old)) new answer = MatchOption new ⊥ (OfScreen (λ after. change old after answer))

-- The same of the entry.
abbrev pub MakesOfEntry : {B : Type 0} → (Described → Described → B → Type 0) → B → Option Kept → Option Kept → B → Type 0
MakesOfEntry change closed None new answer = (new ≡ None) × (answer ≡ closed)
MakesOfEntry change closed (Some (Screen session)) new answer = (new ≡ Some (Screen session)) × (answer ≡ closed)
MakesOfEntry change closed (Some (Entry old)) new answer = MatchOption new ⊥ (OfEntry (λ after. change old after answer))
