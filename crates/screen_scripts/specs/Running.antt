-- What one line of a run leaves on the stage and in a writer. Definitions that only private functions use.
use Rattle.std.specs.Prelude.{ℕ, ◌≡◌, ◌++◌, ◌⊎◌, Bool, false, List, Option, Some}
use Rattle.std.specs.Io.KnownBytes.{Appends, Keeps}
use Rattle.scr_cells.specs.declared.charsets.Charset.{Charset}
use Rattle.scr_cells.specs.declared.sizes.Size.{Size}
use Rattle.ti_caps.specs.Bundled.{IsBundled}
use Rattle.ti_caps.specs.Description.{Description}
use Rattle.scr_keys.specs.declared.sets.KeySet.TheVariants.{Table}
use Rattle.curses.specs.Opening.{IsOpenedAs}
use Rattle.curses.specs.ScreenStates.{ScreenState}
use Rattle.screen_scripts.specs.declared.commands.Command.{Command}
use Rattle.screen_scripts.specs.declared.stages.Stage.{Stage as Playing}
use Rattle.screen_scripts.specs.Stories.{Outcome, continued}
use Rattle.screen_scripts.specs.Printing.{GrewByBeginning, refusals_of}
use Rattle.screen_scripts.specs.Showing.{IsReady, LineWrites, Opens, stage_of}

-- What a line did; the writer's text grew by all that is written for it.
pub record LineWritten (charset : Charset) (raw : Bool) (old : Option Playing) (line : List ℕ) (held holds : Option (List ℕ)) (new : Option Playing) : Type 0 where
  pub text : List ℕ
  pub is : LineWrites charset raw old line text new
  pub written : Appends held holds text

-- What a line did; the writer's text grew by a beginning of what is written for it.
pub record LineBegun (charset : Charset) (raw : Bool) (old : Option Playing) (line : List ℕ) (held holds : Option (List ℕ)) (new : Option Playing) : Type 0 where
  pub text : List ℕ
  pub is : LineWrites charset raw old line text new
  pub grew : GrewByBeginning held holds text

-- The writer's text stayed, or grew by a beginning of what is written for a line.
abbrev pub BeginsLine : Charset → Bool → Option Playing → List ℕ → Option (List ℕ) → Option (List ℕ) → Option Playing → Type 0
BeginsLine charset raw old line held holds new = Keeps held holds ⊎ LineBegun charset raw old line held holds new

-- A command opened this stage.
pub record OpensOn (charset : Charset) (command : Command) (new : Option Playing) : Type 0 where
  pub stage : Playing
  pub left : new ≡ Some stage
  pub is : Opens charset command stage

-- What a command did on a screen, and the refusals that it adds.
pub record CommandRefuses (old : ScreenState) (command : Command) (before after : List ℕ) (new : ScreenState) : Type 0 where
  pub outcome : Outcome
  pub is : continued (stage_of old) command ≡ Some outcome
  pub left : outcome.stage ≡ stage_of new
  pub ready : IsReady new
  pub added : after ≡ before ++ refusals_of outcome.events

-- A screen of this size, opened on the bundled entry for a terminal with this charset.
pub record IsOpenedOn (charset : Charset) (size : Size) (screen : ScreenState) : Type 0 where
  pub entry : Description
  pub bundled : IsBundled entry
  pub is : IsOpenedAs (record { charset = charset; keys = Table; is_larger = false }) entry (Some size) screen
