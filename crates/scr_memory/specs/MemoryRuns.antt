-- What is known after several operations. curs_refresh(3X), doupdate().
use Rattle.std.specs.Prelude.{◌≡◌, ◌++◌, true, List, Some}
use Rattle.scr_cells.specs.Grids.{IsGrid}
use Rattle.scr_term.specs.declared.operations.operation.Op.{Op}
use Rattle.scr_term.specs.Operations.Abilities.{Abilities}
use Rattle.scr_term.specs.Operations.Profiles.{ProfileView, IsProfile, abilities}
use Rattle.scr_term.specs.Operations.States.{TerminalState, IsState}
use Rattle.scr_term.specs.Operations.Steps.{runs}
use Rattle.scr_memory.specs.Memories.{Agrees, MayBe, MemoryView, all_followed, is_known, remembered, unknown}

-- If a state agrees with the memory and operations are defined there, the state after them agrees with the memory after
-- them; if all was known, all stays known. If they are defined from the remembered state, the state after them is
-- remembered. Following operations one list after another is following them all, and sizes stay. The memory that knows
-- nothing agrees with every state. A remembered state that is possible stays so, and the first one is.
pub record MemoryRuns : Type 0 where
  pub follows : (profile : ProfileView) → IsProfile profile → (memory : MemoryView) → MayBe (abilities profile) memory → (old new : TerminalState) (ops : List Op)
      → Agrees (abilities profile) memory old → runs profile old ops ≡ Some new → Agrees (abilities profile) (all_followed profile ops memory) new
  pub stays_known : (profile : ProfileView) → IsProfile profile → (memory : MemoryView) → MayBe (abilities profile) memory → (old new : TerminalState) (ops : List Op)
      → Agrees (abilities profile) memory old → runs profile old ops ≡ Some new → is_known memory ≡ true → is_known (all_followed profile ops memory) ≡ true
  pub stays_possible : (profile : ProfileView) → IsProfile profile → (memory : MemoryView) (ops : List Op) → MayBe (abilities profile) memory → MayBe (abilities profile) (all_followed profile ops memory)
  pub state : (profile : ProfileView) (memory : MemoryView) (new : TerminalState) (ops : List Op)
      → runs profile memory.state ops ≡ Some new → (all_followed profile ops memory).state ≡ new
  pub joined : (profile : ProfileView) (memory : MemoryView) (ops more : List Op) → all_followed profile (ops ++ more) memory ≡ all_followed profile more (all_followed profile ops memory)
  pub rows : (profile : ProfileView) (memory : MemoryView) (ops : List Op) → (all_followed profile ops memory).rows ≡ memory.rows
  pub columns : (profile : ProfileView) (memory : MemoryView) (ops : List Op) → (all_followed profile ops memory).columns ≡ memory.columns
  pub at_first : (profile : ProfileView) → IsProfile profile → (now : TerminalState) → IsState (abilities profile) now → Agrees (abilities profile) (unknown profile.rows profile.columns) now
  pub possible_at_first : (profile : ProfileView) → IsProfile profile → MayBe (abilities profile) (unknown profile.rows profile.columns)

-- If all is known, the only state that agrees is the remembered one: nothing else is remembered but sizes.
pub record KnownMemories : Type 0 where
  pub state : (abilities : Abilities) (memory : MemoryView) → IsGrid abilities.rows abilities.columns memory.state.grid → (now : TerminalState) → Agrees abilities memory now → is_known memory ≡ true → memory.state ≡ now
  pub all : (abilities : Abilities) (memory : MemoryView) → IsGrid abilities.rows abilities.columns memory.state.grid → (now : TerminalState) → Agrees abilities memory now → is_known memory ≡ true
      → memory.rows ≡ abilities.rows → memory.columns ≡ abilities.columns → memory ≡ remembered abilities.rows abilities.columns now
  pub is : (abilities : Abilities) (memory : MemoryView) → IsGrid abilities.rows abilities.columns memory.state.grid → (now : TerminalState) → Agrees abilities memory now → is_known memory ≡ true
      → memory ≡ record (remembered abilities.rows abilities.columns now) { rows = memory.rows; columns = memory.columns }
