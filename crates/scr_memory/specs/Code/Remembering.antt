-- What is kept of a memory beside what it remembers.
use Rattle.std.specs.Prelude.{ℕ, ◌≡◌, ◌&&◌, leb, ltb, Bool, false, if◌then◌else◌, List, length, map, slice_index_or, Option, unwrap_or}
use Rattle.std.specs.List.{list_all, range_with_len}
use Rattle.scr_term.specs.Operations.States.{TerminalState}
use Rattle.scr_memory.specs.Memories.{IsMemory, MemoryView}

-- beside it is whether all rows are known
pub record IsKept (memory : MemoryView) (all : Bool) : Type 0 where
  pub is : IsMemory memory
  pub every : all ≡ list_all (λ known. known) memory.known_rows

-- the state that is remembered is another, or stays where there is none
abbrev pub gone_to : MemoryView → Option TerminalState → MemoryView
gone_to memory next = record memory { state = unwrap_or next memory.state }

-- the rows from one up to another are known, or are not
abbrev pub with_run : Bool → ℕ → ℕ → List Bool → List Bool
with_run known first end rows = map (λ r. if leb first r && ltb r end then known else slice_index_or rows r false) (range_with_len 0 (length rows))
