-- How much of some texts a writer accepted, and what is left to send.
use Rattle.std.specs.Prelude.{ℕ, ◌≡◌, List, ◌++◌, length, Option}
use Rattle.std.specs.Io.KnownBytes.{Appends}

-- The bytes owed before, followed by the texts, are the `count` bytes that the writer accepted, followed by the rest,
-- which is owed after. `old` and `new` are all bytes that the writer accepted before and after, where this is known.
pub record IsCut (owed texts : List ℕ) (old new : Option (List ℕ)) (count : ℕ) (rest : List ℕ) : Type 0 where
  pub taken : List ℕ
  pub writer : Appends old new taken
  pub bytes : count ≡ length taken
  pub whole : owed ++ texts ≡ taken ++ rest
