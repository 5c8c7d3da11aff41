-- Compiling the entries of a source one after another (tic(1)).
use Rattle.std.specs.Prelude.{◌≡◌, ◌≤◌, ℕ, List, None, Some, length, map, slice_get, take}
use Rattle.ti_caps.specs.Description.{Description}
use Rattle.ti_source.specs.Described.{Described}
use Rattle.ti_source.specs.Resolving.Uses.{Resolved}
use Rattle.ti_compile.specs.declared.compiled_entry.CompiledEntry.{CompiledEntry}
use Rattle.ti_compile.specs.Compiling.{AreCompiled, files_of, names_of, refusal_of, size_of}

-- The entries of a source, and how many have been compiled.
pub record EntryCompiling : Type 0 where
  pub entries : List Described
  pub next : ℕ

-- The first `next` entries can be compiled.
abbrev pub AreCompiledBefore : List Described → ℕ → Type 0
AreCompiledBefore entries next = (ds : List Description) × AreCompiled entries (take next (names_of entries)) ds

-- This is the compiled form of an entry: its files and its size.
pub record IsCompiledOf (d : Description) (c : CompiledEntry) : Type 0 where
  pub files : map (λ path. (path, c.bytes)) c.paths ≡ files_of d
  pub size : (c.name, length c.bytes) ≡ size_of d

-- The entry at this index is compiled to this.
pub record IsCompiledNext (entries : List Described) (next : ℕ) (c : CompiledEntry) : Type 0 where
  pub name : List ℕ
  pub at : slice_get (names_of entries) next ≡ Some name
  pub d : Description
  pub resolved : Resolved entries name d
  pub good : refusal_of d ≡ None
  pub compiled : IsCompiledOf d c

-- There are no further entries, and each can be compiled.
abbrev pub AllCompiled : List Described → ℕ → Type 0
AllCompiled entries next = (length entries ≤ next) × ((ds : List Description) × AreCompiled entries (names_of entries) ds)
