-- The hasher of a source's names.
use Rattle.std.specs.Prelude.{ℕ, Bool, List, [], not, ◌&&◌, if◌then◌else◌}
use Rattle.std.specs.List.{flat_map}
use Rattle.std.specs.declared.hash.DefaultHasher.{DefaultHasher}
use Rattle.std.specs.Hash.DefaultHasher as sip
use Rattle.bstr.specs.Text.{lines_of}
use Rattle.sha2.specs.Sha512.{sha512}
use Rattle.ti_source.specs.Reading.SourceLine.{begins_blank, begins_hash}

-- a line that is not a comment and does not begin with a blank
abbrev pub begins_entry : List ℕ → Bool
begins_entry line = not (begins_hash line) && not (begins_blank line)

abbrev pub line_of_names : List ℕ → List ℕ
line_of_names line = if begins_entry line then line else []

-- the lines that begin entries, each with the LF that ends it: all names of entries stand there
abbrev pub lines_of_names : List ℕ → List ℕ
lines_of_names source = flat_map line_of_names (lines_of source)

-- SipHash of keys 0 after the digest of the lines that begin entries
abbrev pub keyed : List ℕ → DefaultHasher
keyed source = sip.write sip.initial (sha512 (lines_of_names source))
