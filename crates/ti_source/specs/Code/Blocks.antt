-- Reading a source block by block.
use Rattle.std.specs.Prelude.{◌≡◌, ◌⊎◌, ℕ, List, [], ◌∷◌, ◌++◌, OnOk, Result}
use Rattle.ti_source.specs.declared.faults.SourceFault.{SourceFault}
use Rattle.ti_source.specs.Reading.SourceLine.{SourceLine}
use Rattle.ti_source.specs.Reading.Sources.{Whole, each_after, line_faults, unless_faulty, whole_of, written_entries}
use Rattle.ti_source.specs.Code.Lines.{EndsBlock}
use Rattle.ti_source.specs.Result.{Gives}

-- The source that lines and some more after them are, or the first error of those that are more.
abbrev pub source_after : List (ℕ × SourceLine) → List (ℕ × SourceLine) → Result Whole SourceFault
source_after before more = unless_faulty (each_after line_faults before more) (whole_of (before ++ more))

-- No entry has begun, or the next line continues none.
abbrev pub IsBetween : List (ℕ × SourceLine) → List (ℕ × SourceLine) → Type 0
IsBetween before more = (written_entries before ≡ []) ⊎ EndsBlock more

-- The block that begins with a line is read: lines are taken, and it and they are added to the lines before. What follows
-- them does not continue the block.
pub record IsBlock (before : List (ℕ × SourceLine)) (line : ℕ × SourceLine) (lines : List (ℕ × SourceLine)) (result : Result Whole SourceFault) (left : List (ℕ × SourceLine)) : Type 0 where
  pub taken : List (ℕ × SourceLine)
  pub cut : lines ≡ taken ++ left
  pub gives : Gives result (source_after before (line ∷ taken))
  pub ends : OnOk result (EndsBlock left)

-- The same after any lines that are this source.
abbrev pub ReadsBlock : Whole → ℕ × SourceLine → List (ℕ × SourceLine) → Result Whole SourceFault → List (ℕ × SourceLine) → Type 0
ReadsBlock source line lines result left =
    (before : List (ℕ × SourceLine)) → source ≡ whole_of before → IsBetween before (line ∷ lines) → IsBlock before line lines result left
