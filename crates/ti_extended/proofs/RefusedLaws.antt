-- Bytes that are refused with either width are no file.
use Rattle.std.proofs.Common.{◌≡◌, ℕ, ◌⊎◌, inl, inr, List, Option, Some, None}
use Rattle.ti_caps.specs.Description.{Description}
use Rattle.ti_binary.specs.Files.{IsFile, refusal}
use Rattle.ti_binary.specs.FileLaws.{FilesAreNotRefused}
use Rattle.ti_binary.specs.declared.widths.Width.{Width}
use Rattle.ti_binary.specs.declared.widths.Width.TheVariants.{Legacy, Wide}
use Rattle.ti_binary.specs.declared.faults.BinFault.{BinFault}
use Rattle.ti_binary.specs.declared.faults.BinFault.TheVariants as bin
use Rattle.ti_extended.specs.declared.faults.WholeFault.{WholeFault}
use Rattle.ti_extended.specs.declared.faults.WholeFault.TheVariants as whole

pub some_none : {A : Type 0} (o : Option A) (x : A) → o ≡ None → o ≡ Some x → ⊥
some_none o x e h = cc

by_widths : (bytes : List ℕ) (first fault : BinFault) → refusal Legacy bytes ≡ Some first → refusal Wide bytes ≡ Some fault → (width : Width) → refusal width bytes ≡ None → ⊥
by_widths bytes first fault a b Legacy h = some_none (refusal Legacy bytes) first h a
by_widths bytes first fault a b Wide h = some_none (refusal Wide bytes) fault h b

pub refused_both : FilesAreNotRefused → (bytes : List ℕ) (first fault : BinFault) (out : WholeFault)
    → (first ≡ bin.NoMemory → out ≡ whole.NoMemory) → (fault ≡ bin.NoMemory → out ≡ whole.NoMemory)
    → (first ≡ bin.NoMemory) ⊎ (refusal Legacy bytes ≡ Some first) → (fault ≡ bin.NoMemory) ⊎ (refusal Wide bytes ≡ Some fault)
    → (out ≡ whole.NoMemory) ⊎ ((width : Width) (d : Description) (rest : List ℕ) → IsFile width bytes d rest → ⊥)
refused_both law bytes first fault out a b (inl h) k = inl (a h)
refused_both law bytes first fault out a b (inr h) (inl k) = inl (b k)
refused_both law bytes first fault out a b (inr h) (inr k) = inr (λ width d rest f. by_widths bytes first fault h k width (law width bytes rest d f))
