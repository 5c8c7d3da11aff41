-- What is written of an entry by itself.
use Rattle.std.proofs.Common.{◌≡◌, ℕ, ◌<◌, ◌≤◌, sym, ap, arith, inl, inr, List, [], length, subst, Ok, Err}
use Rattle.std.proofs.lemmas.Bool.{cases_lt}
use Rattle.ti_caps.specs.Description.{Description, IsDescription}
use Rattle.ti_binary.specs.Canonical.{canonical}
use Rattle.ti_binary.specs.Files.{IsFile, numbers_of, offsets_place}
use Rattle.ti_binary.specs.FileLaws.{LongNamesReadBack}
use Rattle.ti_binary.specs.declared.widths.Width.TheVariants.{Legacy}
use Rattle.ti_extended.specs.Whole.{Whole}
use Rattle.ti_extended.proofs.PlacedLaws.{file_few, file_room}

pub record IsStandard (w : Whole) (bytes : List ℕ) : Type 0 where
  pub room : offsets_place Legacy bytes ≤ length bytes
  pub few : numbers_of bytes ≤ 64
  pub small : length (canonical w.entry) ≤ 4096

pub ok_err : {A E : Type 0} (x : A) (e : E) → Ok x ≡ Err e → ⊥
ok_err x e h = cc

at_most : (m n : ℕ) → (m < n → ⊥) → n ≤ m
at_most m n never = elim (cases_lt m n) [ inl h ↦ absurd (never h) | inr h ↦ h ]

pub standard_is : LongNamesReadBack → (w : Whole) (e : Description) (bytes : List ℕ) → IsDescription w.entry → e ≡ w.entry → bytes ≡ canonical w.entry
    → (4096 < length (canonical e) → ⊥) → IsStandard w bytes
standard_is back w e bytes d same is large =
    let size : length (canonical e) ≤ 4096 = at_most 4096 (length (canonical e)) large in
    let small : length (canonical w.entry) ≤ 4096 = omega (arith, size, ap (λ (x : Description). length (canonical x)) same) in
    let f : IsFile Legacy (canonical w.entry) w.entry [] = (back w.entry d small).0 in
    let g : IsFile Legacy bytes w.entry [] = subst (λ bs. IsFile Legacy bs w.entry []) (sym is) f in
    record {
      room = file_room Legacy bytes [] w.entry g;
      few = file_few Legacy bytes [] w.entry g;
      small = small;
    }
