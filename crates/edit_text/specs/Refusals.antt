-- Why an edit is refused.
use Rattle.std.specs.Prelude.{◌≡◌, ℕ, List, Option, None, Some, MatchOption, Result, Err, IsOkUnless, if◌then◌else◌}
use Rattle.edit_text.specs.declared.places.TextPlace.{TextPlace}
use Rattle.edit_text.specs.declared.faults.EditFault.{EditFault}
use Rattle.edit_text.specs.declared.faults.EditFault.TheVariants.{OutsideText, LineFeed, NoMemory}
use Rattle.edit_text.specs.declared.parts.TextPart.{TextPart}
use Rattle.edit_text.specs.Lines.{has_line_feed, is_inside}
use Rattle.edit_text.specs.Parts.{spelled}

-- the refusal of an edit at a place, if any
abbrev pub place_refusal : List (List ℕ) → TextPlace → Option EditFault
place_refusal lines place = if is_inside lines place then None else Some OutsideText

-- the refusal of an insertion, if any
abbrev pub insert_refusal : List (List ℕ) → TextPlace → TextPart → Option EditFault
insert_refusal lines place part =
    if is_inside lines place then (if has_line_feed (spelled part) then Some LineFeed else None) else Some OutsideText

-- a call with this refusal answers it, and one without a refusal fails only when memory runs out
abbrev pub IsRefusedBy : {T : Type 0} → Result T EditFault → Option EditFault → Type 0
IsRefusedBy result refusal = MatchOption refusal (IsOkUnless result NoMemory) (λ fault. result ≡ Err fault)
