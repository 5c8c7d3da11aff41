-- What an entry has that is not refused.
use Rattle.std.proofs.Common.{◌≡◌, refl, List, [], ◌∷◌, Option, None, Some}
use Rattle.scr_cells.specs.declared.sizes.Size.{Size}
use Rattle.ti_caps.specs.Description.{Description}
use Rattle.scr_term.specs.declared.operations.profile_faults.ProfileFault.{ProfileFault}
use Rattle.scr_term.specs.Operations.Admission.{IsEquipped, bad_fault, first_some, long_fault, margin_fault, missing_fault, refusal, screen_size, size_fault, unsuitable_fault}

none_first : (first : Option ProfileFault) (more : List (Option ProfileFault)) → first_some (first ∷ more) ≡ None → (first ≡ None) × (first_some more ≡ None)
none_first None more e = (refl, e)
none_first (Some fault) more e = absurd (never e)
  where
    never : {f : ProfileFault} → Some f ≡ None → ⊥
    never e = (cc)

pub equipped_of : (entry : Description) (size : Option Size) → refusal entry size ≡ None → IsEquipped entry size
unfolding refusal
equipped_of entry size e =
    let after_first = none_first (unsuitable_fault entry) (margin_fault entry ∷ missing_fault entry ∷ size_fault (screen_size entry size) ∷ bad_fault entry ∷ long_fault entry ∷ []) e in
    let after_second = none_first (margin_fault entry) (missing_fault entry ∷ size_fault (screen_size entry size) ∷ bad_fault entry ∷ long_fault entry ∷ []) after_first.1 in
    let after_third = none_first (missing_fault entry) (size_fault (screen_size entry size) ∷ bad_fault entry ∷ long_fault entry ∷ []) after_second.1 in
    let after_fourth = none_first (size_fault (screen_size entry size)) (bad_fault entry ∷ long_fault entry ∷ []) after_third.1 in
    record { texts = after_third.0; sized = after_fourth.0 }
