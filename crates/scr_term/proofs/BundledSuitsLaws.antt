-- Nothing is against the bundled entry.
use Rattle.std.proofs.Common.{◌≡◌, ◌∙◌, ◌==◌, ◌&&◌, ℕ, Bool, not, List, [], ◌∷◌, Option, Some, None, option_and_then, option_map, cond, inl, inr, ap, arith, refl, sym}
use Rattle.std.specs.List.{list_any}
use Rattle.std.specs.Option.{is_some, is_none}
use Rattle.std.proofs.lemmas.Bool.Decides.{nat_tests}
use Rattle.scr_cells.specs.declared.sizes.Size.{Size}
use Rattle.scr_cells.specs.PictureViews.{IsSize}
use Rattle.ti_caps.specs.Bundled.{IsBundled, bundled_flags, bundled_numbers, bundled_texts, listed}
use Rattle.ti_caps.specs.Description.{Description, flag_at}
use Rattle.ti_caps.specs.declared.table.Kind.{Kind}
use Rattle.ti_caps.specs.declared.table.Kind.TheVariants as kind
use Rattle.ti_caps.specs.declared.table.Slot.{Slot}
use Rattle.ti_param.specs.Parsed.{parsed}
use Rattle.ti_param.specs.Stripped.{stripped}
use Rattle.scr_term.specs.declared.operations.capability.Capability.{Capability}
use Rattle.scr_term.specs.declared.operations.capability.Capability.TheVariants.{Clear, Cup}
use Rattle.scr_term.specs.declared.operations.profile_faults.ProfileFault.{ProfileFault}
use Rattle.scr_term.specs.declared.operations.profile_faults.ProfileFault.TheVariants.{Unsuitable, AutoMargin, Missing, BadString, LongString, NoMemory}
use Rattle.scr_term.specs.Operations.Admission.{IsAdmitted, IsRefused, admitted, first_where, is_bad_string, is_long_string, is_over_bound, is_present, is_unreadable, named_text, refusal, size_fault, some_text, unsuitable_capabilities}
use Rattle.scr_term.specs.Operations.Capabilities.{each_capability, slot_of}
use Rattle.scr_term.specs.Operations.Profiles.{ProfileView}
use Rattle.scr_term.specs.Operations.Admission.{is_missing, margin_fault}
use Rattle.scr_term.proofs.AdmissionLaws.{none_refused}
use Rattle.scr_term.specs.Operations.Ecma48.{bundled_program}

-- two tests that agree choose one element
same_first : {A : Type 0} → (f g : A → Bool) (xs : List A) → ((x : A) → f x ≡ g x) → first_where f xs ≡ first_where g xs
same_first f g xs same = λ i. first_where (λ x. same x i) xs

-- what the bundled entry has for a capability
abbrev bundled_sent : Capability → Option (List ℕ)
bundled_sent capability = option_and_then (λ text. some_text (stripped text)) (listed bundled_texts (slot_of capability).0)

abbrev bundled_present : Kind × Slot → Bool
bundled_present (kind.Flag, slot) = list_any (λ flag. flag == slot.0) bundled_flags
bundled_present (kind.Number, slot) = is_some (listed bundled_numbers slot.0)
bundled_present (kind.Text, slot) = is_some (listed bundled_texts slot.0)

abbrev bundled_missing : Capability → Bool
bundled_missing capability = is_none (bundled_sent capability)

abbrev bundled_bad : Capability → Bool
bundled_bad capability = is_some (bundled_sent capability) && is_unreadable (bundled_program capability)

abbrev bundled_long : Capability → Bool
bundled_long capability = is_over_bound (bundled_program capability)

present_is : (entry : Description) → IsBundled entry → (capability : Kind × Slot) → is_present entry capability ≡ bundled_present capability
present_is entry is (kind.Flag, slot) = is.flags slot.0
present_is entry is (kind.Number, slot) = ap is_some (is.numbers slot.0)
present_is entry is (kind.Text, slot) = ap is_some (is.texts slot.0)

missing_is : (entry : Description) → IsBundled entry → (capability : Capability) → is_missing entry capability ≡ bundled_missing capability
missing_is entry is capability = ap (λ t. is_none (option_and_then (λ text. some_text (stripped text)) t)) (is.texts (slot_of capability).0)

bad_is : (entry : Description) → IsBundled entry → (capability : Capability) → is_bad_string entry capability ≡ bundled_bad capability
bad_is entry is capability =
    ap (λ t. is_some (option_and_then (λ text. some_text (stripped text)) t) && is_unreadable (option_and_then parsed (option_and_then (λ text. some_text (stripped text)) t))) (is.texts (slot_of capability).0)

long_is : (entry : Description) → IsBundled entry → (capability : Capability) → is_long_string entry capability ≡ bundled_long capability
long_is entry is capability =
    ap (λ t. is_over_bound (option_and_then parsed (option_and_then (λ text. some_text (stripped text)) t))) (is.texts (slot_of capability).0)

none_present : first_where bundled_present unsuitable_capabilities ≡ None
none_present = refl

none_missing : first_where bundled_missing (Cup ∷ Clear ∷ []) ≡ None
unfolding bundled_texts stripped
none_missing = refl

none_bad : first_where bundled_bad each_capability ≡ None
unfolding bundled_texts stripped parsed
none_bad = refl

none_long : first_where bundled_long each_capability ≡ None
unfolding bundled_texts stripped parsed
none_long = refl

margin_kept : (entry : Description) → IsBundled entry → margin_fault entry ≡ None
margin_kept entry is =
    ap (λ am. cond (am && not (flag_at entry 4)) (Some AutoMargin) None) (is.flags 1) ∙ ap (λ xenl. cond (not xenl) (Some AutoMargin) None) (is.flags 4)

size_fits : (rows columns : ℕ) → IsSize rows columns → size_fault (Some (rows, columns)) ≡ None
size_fits rows columns size =
    let some_rows = size.some_rows in
    let some_columns = size.some_columns in
    let few_rows = size.few_rows in
    let few_columns = size.few_columns in
    grind (arith, nat_tests)

pub bundled_suits : (entry : Description) (size : Size) → IsBundled entry → refusal entry (Some size) ≡ None
bundled_suits entry size is =
    none_refused entry (Some size)
    (ap (option_map Unsuitable) (same_first (is_present entry) bundled_present unsuitable_capabilities (present_is entry is) ∙ none_present))
    (margin_kept entry is)
    (ap (option_map (λ c. Missing (named_text c))) (same_first (is_missing entry) bundled_missing (Cup ∷ Clear ∷ []) (missing_is entry is) ∙ none_missing))
    (size_fits size.rows size.columns size.in_range)
    (ap (option_map (λ c. BadString (named_text c))) (same_first (is_bad_string entry) bundled_bad each_capability (bad_is entry is) ∙ none_bad))
    (ap (option_map (λ c. LongString (named_text c))) (same_first (is_long_string entry) bundled_long each_capability (long_is entry is) ∙ none_long))

-- what is admitted of the bundled entry has the size that was given
pub ecma48_rows : (entry : Description) (size : Size) (profile : ProfileView) → IsAdmitted entry (Some size) profile → profile.rows ≡ size.rows
unfolding admitted
ecma48_rows entry size profile is = ap {A = ProfileView} (λ p. p.rows) is.made

pub ecma48_columns : (entry : Description) (size : Size) (profile : ProfileView) → IsAdmitted entry (Some size) profile → profile.columns ≡ size.columns
unfolding admitted
ecma48_columns entry size profile is = ap {A = ProfileView} (λ p. p.columns) is.made

-- a refusal is for want of memory
pub memory_alone : (entry : Description) (size : Size) → IsBundled entry → (fault : ProfileFault) → IsRefused entry (Some size) fault → fault ≡ NoMemory
memory_alone entry size is fault (inl m) = m
memory_alone entry size is fault (inr e) = let none : Some fault ≡ None = sym e ∙ bundled_suits entry size is in cc
