-- An entry without the texts that insert, delete or scroll.
use Rattle.std.proofs.Common.{◌≡◌, ◌∙◌, ℕ, ◌&&◌, ◌==◌, Bool, true, false, not, List, [], ◌∷◌, Option, Some, None, is_some, is_none, option_and_then, option_map, refl, sym, ap, subst, if◌then◌else◌}
use Rattle.std.specs.List.{list_all}
use Rattle.std.proofs.lemmas.Bool.{and_parts}
use Rattle.scr_cells.specs.declared.charsets.Charset.{Charset}
use Rattle.scr_cells.specs.declared.sizes.Size.{Size}
use Rattle.ti_caps.specs.Adapted.{MovesAreLeftOut, without_moves}
use Rattle.ti_caps.specs.Adapted as adapted
use Rattle.ti_caps.specs.Description.{Description, text_at}
use Rattle.ti_param.specs.Parsed.{parsed}
use Rattle.ti_param.specs.Stripped.{stripped}
use Rattle.scr_term.specs.declared.operations.capability.Capability.{Capability}
use Rattle.scr_term.specs.declared.operations.capability.Capability.TheVariants as capability
use Rattle.scr_term.specs.declared.operations.operation.Op.{Op}
use Rattle.scr_term.specs.declared.operations.operation.Op.TheVariants.{DeleteChars, DeleteLines, InsertChars, InsertLines, ScrollDown, ScrollUp}
use Rattle.scr_term.specs.declared.operations.profile_faults.ProfileFault.TheVariants.{BadString, LongString, Missing}
use Rattle.scr_term.specs.Operations.Admission.{admitted, admitted_on, bad_fault, first_some, first_where, is_over_bound, is_spoiled, is_unreadable, long_fault, margin_fault, missing_fault, named_text, refusal, screen_size, size_fault, some_text, spare_program, unsuitable_fault, used_program}
use Rattle.scr_term.specs.Operations.Capabilities.{each_capability, slot_of}
use Rattle.scr_term.specs.Operations.Larger.{MovesNothing, MovesRefuseNothing, is_moving}
use Rattle.scr_term.specs.Operations.Profiles.{ProfileView, is_there}
use Rattle.scr_term.specs.Operations.Texts.{first_piece, has, is_sendable, is_within, motion, text, text_of_one}

-- ---- refusals

not_true : (b : Bool) → not b ≡ true → b ≡ false
not_true false e = refl
not_true true e = absurd (never e)
  where
    never : false ≡ true → ⊥
    never f = (cc)

sent_same : MovesAreLeftOut → (entry : Description) (c : Capability) → not (adapted.is_moving (slot_of c).0) ≡ true → text_at (without_moves entry) (slot_of c).0 ≡ text_at entry (slot_of c).0
sent_same laws entry c kept = laws.others entry (slot_of c).0 (not_true (adapted.is_moving (slot_of c).0) kept)

-- a test that looks at a capability's text alone
first_same : MovesAreLeftOut → (entry : Description) (test : Option (List ℕ) → Capability → Bool) (cs : List Capability) → list_all (λ c. not (adapted.is_moving (slot_of c).0)) cs ≡ true
    → first_where (λ c. test (text_at (without_moves entry) (slot_of c).0) c) cs ≡ first_where (λ c. test (text_at entry (slot_of c).0) c) cs
first_same laws entry test [] all = refl
first_same laws entry test (c ∷ cs) all =
    let parts = and_parts (not (adapted.is_moving (slot_of c).0)) (list_all (λ c. not (adapted.is_moving (slot_of c).0)) cs) all in
    ap (λ t. if test t c then Some c else first_where (λ c. test (text_at (without_moves entry) (slot_of c).0) c) cs) (sent_same laws entry c parts.0)
    ∙ ap (λ o. if test (text_at entry (slot_of c).0) c then Some c else o) (first_same laws entry test cs parts.1)

missing_same : MovesAreLeftOut → (entry : Description) → missing_fault (without_moves entry) ≡ missing_fault entry
missing_same laws entry =
    ap (option_map (λ c. Missing (named_text c)))
    (first_same laws entry (λ t c. is_none (option_and_then (λ text. some_text (stripped text)) t)) (capability.Cup ∷ capability.Clear ∷ []) refl)

bad_same : MovesAreLeftOut → (entry : Description) → bad_fault (without_moves entry) ≡ bad_fault entry
bad_same laws entry =
    ap (option_map (λ c. BadString (named_text c)))
    (first_same laws entry (λ t c. let sent = option_and_then (λ text. some_text (stripped text)) t in is_some sent && is_unreadable (option_and_then parsed sent)) each_capability refl)

long_same : MovesAreLeftOut → (entry : Description) → long_fault (without_moves entry) ≡ long_fault entry
long_same laws entry =
    ap (option_map (λ c. LongString (named_text c)))
    (first_same laws entry (λ t c. is_over_bound (option_and_then parsed (option_and_then (λ text. some_text (stripped text)) t))) each_capability refl)

size_same : (entry : Description) (size : Option Size) → screen_size (without_moves entry) size ≡ screen_size entry size
unfolding without_moves
size_same entry None = refl
size_same entry (Some size) = refl

unsuitable_same : (entry : Description) → unsuitable_fault (without_moves entry) ≡ unsuitable_fault entry
unfolding without_moves
unsuitable_same entry = refl

margin_same : (entry : Description) → margin_fault (without_moves entry) ≡ margin_fault entry
unfolding without_moves
margin_same entry = refl

refused_same : MovesAreLeftOut → (entry : Description) (size : Option Size) → refusal (without_moves entry) size ≡ refusal entry size
unfolding refusal
refused_same laws entry size =
    let other : Description = without_moves entry in
    ap (λ f. first_some (f ∷ margin_fault other ∷ missing_fault other ∷ size_fault (screen_size other size) ∷ bad_fault other ∷ long_fault other ∷ [])) (unsuitable_same entry)
    ∙ ap (λ f. first_some (unsuitable_fault entry ∷ f ∷ missing_fault other ∷ size_fault (screen_size other size) ∷ bad_fault other ∷ long_fault other ∷ [])) (margin_same entry)
    ∙ ap (λ f. first_some (unsuitable_fault entry ∷ margin_fault entry ∷ f ∷ size_fault (screen_size other size) ∷ bad_fault other ∷ long_fault other ∷ [])) (missing_same laws entry)
    ∙ ap (λ f. first_some (unsuitable_fault entry ∷ margin_fault entry ∷ missing_fault entry ∷ size_fault f ∷ bad_fault other ∷ long_fault other ∷ [])) (size_same entry size)
    ∙ ap (λ f. first_some (unsuitable_fault entry ∷ margin_fault entry ∷ missing_fault entry ∷ size_fault (screen_size entry size) ∷ f ∷ long_fault other ∷ [])) (bad_same laws entry)
    ∙ ap (λ f. first_some (unsuitable_fault entry ∷ margin_fault entry ∷ missing_fault entry ∷ size_fault (screen_size entry size) ∷ bad_fault entry ∷ f ∷ [])) (long_same laws entry)

-- ---- what the profile has

if_same : {A : Type 0} → (b : Bool) (x : A) → (if b then x else x) ≡ x
if_same true x = refl
if_same false x = refl

spare_none : MovesAreLeftOut → (entry : Description) (c : Capability) → adapted.is_moving (slot_of c).0 ≡ true → spare_program (without_moves entry) c ≡ None
spare_none laws entry c moving =
    ap (λ t. if is_spoiled (without_moves entry) c then None else option_and_then (used_program c) (option_and_then (λ text. some_text (stripped text)) t)) (laws.absent entry (slot_of c).0 moving)
    ∙ if_same (is_spoiled (without_moves entry) c) None

and_false : (b : Bool) → (b && false) ≡ false
and_false true = refl
and_false false = refl

not_sent : (profile : ProfileView) (one many : Capability) (n : ℕ) → is_there profile one ≡ false → is_there profile many ≡ false → is_sendable profile (motion profile one many n) ≡ false
not_sent profile one many n no_one no_many =
    ap (λ b. is_sendable profile (if n == 1 && b then text one else text_of_one many n)) no_one
    ∙ ap (λ b. is_sendable profile (if b then text one else text_of_one many n)) (and_false (n == 1)) ∙ no_many

not_had : (profile : ProfileView) (op : Op) → is_sendable profile (first_piece profile op) ≡ false → has profile op ≡ false
unfolding has
not_had profile op none = ap (λ s. is_within profile op && s) none ∙ and_false (is_within profile op)

moves_nothing : MovesAreLeftOut → (charset : Charset) (entry : Description) (rows columns : ℕ) → MovesNothing (admitted charset (without_moves entry) rows columns)
unfolding admitted
moves_nothing laws charset entry rows columns = λ op moving. by op moving
  where
    profile : ProfileView
    profile = admitted charset (without_moves entry) rows columns

    never : false ≡ true → ⊥
    never e = (cc)

    by : (op : Op) → is_moving op ≡ true → has (admitted charset (without_moves entry) rows columns) op ≡ false
    by (InsertLines n) moves = not_had profile (InsertLines n) (not_sent profile capability.Il1 capability.Il n (ap is_some (spare_none laws entry capability.Il1 refl)) (ap is_some (spare_none laws entry capability.Il refl)))
    by (DeleteLines n) moves = not_had profile (DeleteLines n) (not_sent profile capability.Dl1 capability.Dl n (ap is_some (spare_none laws entry capability.Dl1 refl)) (ap is_some (spare_none laws entry capability.Dl refl)))
    by (InsertChars n) moves = not_had profile (InsertChars n) (ap is_some (spare_none laws entry capability.Ich refl))
    by (DeleteChars n) moves = not_had profile (DeleteChars n) (not_sent profile capability.Dch1 capability.Dch n (ap is_some (spare_none laws entry capability.Dch1 refl)) (ap is_some (spare_none laws entry capability.Dch refl)))
    by (ScrollUp n) moves = not_had profile (ScrollUp n) (not_sent profile capability.Ind capability.Indn n (ap is_some (spare_none laws entry capability.Ind refl)) (ap is_some (spare_none laws entry capability.Indn refl)))
    by (ScrollDown n) moves = not_had profile (ScrollDown n) (not_sent profile capability.Ri capability.Rin n (ap is_some (spare_none laws entry capability.Ri refl)) (ap is_some (spare_none laws entry capability.Rin refl)))
    by op moves = absurd (never moves)

admitted_moves : MovesAreLeftOut → (charset : Charset) (entry : Description) (size : Option (ℕ × ℕ)) (profile : ProfileView) → admitted_on charset (without_moves entry) size profile → MovesNothing profile
admitted_moves laws charset entry None profile made = absurd made
admitted_moves laws charset entry (Some size) profile made = subst MovesNothing (sym made) (moves_nothing laws charset entry size.0 size.1)

pub refuse_nothing : MovesAreLeftOut → MovesRefuseNothing
refuse_nothing laws = record {
  refused = λ entry size. refused_same laws entry size;
  suitable = λ entry is. record { suitable = sym (unsuitable_same entry) ∙ is.suitable; margin = sym (margin_same entry) ∙ is.margin };
  equipped = λ entry size is. record { texts = sym (missing_same laws entry) ∙ is.texts; sized = sym (ap size_fault (size_same entry size)) ∙ is.sized };
  nothing = λ charset entry size profile is. admitted_moves laws charset entry (screen_size (without_moves entry) size) profile is.made;
}
