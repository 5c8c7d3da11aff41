-- What an admission finds and makes.
use Rattle.std.proofs.Common.{◌≡◌, ◌≢◌, ◌∙◌, ℕ, zero, suc, ◌+◌, ◌<◌, ◌≤◌, ◌&&◌, ◌==◌, ◌⊎◌, ◌++◌, inl, inr, Bool, true, false, ℤ, List, [], ◌∷◌, All, IfSome, encode_utf8, append_assoc, nat_le, Option, Some, None, max, map, length, length-append, option_and_then, option_map, filter, cond, slice_index_or, ap, arith, refl, replicate, subst, sym, pos, take, drop, get_or}
use Rattle.std.specs.List.{list_any}
use Rattle.std.specs.Option.{is_some, is_none}
use Rattle.std.proofs.lemmas.List.{at_drop_more, map_more}
use Rattle.std.proofs.lemmas.List.Elements.{All-append}
use Rattle.std.proofs.lemmas.Bool.Decides.{nat_tests}
use Rattle.scr_cells.specs.declared.sizes.Size.{Size}
use Rattle.scr_cells.specs.Attributes.{all_attributes}
use Rattle.scr_cells.specs.PictureViews.{IsSize}
use Rattle.scr_cells.specs.Characters.{is_utf8}
use Rattle.scr_cells.specs.declared.charsets.Charset.{Charset}
use Rattle.scr_cells.specs.declared.charsets.Charset.TheVariants.{Ascii, Utf8}
use Rattle.std.proofs.lemmas.Str.{length-encode, len_utf8_bounds}
use Rattle.ti_caps.specs.Description.{Description, flag_at}
use Rattle.ti_caps.specs.declared.slots.TheConstants.{MSGR}
use Rattle.ti_caps.specs.Table.{or_else}
use Rattle.ti_param.specs.declared.faults.ParamFault.{ParamFault}
use Rattle.ti_param.specs.declared.faults.ParamFault.TheVariants as param
use Rattle.ti_param.specs.Grammar.{IsText}
use Rattle.ti_param.specs.Parsed.{parsed}
use Rattle.ti_param.specs.ProgramLaws.{IsBounded, IsParsed}
use Rattle.ti_param.specs.States.{Outcome}
use Rattle.ti_param.specs.Tree.{Tree, bound, depth, start, value}
use Rattle.scr_term.specs.declared.operations.capability.Capability.{Capability}
use Rattle.scr_term.specs.declared.operations.capability.Capability.TheVariants.{Clear, Cup}
use Rattle.scr_term.specs.declared.operations.capability.Capability.TheVariants as capability
use Rattle.scr_term.specs.declared.operations.operation.Op.{Op}
use Rattle.scr_term.specs.Operations.Pieces.{Piece, Character, Spelled, Text}
use Rattle.scr_term.specs.declared.operations.profile_faults.ProfileFault.{ProfileFault}
use Rattle.scr_term.specs.declared.operations.profile_faults.ProfileFault.TheVariants.{BadString, LongString, NoMemory}
use Rattle.scr_term.specs.Operations.Admission.{IsRefused, admitted, bad_text, first_some, first_where, has_palette, is_bad_string, is_long_string, is_over_bound, is_spoiled, is_unreadable, named_text, planned_program, refusal, refusals, screen_size, sent_text, size_fault, spare_program, used_program, within_limits}
use Rattle.scr_term.specs.Operations.Capabilities.{each_capability, each_spare, ordinal, slot_of}
use Rattle.scr_term.specs.Operations.Profiles.{IsPlanned, IsProfile, ProfileView, has_colours, is_shown, program_of, set_of, shown_set}
use Rattle.scr_term.specs.Operations.Texts.{bytes_in, bytes_of, first_piece, nine, piece_bytes, resets_colours, text, written}
use Rattle.scr_term.specs.Code.Admission.{ArePlanned, AreTexts, program_in, counted_bound, greatest_bound, longest, longest_character, with_programs}
use Rattle.scr_term.specs.Operations.Admission.{bad_fault, is_missing, long_fault, margin_fault, missing_fault, unsuitable_fault}
use Rattle.scr_term.specs.Code.Kept.{IsKept}
use Rattle.scr_term.proofs.RenderingLaws.{bytes_of_one, bytes_of_two}

-- ---- what a text is read as

-- a text that is not read, though there is memory, is no parameter string
pub unread : (text : List ℕ) (fault : ParamFault) → IsParsed → ((tree : Tree) → IsText tree text → fault ≡ param.NoMemory) → fault ≢ param.NoMemory → (q : Option Tree) → parsed text ≡ q → None ≡ q
unread text fault is spelled other None e = refl
unread text fault is spelled other (Some tree) e = absurd (other (spelled tree ((is tree text).0 e)))

-- ---- the first refusal

-- memory ran out, or the fault is the first of these
abbrev pub IsFirst : ProfileFault → List (Option ProfileFault) → Type 0
IsFirst fault faults = (fault ≡ NoMemory) ⊎ (first_some faults ≡ Some fault)

here : (fault : ProfileFault) (first : Option ProfileFault) (more : List (Option ProfileFault)) → (fault ≡ NoMemory) ⊎ (first ≡ Some fault) → IsFirst fault (first ∷ more)
here fault first more (inl m) = inl m
here fault first more (inr e) = inr (ap (λ o. or_else o (first_some more)) e)

past : (fault : ProfileFault) (first : Option ProfileFault) (more : List (Option ProfileFault)) → first ≡ None → IsFirst fault more → IsFirst fault (first ∷ more)
past fault first more e (inl m) = inl m
past fault first more e (inr h) = inr (ap (λ o. or_else o (first_some more)) e ∙ h)

refused : (entry : Description) (size : Option Size) (fault : ProfileFault) → IsFirst fault (refusals entry size) → IsRefused entry size fault
unfolding refusal
refused entry size fault (inl m) = inl m
refused entry size fault (inr h) = inr h

-- each step refuses where those before it do not
pub refused_unsuitable : (entry : Description) (size : Option Size) (fault : ProfileFault) → (fault ≡ NoMemory) ⊎ (unsuitable_fault entry ≡ Some fault) → IsRefused entry size fault
refused_unsuitable entry size fault h =
    refused entry size fault (here fault (unsuitable_fault entry) (margin_fault entry ∷ missing_fault entry ∷ size_fault (screen_size entry size) ∷ bad_fault entry ∷ long_fault entry ∷ []) h)

pub refused_margin : (entry : Description) (size : Option Size) (fault : ProfileFault) → unsuitable_fault entry ≡ None → (fault ≡ NoMemory) ⊎ (margin_fault entry ≡ Some fault) → IsRefused entry size fault
refused_margin entry size fault u h =
    refused entry size fault (past fault (unsuitable_fault entry) (margin_fault entry ∷ missing_fault entry ∷ size_fault (screen_size entry size) ∷ bad_fault entry ∷ long_fault entry ∷ []) u (here fault (margin_fault entry) (missing_fault entry ∷ size_fault (screen_size entry size) ∷ bad_fault entry ∷ long_fault entry ∷ []) h))

pub refused_missing : (entry : Description) (size : Option Size) (fault : ProfileFault) → unsuitable_fault entry ≡ None → margin_fault entry ≡ None → (fault ≡ NoMemory) ⊎ (missing_fault entry ≡ Some fault) → IsRefused entry size fault
refused_missing entry size fault u m h =
    refused entry size fault (past fault (unsuitable_fault entry) (margin_fault entry ∷ missing_fault entry ∷ size_fault (screen_size entry size) ∷ bad_fault entry ∷ long_fault entry ∷ []) u (past fault (margin_fault entry) (missing_fault entry ∷ size_fault (screen_size entry size) ∷ bad_fault entry ∷ long_fault entry ∷ []) m (here fault (missing_fault entry) (size_fault (screen_size entry size) ∷ bad_fault entry ∷ long_fault entry ∷ []) h)))

pub refused_size : (entry : Description) (size : Option Size) (fault : ProfileFault) → unsuitable_fault entry ≡ None → margin_fault entry ≡ None → missing_fault entry ≡ None → (fault ≡ NoMemory) ⊎ (size_fault (screen_size entry size) ≡ Some fault) → IsRefused entry size fault
refused_size entry size fault u m n h =
    refused entry size fault (past fault (unsuitable_fault entry) (margin_fault entry ∷ missing_fault entry ∷ size_fault (screen_size entry size) ∷ bad_fault entry ∷ long_fault entry ∷ []) u (past fault (margin_fault entry) (missing_fault entry ∷ size_fault (screen_size entry size) ∷ bad_fault entry ∷ long_fault entry ∷ []) m (past fault (missing_fault entry) (size_fault (screen_size entry size) ∷ bad_fault entry ∷ long_fault entry ∷ []) n (here fault (size_fault (screen_size entry size)) (bad_fault entry ∷ long_fault entry ∷ []) h))))

pub refused_bad : (entry : Description) (size : Option Size) (fault : ProfileFault) → unsuitable_fault entry ≡ None → margin_fault entry ≡ None → missing_fault entry ≡ None → size_fault (screen_size entry size) ≡ None → (fault ≡ NoMemory) ⊎ (bad_fault entry ≡ Some fault) → IsRefused entry size fault
refused_bad entry size fault u m n s h =
    refused entry size fault (past fault (unsuitable_fault entry) (margin_fault entry ∷ missing_fault entry ∷ size_fault (screen_size entry size) ∷ bad_fault entry ∷ long_fault entry ∷ []) u (past fault (margin_fault entry) (missing_fault entry ∷ size_fault (screen_size entry size) ∷ bad_fault entry ∷ long_fault entry ∷ []) m (past fault (missing_fault entry) (size_fault (screen_size entry size) ∷ bad_fault entry ∷ long_fault entry ∷ []) n (past fault (size_fault (screen_size entry size)) (bad_fault entry ∷ long_fault entry ∷ []) s (here fault (bad_fault entry) (long_fault entry ∷ []) h)))))

pub refused_long : (entry : Description) (size : Option Size) (fault : ProfileFault) → unsuitable_fault entry ≡ None → margin_fault entry ≡ None → missing_fault entry ≡ None → size_fault (screen_size entry size) ≡ None → bad_fault entry ≡ None → (fault ≡ NoMemory) ⊎ (long_fault entry ≡ Some fault) → IsRefused entry size fault
refused_long entry size fault u m n s b h =
    refused entry size fault (past fault (unsuitable_fault entry) (margin_fault entry ∷ missing_fault entry ∷ size_fault (screen_size entry size) ∷ bad_fault entry ∷ long_fault entry ∷ []) u (past fault (margin_fault entry) (missing_fault entry ∷ size_fault (screen_size entry size) ∷ bad_fault entry ∷ long_fault entry ∷ []) m (past fault (missing_fault entry) (size_fault (screen_size entry size) ∷ bad_fault entry ∷ long_fault entry ∷ []) n (past fault (size_fault (screen_size entry size)) (bad_fault entry ∷ long_fault entry ∷ []) s (past fault (bad_fault entry) (long_fault entry ∷ []) b (here fault (long_fault entry) ([]) h))))))

pub none_refused : (entry : Description) (size : Option Size) → unsuitable_fault entry ≡ None → margin_fault entry ≡ None → missing_fault entry ≡ None
    → size_fault (screen_size entry size) ≡ None → bad_fault entry ≡ None → long_fault entry ≡ None → refusal entry size ≡ None
unfolding refusal
none_refused entry size u m n s b l =
    ap (λ o. first_some (o ∷ margin_fault entry ∷ missing_fault entry ∷ size_fault (screen_size entry size) ∷ bad_fault entry ∷ long_fault entry ∷ [])) u
    ∙ ap (λ o. first_some (o ∷ missing_fault entry ∷ size_fault (screen_size entry size) ∷ bad_fault entry ∷ long_fault entry ∷ [])) m
    ∙ ap (λ o. first_some (o ∷ size_fault (screen_size entry size) ∷ bad_fault entry ∷ long_fault entry ∷ [])) n
    ∙ ap (λ o. first_some (o ∷ bad_fault entry ∷ long_fault entry ∷ [])) s
    ∙ ap (λ o. first_some (o ∷ long_fault entry ∷ [])) b
    ∙ ap (λ o. first_some (o ∷ [])) l

-- ---- what is so where no element passes a test

first_case : {A : Type 0} → (b : Bool) (x : A) (rest : Option A) → cond b (Some x) rest ≡ None → (b ≡ false) × (rest ≡ None)
first_case true x rest h = cc
first_case false x rest h = (refl, h)

-- what is so of each element of a list
all_cons : {A : Type 0} → (P : A → Type 0) (x : A) (xs : List A) → P x → All P xs → All P (x ∷ xs)
all_cons P x xs p all zero d h = p
all_cons P x xs p all (suc k) d h = all k d (omega (arith, h))

all_none : {A : Type 0} → (P : A → Type 0) → All P []
all_none P k d h = absurd (omega (arith, h))

all_first : {A : Type 0} → (P : A → Type 0) (x : A) (xs : List A) → All P (x ∷ xs) → P x
all_first P x xs all = all 0 x (omega arith)

all_rest : {A : Type 0} → (P : A → Type 0) (x : A) (xs : List A) → All P (x ∷ xs) → All P xs
all_rest P x xs all k d h = all (suc k) d (omega (arith, h))

abbrev PlannedOption : Option Tree → Type 0
PlannedOption program = IfSome program IsPlanned

pub all_false : {A : Type 0} → (test : A → Bool) (xs : List A) → first_where test xs ≡ None → All (λ x. test x ≡ false) xs
all_false test [] h = all_none (λ x. test x ≡ false)
all_false test (x ∷ xs) h =
    let p = first_case (test x) x (first_where test xs) h in
    all_cons (λ x. test x ≡ false) x xs p.0 (all_false test xs p.1)

pub mapped_none : {A B : Type 0} → (f : A → B) (o : Option A) → option_map f o ≡ None → o ≡ None
mapped_none f None h = refl
mapped_none f (Some x) h = cc

-- ---- the programs

program_planned : (q : Option Tree) → is_unreadable q ≡ false → is_over_bound q ≡ false → IfSome q IsPlanned
program_planned None u o = tt
program_planned (Some program) u o = record { depth = grind (arith, nat_tests); bound = grind (arith, nat_tests) }

text_planned : (t : Option (List ℕ)) → (is_some t && is_unreadable (option_and_then parsed t)) ≡ false → is_over_bound (option_and_then parsed t) ≡ false → IfSome (option_and_then parsed t) IsPlanned
text_planned None u o = tt
text_planned (Some text) u o = program_planned (parsed text) u o

all_planned : (entry : Description) (cs : List Capability) → All (λ c. is_bad_string entry c ≡ false) cs → All (λ c. is_long_string entry c ≡ false) cs → ArePlanned (map (planned_program entry) cs)
all_planned entry [] b l = all_none PlannedOption
all_planned entry (c ∷ cs) b l =
    let good = λ (x : Capability). is_bad_string entry x ≡ false in
    let short = λ (x : Capability). is_long_string entry x ≡ false in
    all_cons PlannedOption (planned_program entry c) (map (planned_program entry) cs) (text_planned (sent_text entry c) (all_first good c cs b) (all_first short c cs l)) (all_planned entry cs (all_rest good c cs b) (all_rest short c cs l))

program_there : (q : Option Tree) → is_unreadable q ≡ false → is_some q ≡ true
program_there None u = cc
program_there (Some program) u = refl

text_there : (t : Option (List ℕ)) → is_none t ≡ false → (is_some t && is_unreadable (option_and_then parsed t)) ≡ false → is_some (option_and_then parsed t) ≡ true
text_there None n u = cc
text_there (Some text) n u = program_there (parsed text) u

-- a spare program keeps to the limits, since it is not taken otherwise
limited : (t : Bool) (program : Tree) → (nat_le (depth program) 20 && nat_le (bound program) 1024) ≡ t → IfSome (cond t (Some program) None) IsPlanned
limited true program e = record { depth = grind (arith, nat_tests); bound = grind (arith, nat_tests) }
limited false program e = tt

limits_planned : (q : Option Tree) → IfSome (within_limits q) IsPlanned
limits_planned None = tt
limits_planned (Some program) = limited (nat_le (depth program) 20 && nat_le (bound program) 1024) program refl

none_or : (t : Bool) (q : Option Tree) → IfSome q IsPlanned → IfSome (cond t None q) IsPlanned
none_or true q planned = tt
none_or false q planned = planned

used_planned : (c : Capability) (text : List ℕ) → IfSome (used_program c text) IsPlanned
used_planned capability.Ind text = limits_planned (parsed text)
used_planned c text = none_or (list_any (λ byte. byte == 10) text) (within_limits (parsed text)) (limits_planned (parsed text))

text_used : (c : Capability) (t : Option (List ℕ)) → IfSome (option_and_then (used_program c) t) IsPlanned
text_used c None = tt
text_used c (Some text) = used_planned c text

spares_planned : (entry : Description) (cs : List Capability) → ArePlanned (map (spare_program entry) cs)
spares_planned entry [] = all_none PlannedOption
spares_planned entry (c ∷ cs) =
    all_cons PlannedOption (spare_program entry c) (map (spare_program entry) cs) (none_or (is_spoiled entry c) _ (text_used c (sent_text entry c))) (spares_planned entry cs)

pub texts_planned : (entry : Description) → AreTexts entry → ArePlanned (map (planned_program entry) each_capability ++ map (spare_program entry) each_spare)
texts_planned entry t =
    All-append PlannedOption (map (planned_program entry) each_capability) (map (spare_program entry) each_spare)
    (all_planned entry each_capability (all_false (is_bad_string entry) each_capability (mapped_none _ _ t.good)) (all_false (is_long_string entry) each_capability (mapped_none _ _ t.short)))
    (spares_planned entry each_spare)

pub admitted_is_profile : (charset : Charset) (entry : Description) (rows columns : ℕ) → AreTexts entry → IsSize rows columns → IsProfile (admitted charset entry rows columns)
unfolding admitted
admitted_is_profile charset entry rows columns t size =
    let there = all_false (is_missing entry) (Cup ∷ Clear ∷ []) (mapped_none _ _ t.whole) in
    let good = all_false (is_bad_string entry) each_capability (mapped_none _ _ t.good) in
    record {
      size = size;
      whole = refl;
      programs = texts_planned entry t;
      cup = text_there (sent_text entry Cup) (there 0 Cup (omega arith)) (good 5 Cup (omega arith));
      clear = text_there (sent_text entry Clear) (there 1 Clear (omega arith)) (good 1 Clear (omega arith));
    }

-- ---- how long the text of an operation is

least_within : (least : ℕ) (programs : List (Option Tree)) → least ≤ greatest_bound least programs
least_within least [] = omega arith
least_within least (program ∷ programs) = omega (arith, least_within (max least (counted_bound program)) programs)

counted_within : (least : ℕ) (programs : List (Option Tree)) (index : ℕ) → counted_bound (slice_index_or programs index None) ≤ greatest_bound least programs
counted_within least [] index = omega arith
counted_within least (program ∷ programs) zero = omega (arith, least_within (max least (counted_bound program)) programs)
counted_within least (program ∷ programs) (suc index) = counted_within (max least (counted_bound program)) programs index

planned_at : (programs : List (Option Tree)) (index : ℕ) → ArePlanned programs → IfSome (slice_index_or programs index None) IsPlanned
planned_at [] index all = tt
planned_at (program ∷ programs) zero all = all_first PlannedOption program programs all
planned_at (program ∷ programs) (suc index) all = planned_at programs index (all_rest PlannedOption program programs all)

counted_few : (program : Option Tree) → IfSome program IsPlanned → counted_bound program ≤ 1024
counted_few None planned = omega arith
counted_few (Some program) planned = omega (arith, planned.bound)

pub greatest_few : (least : ℕ) (programs : List (Option Tree)) → ArePlanned programs → least ≤ 1024 → greatest_bound least programs ≤ 1024
greatest_few least [] all le = le
greatest_few least (program ∷ programs) all le = greatest_few (max least (counted_bound program)) programs (all_rest PlannedOption program programs all) (omega (arith, le, counted_few program (all_first PlannedOption program programs all)))

pub counted_few_at : (programs : List (Option Tree)) (index : ℕ) → ArePlanned programs → counted_bound (slice_index_or programs index None) ≤ 1024
counted_few_at programs index all = counted_few (slice_index_or programs index None) (planned_at programs index all)

outcome_within : IsBounded → (program : Tree) (parameters : List ℤ) (outcome : Outcome) → value program (start parameters (replicate 26 (pos 0))) ≡ outcome → length (bytes_in outcome) ≤ bound program
outcome_within bounded program parameters None e = omega arith
outcome_within bounded program parameters (Some r) e = bounded program (start parameters (replicate 26 (pos 0))) r.1 r.0 e

written_within : IsBounded → (program : Option Tree) (parameters : List ℤ) → IfSome program IsPlanned → length (written program parameters) ≤ counted_bound program
written_within bounded None parameters planned = omega arith
written_within bounded (Some program) parameters planned =
    let within = outcome_within bounded program parameters (value program (start parameters (replicate 26 (pos 0)))) refl in
    omega (arith, within, planned.bound)

spelled_within : (profile : ProfileView) (code : ℕ) (charset : Charset) → profile.charset ≡ charset → length (piece_bytes profile (Spelled code)) ≤ longest_character profile.charset
spelled_within profile code Ascii e =
    let none : length (piece_bytes profile (Spelled code)) ≡ 0 = ap (λ c. length (cond (is_utf8 c) (encode_utf8 code) [])) e in
    omega (arith, none)
spelled_within profile code Utf8 e =
    let most : longest_character profile.charset ≡ 4 = ap longest_character e in
    let is : length (piece_bytes profile (Spelled code)) ≡ length (encode_utf8 code) = ap (λ c. length (cond (is_utf8 c) (encode_utf8 code) [])) e in
    omega (arith, most, is, length-encode code, (len_utf8_bounds code).1)

byte_within : (charset : Charset) → 1 ≤ longest_character charset
byte_within Ascii = omega arith
byte_within Utf8 = omega arith

piece_within : IsBounded → (profile : ProfileView) → ArePlanned profile.programs → (piece : Piece) → length (piece_bytes profile piece) ≤ greatest_bound (longest_character profile.charset) profile.programs
piece_within bounded profile all (Character byte) = omega (arith, byte_within profile.charset, least_within (longest_character profile.charset) profile.programs)
piece_within bounded profile all (Spelled code) = omega (arith, spelled_within profile code profile.charset refl, least_within (longest_character profile.charset) profile.programs)
piece_within bounded profile all (Text capability parameters) =
    let one = written_within bounded (program_of profile capability) parameters (planned_at profile.programs (ordinal capability) all) in
    let greatest = counted_within (longest_character profile.charset) profile.programs (ordinal capability) in
    omega (arith, one, greatest)

bytes_within_by : IsBounded → (profile : ProfileView) → ArePlanned profile.programs → (op : Op) (resets colours : Bool) → resets_colours op ≡ resets → has_colours profile ≡ colours
    → length (bytes_of profile op) ≤ longest (longest_character profile.charset) colours profile.programs
bytes_within_by bounded profile all op true true r h =
    let two = bytes_of_two profile op (ap (λ b. b && has_colours profile) r ∙ h) in
    let first = piece_within bounded profile all (first_piece profile op) in
    let second = written_within bounded (program_of profile capability.Op) (nine []) (planned_at profile.programs (ordinal capability.Op) all) in
    let whole = length-append (piece_bytes profile (first_piece profile op)) (piece_bytes profile (text capability.Op)) in
    rw two (omega (arith, whole, first, second))
bytes_within_by bounded profile all op true false r h =
    let one = bytes_of_one profile op (ap (λ b. b && has_colours profile) r ∙ h) in
    rw one (piece_within bounded profile all (first_piece profile op))
bytes_within_by bounded profile all op false true r h =
    let one = bytes_of_one profile op (ap (λ b. b && has_colours profile) r) in
    let first = piece_within bounded profile all (first_piece profile op) in
    rw one (omega (arith, first))
bytes_within_by bounded profile all op false false r h =
    let one = bytes_of_one profile op (ap (λ b. b && has_colours profile) r) in
    rw one (piece_within bounded profile all (first_piece profile op))

pub bytes_within : IsBounded → (profile : ProfileView) → ArePlanned profile.programs → (op : Op) → length (bytes_of profile op) ≤ longest (longest_character profile.charset) (has_colours profile) profile.programs
bytes_within bounded profile all op = bytes_within_by bounded profile all op (resets_colours op) (has_colours profile) refl refl

few_bytes : (charset : Charset) → longest_character charset ≤ 1024
few_bytes Ascii = omega arith
few_bytes Utf8 = omega arith

pub longest_few : (charset : Charset) (colours : Bool) (programs : List (Option Tree)) → ArePlanned programs → longest (longest_character charset) colours programs ≤ 2048
longest_few charset true programs all = omega (arith, greatest_few (longest_character charset) programs all (few_bytes charset), counted_few_at programs (ordinal capability.Op) all)
longest_few charset false programs all = omega (arith, greatest_few (longest_character charset) programs all (few_bytes charset))

-- what a profile keeps, where these are the words of its view
pub kept : IsBounded → (charset : Charset) (entry : Description) (rows columns : ℕ) (profile : ProfileView) (shown : ℕ) (colours : Bool) (most : ℕ) → profile ≡ admitted charset entry rows columns → AreTexts entry → IsSize rows columns
    → shown ≡ shown_set profile → colours ≡ has_colours profile → most ≡ longest (longest_character profile.charset) colours profile.programs → IsKept profile shown colours most
kept bounded charset entry rows columns profile shown colours most made texts size s h m =
    let is : IsProfile profile = subst IsProfile (sym made) (admitted_is_profile charset entry rows columns texts size) in
    let same : most ≡ longest (longest_character profile.charset) (has_colours profile) profile.programs = m ∙ ap (λ b. longest (longest_character profile.charset) b profile.programs) h in
    record {
      is_profile = is;
      attributes = s;
      palette = h;
      prices = λ op. subst (λ n. length (bytes_of profile op) ≤ n) (sym same) (bytes_within bounded profile is.programs op);
      few = subst (λ n. n ≤ 2048) (sym same) (longest_few profile.charset (has_colours profile) profile.programs is.programs);
    }

-- ---- the view of the profile

pub made_profile : (charset : Charset) (entry : Description) (rows columns : ℕ) (programs : List (Option Tree)) (msgr palette : Bool) → programs ≡ map (planned_program entry) each_capability ++ map (spare_program entry) each_spare → msgr ≡ flag_at entry MSGR.0 → palette ≡ has_palette entry
    → (let profile : ProfileView = record { rows = rows; columns = columns; programs = programs; msgr = msgr; palette = palette; charset = charset } in profile) ≡ admitted charset entry rows columns
unfolding admitted
made_profile charset entry rows columns programs msgr palette p m q = λ i. record { rows = rows; columns = columns; programs = p i; msgr = m i; palette = q i; charset = charset }

pub shown_is : (profile : ProfileView) (programs : List (Option Tree)) → programs ≡ profile.programs → set_of (filter (is_shown (with_programs false programs)) all_attributes) ≡ shown_set profile
unfolding shown_set
shown_is profile programs e = ap (λ p. set_of (filter (is_shown (with_programs false p)) all_attributes)) e

pub colours_are : (profile : ProfileView) (programs : List (Option Tree)) → programs ≡ profile.programs → has_colours (with_programs profile.palette programs) ≡ has_colours profile
unfolding has_colours
colours_are profile programs e = ap (λ p. has_colours (with_programs profile.palette p)) e

-- ---- the programs of capabilities, one after another

pub programs_more : (entry : Description) (capabilities : List Capability) (index : ℕ) (d : Capability) (old new : List (Option Tree)) (program : Option Tree) → index < length capabilities
    → program ≡ planned_program entry (get_or capabilities index d) → new ≡ old ++ program ∷ []
    → old ≡ map (planned_program entry) (take index capabilities) → new ≡ map (planned_program entry) (take (index + 1) capabilities)
programs_more entry capabilities index d old new program below p n o =
    n ∙ ap (λ l. l ++ program ∷ []) o ∙ ap (λ q. map (planned_program entry) (take index capabilities) ++ q ∷ []) p ∙ sym (map_more (planned_program entry) capabilities index d below)

pub spares_more : (entry : Description) (capabilities : List Capability) (index : ℕ) (d : Capability) (first old new : List (Option Tree)) (program : Option Tree) → index < length capabilities
    → program ≡ spare_program entry (get_or capabilities index d) → new ≡ old ++ program ∷ []
    → old ≡ first ++ map (spare_program entry) (take index capabilities) → new ≡ first ++ map (spare_program entry) (take (index + 1) capabilities)
spares_more entry capabilities index d first old new program below p n o =
    n ∙ ap (λ l. l ++ program ∷ []) o ∙ append_assoc first (map (spare_program entry) (take index capabilities)) (program ∷ [])
    ∙ ap (λ q. first ++ (map (spare_program entry) (take index capabilities) ++ q ∷ [])) p
    ∙ ap (λ l. first ++ l) (sym (map_more (spare_program entry) capabilities index d below))

not_taken : {A : Type 0} → (b : Bool) (x : A) → cond b (Some x) None ≡ None → b ≡ false
not_taken true x e = cc
not_taken false x e = refl

pub first_more : (entry : Description) (capabilities : List Capability) (index : ℕ) (d : Capability) → index < length capabilities → bad_text entry (slot_of (get_or capabilities index d)) ≡ None
    → first_where (is_bad_string entry) (drop index capabilities) ≡ first_where (is_bad_string entry) capabilities
    → first_where (is_bad_string entry) (drop (index + 1) capabilities) ≡ first_where (is_bad_string entry) capabilities
first_more entry capabilities index d below none h =
    let x = get_or capabilities index d in
    let good : is_bad_string entry x ≡ false = not_taken (is_bad_string entry x) (BadString (named_text x)) none in
    sym (at_drop_more (first_where (is_bad_string entry)) capabilities index d below ∙ ap (λ b. cond b (Some x) (first_where (is_bad_string entry) (drop (index + 1) capabilities))) good) ∙ h

taken : (b : Bool) (x : Capability) (rest : Option Capability) (fault : ProfileFault) → cond b (Some (BadString (named_text x))) None ≡ Some fault → option_map (λ c. BadString (named_text c)) (cond b (Some x) rest) ≡ Some fault
taken true x rest fault e = e
taken false x rest fault e = cc

pub first_bad : (entry : Description) (capabilities : List Capability) (index : ℕ) (d : Capability) (fault : ProfileFault) → index < length capabilities
    → (fault ≡ NoMemory) ⊎ (bad_text entry (slot_of (get_or capabilities index d)) ≡ Some fault)
    → first_where (is_bad_string entry) (drop index capabilities) ≡ first_where (is_bad_string entry) capabilities
    → (fault ≡ NoMemory) ⊎ (option_map (λ c. BadString (named_text c)) (first_where (is_bad_string entry) capabilities) ≡ Some fault)
first_bad entry capabilities index d fault below (inl m) h = inl m
first_bad entry capabilities index d fault below (inr e) h =
    let x = get_or capabilities index d in
    inr (ap (option_map (λ c. BadString (named_text c))) (sym h ∙ at_drop_more (first_where (is_bad_string entry)) capabilities index d below) ∙ taken (is_bad_string entry x) x _ fault e)

-- the capability whose program could give too many bytes
pub long_first : (entry : Description) (programs : List (Option Tree)) (found : Option Capability) → programs ≡ map (planned_program entry) each_capability ++ map (spare_program entry) each_spare
    → found ≡ first_where (λ c. is_over_bound (program_in programs c)) each_capability → option_map (λ c. LongString (named_text c)) found ≡ long_fault entry
long_first entry programs found p f = ap (option_map (λ c. LongString (named_text c))) (f ∙ ap (λ l. first_where (λ c. is_over_bound (program_in l c)) each_capability) p)
