-- The profile of the bundled entry, computed.
use Rattle.std.proofs.Common.{◌≡◌, ◌∙◌, ℕ, Bool, true, false, cond, not, ◌&&◌, ◌++◌, nat_le, refl, sym, ap, subst, arith, List, [], ◌∷◌, All, map, Option, Some, None, IfSome, option_and_then}
use Rattle.std.specs.List.{list_all}
use Rattle.std.proofs.lemmas.Bool.Decides.{nat_tests}
use Rattle.std.proofs.lemmas.List.Elements.{All-nil, All-cons}
use Rattle.scr_cells.specs.PictureViews.{IsSize}
use Rattle.scr_cells.specs.declared.charsets.Charset.{Charset}
use Rattle.ti_caps.specs.Bundled.{IsBundled, bundled_texts, listed}
use Rattle.ti_caps.specs.Description.{Description, text_at}
use Rattle.ti_caps.specs.declared.slots.TheConstants.{MSGR, COLORS, PAIRS, NCV}
use Rattle.ti_param.specs.Parsed.{parsed}
use Rattle.ti_param.specs.Stripped.{stripped}
use Rattle.ti_param.specs.Tree.{Tree, bound, depth}
use Rattle.scr_term.proofs.ChoiceLaws.{both_true}
use Rattle.scr_term.specs.declared.operations.capability.Capability.{Capability}
use Rattle.scr_term.specs.declared.operations.capability.Capability.TheVariants.{Cr, Clear, El, Ed, Hpa, Cup, Cud1, Home, Cub1, Cuf1, Cuu1, Blink, Bold, Dim, Invis, Rev, Smso, Smul, Ech, Sgr0, Cud, Cub, Cuf, Cuu, Vpa, Sgr, Op, Setaf, Setab, Il1, Il, Dl1, Dl, Ich, Dch1, Dch, Ind, Ri, Indn, Rin, Rep}
use Rattle.scr_term.specs.Operations.Abilities.{full_abilities}
use Rattle.scr_term.specs.Operations.Admission.{IsEcma48, admitted, has_palette, is_at_least, is_spoiled, is_zero_or_absent, planned_program, some_text, spare_program, used_program}
use Rattle.scr_term.specs.Operations.Capabilities.{each_capability, each_spare, slot_of}
use Rattle.scr_term.specs.Operations.Ecma48.{Ecma48Laws, bundled_program, ecma48_profile}
use Rattle.scr_term.specs.Operations.Profiles.{ProfileView, IsPlanned, IsProfile, abilities, has_colours, is_there, program_of, shown_set}

-- the entry's programs
programs_are : (entry : Description) → IsBundled entry → map (planned_program entry) each_capability ≡ map bundled_program each_capability
programs_are entry b =
    ap (λ f. map f each_capability)
    (λ i capability. option_and_then parsed (option_and_then (λ text. some_text (stripped text)) (b.texts (slot_of capability).0 i)))

-- it has no spare one
none_of_two : (t : Bool) (q : Option Tree) → q ≡ None → cond t None q ≡ None
none_of_two true q e = refl
none_of_two false q e = e

spare_is_none : (entry : Description) → IsBundled entry → (capability : Capability) → listed bundled_texts (slot_of capability).0 ≡ None → spare_program entry capability ≡ bundled_program capability
spare_is_none entry b capability absent =
    let none : text_at entry (slot_of capability).0 ≡ None = b.texts (slot_of capability).0 ∙ absent in
    none_of_two (is_spoiled entry capability) (option_and_then (used_program capability) (option_and_then (λ text. some_text (stripped text)) (text_at entry (slot_of capability).0)))
    (ap (λ t. option_and_then (used_program capability) (option_and_then (λ text. some_text (stripped text)) t)) none)
    ∙ sym (ap (λ t. option_and_then parsed (option_and_then (λ text. some_text (stripped text)) t)) absent)

spares_are : (entry : Description) → IsBundled entry → map (spare_program entry) each_spare ≡ map bundled_program each_spare
unfolding bundled_texts
spares_are entry b =
    let one : (capability : Capability) → listed bundled_texts (slot_of capability).0 ≡ None → spare_program entry capability ≡ bundled_program capability = spare_is_none entry b in
    λ i. one Il1 refl i ∷ one Il refl i ∷ one Dl1 refl i ∷ one Dl refl i ∷ one Ich refl i ∷ one Dch1 refl i ∷ one Dch refl i ∷ one Ind refl i ∷ one Ri refl i ∷ one Indn refl i ∷ one Rin refl i ∷ one Rep refl i ∷ []

has_a_palette : (entry : Description) → IsBundled entry → has_palette entry ≡ true
has_a_palette entry b = λ i. is_at_least 8 (b.numbers COLORS.0 i) && is_at_least 64 (b.numbers PAIRS.0 i) && is_zero_or_absent (b.numbers NCV.0 i)

made_of : (charset : Charset) (rows columns : ℕ) (entry : Description) → IsBundled entry → admitted charset entry rows columns ≡ ecma48_profile charset rows columns
unfolding admitted ecma48_profile
made_of charset rows columns entry b = λ i. record {
  rows = rows;
  columns = columns;
  programs = programs_are entry b i ++ spares_are entry b i;
  msgr = b.flags MSGR.0 i;
  palette = has_a_palette entry b i;
  charset = charset;
}

-- the same limits as a test
abbrev is_planned : Option Tree → Bool
is_planned None = true
is_planned (Some program) = nat_le (depth program) 20 && nat_le (bound program) 1024

planned_is : (program : Option Tree) → is_planned program ≡ true → IfSome program IsPlanned
planned_is None h = tt
planned_is (Some program) h = record { depth = grind (arith, nat_tests); bound = grind (arith, nat_tests) }

all_planned : (programs : List (Option Tree)) → list_all is_planned programs ≡ true → All (λ program. IfSome program IsPlanned) programs
all_planned [] h = All-nil (λ p. IfSome p IsPlanned)
all_planned (program ∷ programs) h =
    let both = both_true (is_planned program) (list_all is_planned programs) h in
    All-cons (λ p. IfSome p IsPlanned) program programs (planned_is program both.0) (all_planned programs both.1)

is_one : (charset : Charset) (rows columns : ℕ) → IsSize rows columns → IsProfile (ecma48_profile charset rows columns)
unfolding ecma48_profile bundled_texts stripped parsed
is_one charset rows columns size = record {
  size = size;
  whole = refl;
  programs = all_planned (map bundled_program each_capability ++ map bundled_program each_spare) refl;
  cup = refl;
  clear = refl;
}

shows_all : (charset : Charset) (rows columns : ℕ) → abilities (ecma48_profile charset rows columns) ≡ full_abilities charset rows columns
unfolding ecma48_profile bundled_texts stripped parsed shown_set has_colours
shows_all charset rows columns = refl

pub made : (profile : ProfileView) → IsEcma48 profile → profile ≡ ecma48_profile profile.charset profile.rows profile.columns
made profile is = is.made ∙ made_of profile.charset profile.rows profile.columns is.entry is.bundled

pub is_profile : (profile : ProfileView) → IsEcma48 profile → IsProfile profile
is_profile profile is = subst IsProfile (sym (made profile is)) (is_one profile.charset profile.rows profile.columns is.size)

pub ecma48_laws_hold : Ecma48Laws
ecma48_laws_hold = record { made = made; is_profile = is_profile; can_show = shows_all }

-- ---- what it has

-- one of those that the bundled entry does without
abbrev pub is_spare : Capability → Bool
is_spare Il1 = true
is_spare Il = true
is_spare Dl1 = true
is_spare Dl = true
is_spare Ich = true
is_spare Dch1 = true
is_spare Dch = true
is_spare Ind = true
is_spare Ri = true
is_spare Indn = true
is_spare Rin = true
is_spare Rep = true
is_spare _ = false

there : (charset : Charset) (rows columns : ℕ) (capability : Capability) → is_there (ecma48_profile charset rows columns) capability ≡ not (is_spare capability)
unfolding ecma48_profile bundled_texts stripped parsed
there charset rows columns Cr = refl
there charset rows columns Clear = refl
there charset rows columns El = refl
there charset rows columns Ed = refl
there charset rows columns Hpa = refl
there charset rows columns Cup = refl
there charset rows columns Cud1 = refl
there charset rows columns Home = refl
there charset rows columns Cub1 = refl
there charset rows columns Cuf1 = refl
there charset rows columns Cuu1 = refl
there charset rows columns Blink = refl
there charset rows columns Bold = refl
there charset rows columns Dim = refl
there charset rows columns Invis = refl
there charset rows columns Rev = refl
there charset rows columns Smso = refl
there charset rows columns Smul = refl
there charset rows columns Ech = refl
there charset rows columns Sgr0 = refl
there charset rows columns Cud = refl
there charset rows columns Cub = refl
there charset rows columns Cuf = refl
there charset rows columns Cuu = refl
there charset rows columns Vpa = refl
there charset rows columns Sgr = refl
there charset rows columns Op = refl
there charset rows columns Setaf = refl
there charset rows columns Setab = refl
there charset rows columns Il1 = refl
there charset rows columns Il = refl
there charset rows columns Dl1 = refl
there charset rows columns Dl = refl
there charset rows columns Ich = refl
there charset rows columns Dch1 = refl
there charset rows columns Dch = refl
there charset rows columns Ind = refl
there charset rows columns Ri = refl
there charset rows columns Indn = refl
there charset rows columns Rin = refl
there charset rows columns Rep = refl

program_at : (charset : Charset) (rows columns : ℕ) (capability : Capability) → program_of (ecma48_profile charset rows columns) capability ≡ bundled_program capability
unfolding ecma48_profile
program_at charset rows columns Cr = refl
program_at charset rows columns Clear = refl
program_at charset rows columns El = refl
program_at charset rows columns Ed = refl
program_at charset rows columns Hpa = refl
program_at charset rows columns Cup = refl
program_at charset rows columns Cud1 = refl
program_at charset rows columns Home = refl
program_at charset rows columns Cub1 = refl
program_at charset rows columns Cuf1 = refl
program_at charset rows columns Cuu1 = refl
program_at charset rows columns Blink = refl
program_at charset rows columns Bold = refl
program_at charset rows columns Dim = refl
program_at charset rows columns Invis = refl
program_at charset rows columns Rev = refl
program_at charset rows columns Smso = refl
program_at charset rows columns Smul = refl
program_at charset rows columns Ech = refl
program_at charset rows columns Sgr0 = refl
program_at charset rows columns Cud = refl
program_at charset rows columns Cub = refl
program_at charset rows columns Cuf = refl
program_at charset rows columns Cuu = refl
program_at charset rows columns Vpa = refl
program_at charset rows columns Sgr = refl
program_at charset rows columns Op = refl
program_at charset rows columns Setaf = refl
program_at charset rows columns Setab = refl
program_at charset rows columns Il1 = refl
program_at charset rows columns Il = refl
program_at charset rows columns Dl1 = refl
program_at charset rows columns Dl = refl
program_at charset rows columns Ich = refl
program_at charset rows columns Dch1 = refl
program_at charset rows columns Dch = refl
program_at charset rows columns Ind = refl
program_at charset rows columns Ri = refl
program_at charset rows columns Indn = refl
program_at charset rows columns Rin = refl
program_at charset rows columns Rep = refl

pub program_is : (profile : ProfileView) → IsEcma48 profile → (capability : Capability) → program_of profile capability ≡ bundled_program capability
program_is profile is capability = ap (λ p. program_of p capability) (made profile is) ∙ program_at profile.charset profile.rows profile.columns capability

pub all_there : (profile : ProfileView) → IsEcma48 profile → (capability : Capability) → is_there profile capability ≡ not (is_spare capability)
all_there profile is capability = ap (λ p. is_there p capability) (made profile is) ∙ there profile.charset profile.rows profile.columns capability

pub colours_are_shown : (profile : ProfileView) → IsEcma48 profile → has_colours profile ≡ true
colours_are_shown profile is = ap has_colours (made profile is) ∙ ap (λ a. a.colours) (shows_all profile.charset profile.rows profile.columns)

pub every_is_shown : (profile : ProfileView) → IsEcma48 profile → shown_set profile ≡ 127
every_is_shown profile is = ap shown_set (made profile is) ∙ ap (λ a. a.shown) (shows_all profile.charset profile.rows profile.columns)
