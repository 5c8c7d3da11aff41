-- The texts of the bundled entry, and what they write for their parameters.
use Rattle.std.proofs.Common.{◌≡◌, ℕ, pos, ◌+◌, ◌^◌, ◌<◌, ◌==◌, ◌||◌, Bool, true, cond, refl, sym, ◌∙◌, ap, List, [], ◌∷◌, ◌++◌, append_assoc, Some, codes, bit_and}
use Rattle.std.specs.Int.{w32, int_wrap, int_wrapping_add}
use Rattle.std.specs.Fmt.{decimal}
use Rattle.std.specs.Str.{bytes_eq}
use Rattle.std.proofs.lemmas.Bool.{agree_below_at}
use Rattle.std.proofs.lemmas.Slice.Eq.{bytes_eq-Decides}
use Rattle.scr_cells.specs.Attributes.{standout, underline, reverse, blink, dim, bold, invis}
use Rattle.ti_caps.specs.Bundled.{bundled_texts}
use Rattle.ti_param.specs.Numbers.{plain, number_text}
use Rattle.ti_param.specs.Parsed.{parsed}
use Rattle.ti_param.specs.ProgramLaws.{AddsOne, WritesDecimal}
use Rattle.ti_param.specs.Stripped.{stripped}
use Rattle.ti_param.specs.Tree.{Tree, End, Do, When, literals}
use Rattle.ti_param.specs.declared.directives.Directive.TheVariants.{Literal, Parameter, Binary}
use Rattle.ti_param.specs.declared.directives.Operator.TheVariants.{BitOr}
use Rattle.scr_term.specs.declared.operations.capability.Capability.TheVariants.{Cr, Clear, El, Ed, Hpa, Cup, Cud1, Home, Cub1, Cuf1, Cuu1, Blink, Bold, Dim, Invis, Rev, Smso, Smul, Ech, Sgr0, Cud, Cub, Cuf, Cuu, Vpa, Sgr, Op, Setaf, Setab}
use Rattle.scr_term.specs.Operations.Ecma48.{bundled_program}
use Rattle.scr_term.specs.Operations.Texts.{nine, renditions_of, written}

-- a control sequence: ESC [, parameters, and the final byte that says which it is
abbrev pub control_sequence : List ℕ → ℕ → List ℕ
control_sequence parameters final = 27 ∷ 91 ∷ parameters ++ final ∷ []

-- ---- texts without parameters

pub home_text : written (bundled_program Home) (nine []) ≡ 27 ∷ 91 ∷ 72 ∷ []
unfolding bundled_texts stripped parsed
home_text = refl

pub cr_text : written (bundled_program Cr) (nine []) ≡ 13 ∷ []
unfolding bundled_texts stripped parsed
cr_text = refl

pub clear_text : written (bundled_program Clear) (nine []) ≡ 27 ∷ 91 ∷ 72 ∷ 27 ∷ 91 ∷ 50 ∷ 74 ∷ []
unfolding bundled_texts stripped parsed
clear_text = refl

pub el_text : written (bundled_program El) (nine []) ≡ 27 ∷ 91 ∷ 75 ∷ []
unfolding bundled_texts stripped parsed
el_text = refl

pub ed_text : written (bundled_program Ed) (nine []) ≡ 27 ∷ 91 ∷ 74 ∷ []
unfolding bundled_texts stripped parsed
ed_text = refl

pub cuu1_text : written (bundled_program Cuu1) (nine []) ≡ 27 ∷ 91 ∷ 65 ∷ []
unfolding bundled_texts stripped parsed
cuu1_text = refl

pub cud1_text : written (bundled_program Cud1) (nine []) ≡ 27 ∷ 91 ∷ 66 ∷ []
unfolding bundled_texts stripped parsed
cud1_text = refl

pub cuf1_text : written (bundled_program Cuf1) (nine []) ≡ 27 ∷ 91 ∷ 67 ∷ []
unfolding bundled_texts stripped parsed
cuf1_text = refl

pub cub1_text : written (bundled_program Cub1) (nine []) ≡ 8 ∷ []
unfolding bundled_texts stripped parsed
cub1_text = refl

pub sgr0_text : written (bundled_program Sgr0) (nine []) ≡ 27 ∷ 91 ∷ 48 ∷ 109 ∷ []
unfolding bundled_texts stripped parsed
sgr0_text = refl

pub op_text : written (bundled_program Op) (nine []) ≡ 27 ∷ 91 ∷ 51 ∷ 57 ∷ 59 ∷ 52 ∷ 57 ∷ 109 ∷ []
unfolding bundled_texts stripped parsed
op_text = refl

pub smso_text : written (bundled_program Smso) (nine []) ≡ 27 ∷ 91 ∷ 55 ∷ 109 ∷ []
unfolding bundled_texts stripped parsed
smso_text = refl

pub smul_text : written (bundled_program Smul) (nine []) ≡ 27 ∷ 91 ∷ 52 ∷ 109 ∷ []
unfolding bundled_texts stripped parsed
smul_text = refl

pub rev_text : written (bundled_program Rev) (nine []) ≡ 27 ∷ 91 ∷ 55 ∷ 109 ∷ []
unfolding bundled_texts stripped parsed
rev_text = refl

pub blink_text : written (bundled_program Blink) (nine []) ≡ 27 ∷ 91 ∷ 53 ∷ 109 ∷ []
unfolding bundled_texts stripped parsed
blink_text = refl

pub dim_text : written (bundled_program Dim) (nine []) ≡ 27 ∷ 91 ∷ 50 ∷ 109 ∷ []
unfolding bundled_texts stripped parsed
dim_text = refl

pub bold_text : written (bundled_program Bold) (nine []) ≡ 27 ∷ 91 ∷ 49 ∷ 109 ∷ []
unfolding bundled_texts stripped parsed
bold_text = refl

pub invis_text : written (bundled_program Invis) (nine []) ≡ 27 ∷ 91 ∷ 56 ∷ 109 ∷ []
unfolding bundled_texts stripped parsed
invis_text = refl

-- ---- texts of numbers

-- the number after one, as it is written
next_number : WritesDecimal → AddsOne → (n : ℕ) → n + 1 < 2 ^ 31 → number_text plain (int_wrap w32 (int_wrapping_add w32 (pos n) (pos 1))) ≡ decimal (n + 1)
next_number law adds n small = ap (λ z. number_text plain (int_wrap w32 z)) (adds n small) ∙ law (n + 1) small

pub cuu_text : WritesDecimal → (n : ℕ) → n < 2 ^ 31 → written (bundled_program Cuu) (nine (pos n ∷ [])) ≡ control_sequence (decimal n) 65
unfolding bundled_texts stripped parsed
cuu_text law n small = ap (λ ds. control_sequence ds 65) (law n small)

pub cud_text : WritesDecimal → (n : ℕ) → n < 2 ^ 31 → written (bundled_program Cud) (nine (pos n ∷ [])) ≡ control_sequence (decimal n) 66
unfolding bundled_texts stripped parsed
cud_text law n small = ap (λ ds. control_sequence ds 66) (law n small)

pub cuf_text : WritesDecimal → (n : ℕ) → n < 2 ^ 31 → written (bundled_program Cuf) (nine (pos n ∷ [])) ≡ control_sequence (decimal n) 67
unfolding bundled_texts stripped parsed
cuf_text law n small = ap (λ ds. control_sequence ds 67) (law n small)

pub cub_text : WritesDecimal → (n : ℕ) → n < 2 ^ 31 → written (bundled_program Cub) (nine (pos n ∷ [])) ≡ control_sequence (decimal n) 68
unfolding bundled_texts stripped parsed
cub_text law n small = ap (λ ds. control_sequence ds 68) (law n small)

pub ech_text : WritesDecimal → (n : ℕ) → n < 2 ^ 31 → written (bundled_program Ech) (nine (pos n ∷ [])) ≡ control_sequence (decimal n) 88
unfolding bundled_texts stripped parsed
ech_text law n small = ap (λ ds. control_sequence ds 88) (law n small)

pub hpa_text : WritesDecimal → AddsOne → (n : ℕ) → n + 1 < 2 ^ 31 → written (bundled_program Hpa) (nine (pos n ∷ [])) ≡ control_sequence (decimal (n + 1)) 71
unfolding bundled_texts stripped parsed
hpa_text law adds n small = ap (λ ds. control_sequence ds 71) (next_number law adds n small)

pub vpa_text : WritesDecimal → AddsOne → (n : ℕ) → n + 1 < 2 ^ 31 → written (bundled_program Vpa) (nine (pos n ∷ [])) ≡ control_sequence (decimal (n + 1)) 100
unfolding bundled_texts stripped parsed
vpa_text law adds n small = ap (λ ds. control_sequence ds 100) (next_number law adds n small)

pub setaf_text : WritesDecimal → (n : ℕ) → n < 2 ^ 31 → written (bundled_program Setaf) (nine (pos n ∷ [])) ≡ control_sequence (51 ∷ decimal n) 109
unfolding bundled_texts stripped parsed
setaf_text law n small = ap (λ ds. control_sequence (51 ∷ ds) 109) (law n small)

pub setab_text : WritesDecimal → (n : ℕ) → n < 2 ^ 31 → written (bundled_program Setab) (nine (pos n ∷ [])) ≡ control_sequence (52 ∷ decimal n) 109
unfolding bundled_texts stripped parsed
setab_text law n small = ap (λ ds. control_sequence (52 ∷ ds) 109) (law n small)

pub cup_text : WritesDecimal → AddsOne → (r c : ℕ) → r + 1 < 2 ^ 31 → c + 1 < 2 ^ 31 → written (bundled_program Cup) (nine (pos r ∷ pos c ∷ [])) ≡ control_sequence (decimal (r + 1) ++ 59 ∷ decimal (c + 1)) 72
unfolding bundled_texts stripped parsed
cup_text law adds r c few_r few_c =
    ap (λ ds. 27 ∷ 91 ∷ (ds ++ (59 ∷ (number_text plain (int_wrap w32 (int_wrapping_add w32 (pos c) (pos 1))) ++ 72 ∷ [])))) (next_number law adds r few_r)
    ∙ ap (λ ds. 27 ∷ 91 ∷ (decimal (r + 1) ++ (59 ∷ (ds ++ 72 ∷ [])))) (next_number law adds c few_c)
    ∙ ap (λ t. 27 ∷ 91 ∷ t) (sym (append_assoc (decimal (r + 1)) (59 ∷ decimal (c + 1)) (72 ∷ [])))

-- ---- `sgr`

-- a part of a text that is written where the test is not 0
abbrev part_where : Tree → List ℕ → Tree → Tree
part_where test part rest = When test (literals part) End rest

abbrev sgr_tree : Tree
sgr_tree =
    Do (Literal 27) (Do (Literal 91) (Do (Literal 48)
    (part_where (Do (Parameter 0) (Do (Parameter 2) (Do (Binary BitOr) End))) (codes ";7")
    (part_where (Do (Parameter 1) End) (codes ";4")
    (part_where (Do (Parameter 3) End) (codes ";5")
    (part_where (Do (Parameter 4) End) (codes ";2")
    (part_where (Do (Parameter 5) End) (codes ";1")
    (part_where (Do (Parameter 6) End) (codes ";8")
    (Do (Literal 109) End)))))))))

sgr_is : bundled_program Sgr ≡ Some sgr_tree
unfolding bundled_texts stripped parsed
sgr_is = refl

-- the parameters that it writes for a set
abbrev part_if : Bool → ℕ → List ℕ
part_if is digit = cond is (59 ∷ digit ∷ []) []

abbrev has_one : ℕ → ℕ → Bool
has_one set attribute = bit_and set attribute == attribute

abbrev pub rendition_parameters : ℕ → List ℕ
rendition_parameters set =
    48 ∷ part_if (has_one set standout || has_one set reverse) 55 ++ part_if (has_one set underline) 52 ++ part_if (has_one set blink) 53
    ++ part_if (has_one set dim) 50 ++ part_if (has_one set bold) 49 ++ part_if (has_one set invis) 56

abbrev writes_them : ℕ → Bool
writes_them set = bytes_eq (written (Some sgr_tree) (renditions_of set)) (control_sequence (rendition_parameters set) 109)

pub sgr_text : (set : ℕ) → set < 128 → written (bundled_program Sgr) (renditions_of set) ≡ control_sequence (rendition_parameters set) 109
sgr_text set small =
    ap (λ p. written p (renditions_of set)) sgr_is
    ∙ (bytes_eq-Decides (written (Some sgr_tree) (renditions_of set)) (control_sequence (rendition_parameters set) 109)).0 (agree_below_at writes_them (λ _. true) 128 set refl small)
