-- What is sent for a text comes of a text that is there.
use Rattle.std.proofs.Common.{◌≡◌, ◌||◌, Bool, true, false, List, ℕ, Option, Some, None, refl, sym, ◌∙◌, is_some}
use Rattle.ti_caps.specs.Description.{Description, text_at}
use Rattle.ti_caps.specs.declared.table.Slot.{Slot}
use Rattle.ti_param.specs.Parsed.{parsed}
use Rattle.ti_param.specs.Stripped.{stripped}
use Rattle.ti_param.specs.Tree.{Tree}
use Rattle.std.specs.Prelude.{option_and_then}
use Rattle.scr_term.specs.Operations.Admission.{program_at, some_text}

-- a program is that of a text
there : (entry : Description) (slot : Slot) → is_some (program_at entry slot) ≡ true → is_some (text_at entry slot.0) ≡ true
there entry slot e = by (text_at entry slot.0) e
  where
    by : (text : Option (List ℕ)) → is_some (option_and_then parsed (option_and_then (λ t. some_text (stripped t)) text)) ≡ true → is_some text ≡ true
    by None e = (cc)
    by (Some text) e = refl

any : (d : Bool) → false ≡ true → d ≡ true
any d e = (cc)

either : (a b : Bool) → (a ≡ true → b ≡ true) → (c d : Bool) → (c ≡ true → d ≡ true) → (a || c) ≡ true → (b || d) ≡ true
either a true f c d g e = refl
either true false f c d g e = any d (f refl)
either false false f c d g e = g e

-- where one of two programs is there, one of the two texts is
pub either_there : (entry : Description) (first second : Slot) (begin end : Option Tree) → begin ≡ program_at entry first → end ≡ program_at entry second → (is_some begin || is_some end) ≡ true
    → (is_some (text_at entry first.0) || is_some (text_at entry second.0)) ≡ true
either_there entry first second begin end b s some =
    either (is_some (program_at entry first)) (is_some (text_at entry first.0)) (there entry first) (is_some (program_at entry second)) (is_some (text_at entry second.0)) (there entry second)
    ((λ i. is_some (sym b i) || is_some (sym s i)) ∙ some)
