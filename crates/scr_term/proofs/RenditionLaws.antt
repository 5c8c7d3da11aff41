-- Renditions as the bundled entry sends them: `sgr` of a set of attributes, `op`, and the colours.
use Rattle.std.proofs.Common.{◌≡◌, ℕ, zero, suc, ◌+◌, ◌<◌, ◌≤◌, ◌&&◌, Bool, true, false, IsTrue, refl, sym, ◌∙◌, ap, subst, arith, eqb, List, [], ◌∷◌, length, nat_le, Option, Some, None}
use Rattle.std.specs.List.{AllByRecursion, list_all}
use Rattle.std.specs.Option.{is_none}
use Rattle.std.specs.Fmt.{decimal, digits}
use Rattle.std.proofs.lemmas.Bool.{agree_below_at, eqb-true, false≢true}
use Rattle.std.proofs.lemmas.Bool.Decides.{nat_tests}
use Rattle.scr_cells.specs.Attributes.{negative_set}
use Rattle.scr_cells.specs.PenViews.{PenView, plain_pen}
use Rattle.scr_cells.specs.declared.charsets.Charset.{Charset}
use Rattle.scr_term.specs.Operations.States.{TerminalState}
use Rattle.scr_term.specs.Ecma.Units.{is_parameter_byte}
use Rattle.scr_term.specs.Ecma.Meanings.{Leads, control_function, parameters_of, renditions}
use Rattle.scr_term.proofs.BundledTextLaws.{control_sequence, rendition_parameters}
use Rattle.scr_term.proofs.ChoiceLaws.{both_true}
use Rattle.scr_term.proofs.LeadsLaws.{sequence_leads}

-- the pen that parameters make which begin with 0, whatever it was
abbrev pen_after : Option (List (Option ℕ)) → Option PenView
pen_after (Some (Some zero ∷ ns)) = renditions plain_pen ns
pen_after _ = None

pen_after-any : (parameters : Option (List (Option ℕ))) (pen next : PenView) → pen_after parameters ≡ Some next
    → (ns : List (Option ℕ)) × (parameters ≡ Some ns) × (renditions pen ns ≡ Some next)
pen_after-any (Some (Some zero ∷ ns)) pen next h = (Some zero ∷ ns, refl, h)
pen_after-any (Some (Some (suc n) ∷ ns)) pen next h = (cc)
pen_after-any (Some (None ∷ ns)) pen next h = (cc)
pen_after-any (Some []) pen next h = (cc)
pen_after-any None pen next h = (cc)

-- the pen has these attributes, in default colours
abbrev is_pen_of : Option PenView → ℕ → Bool
is_pen_of None set = false
is_pen_of (Some pen) set = eqb pen.attrs set && is_none pen.foreground && is_none pen.background

abbrev pen_of : ℕ → PenView
pen_of set = record { attrs = set; foreground = None; background = None }

is_pen : (pen : Option PenView) (set : ℕ) → is_pen_of pen set ≡ true → pen ≡ Some (pen_of set)
is_pen None set h = absurd (false≢true h)
is_pen (Some pen) set h = by pen.foreground pen.background refl refl (both_true _ _ (both_true _ _ h).0).0 (both_true _ _ (both_true _ _ h).0).1 (both_true _ _ h).1
  where
    by : (f b : Option ℕ) → pen.foreground ≡ f → pen.background ≡ b → eqb pen.attrs set ≡ true → is_none pen.foreground ≡ true → is_none pen.background ≡ true → Some pen ≡ Some (pen_of set)
    by None None e g attrs x y = λ i. Some (record { attrs = eqb-true pen.attrs set attrs i; foreground = e i; background = g i })
    by (Some c) b e g attrs x y = absurd (false≢true (sym (ap is_none e) ∙ x))
    by None (Some c) e g attrs x y = absurd (false≢true (sym (ap is_none g) ∙ y))

each_byte : (bytes : List ℕ) → list_all is_parameter_byte bytes ≡ true → AllByRecursion (λ byte. IsTrue (is_parameter_byte byte)) bytes
each_byte [] h = tt
each_byte (byte ∷ bytes) h = let both = both_true (is_parameter_byte byte) (list_all is_parameter_byte bytes) h in (both.0, each_byte bytes both.1)

abbrev sets_them : ℕ → Bool
sets_them set =
    list_all is_parameter_byte (rendition_parameters set) && nat_le (length (rendition_parameters set)) 61
    && is_pen_of (pen_after (parameters_of (rendition_parameters set))) (negative_set set)

all_set : (set : ℕ) → set < 128 → sets_them set ≡ true
all_set set small = agree_below_at sets_them (λ _. true) 128 set refl small

-- `sgr` of a set turns on that set, standout as reverse, and makes the colours the default ones
pub set_leads : (charset : Charset) (rows columns : ℕ) (old : TerminalState) (set : ℕ) → set < 128
    → Leads charset rows columns old (control_sequence (rendition_parameters set) 109) (record old { pen = pen_of (negative_set set) })
unfolding control_function
set_leads charset rows columns old set small =
    let both = both_true _ (is_pen_of (pen_after (parameters_of (rendition_parameters set))) (negative_set set)) (all_set set small) in
    let bytes = both_true (list_all is_parameter_byte (rendition_parameters set)) (nat_le (length (rendition_parameters set)) 61) both.0 in
    let short : length (rendition_parameters set) ≤ 61 = (let e = bytes.1 in grind (arith, nat_tests)) in
    let any = pen_after-any (parameters_of (rendition_parameters set)) old.pen (pen_of (negative_set set)) (is_pen (pen_after (parameters_of (rendition_parameters set))) (negative_set set) both.1) in
    sequence_leads charset rows columns old (record old { pen = pen_of (negative_set set) }) (rendition_parameters set) 109 any.0
    (record { digits = each_byte (rendition_parameters set) bytes.0; short = short; from_at_sign = omega arith; to_tilde = omega arith })
    any.1 (rw any.2 refl)

-- `op` makes the colours the default ones
pub default_leads : (charset : Charset) (rows columns : ℕ) (old : TerminalState) → Leads charset rows columns old (control_sequence (51 ∷ 57 ∷ 59 ∷ 52 ∷ 57 ∷ []) 109) (record old { pen = pen_of old.pen.attrs })
unfolding control_function
default_leads charset rows columns old =
    sequence_leads charset rows columns old (record old { pen = pen_of old.pen.attrs }) (51 ∷ 57 ∷ 59 ∷ 52 ∷ 57 ∷ []) 109 (Some 39 ∷ Some 49 ∷ [])
    (record { digits = (refl, (refl, (refl, (refl, (refl, tt))))); short = omega arith; from_at_sign = omega arith; to_tilde = omega arith })
    refl refl

-- what holds of the eight colours holds of each
pub each_colour : (P : ℕ → Type 0) → P 0 → P 1 → P 2 → P 3 → P 4 → P 5 → P 6 → P 7 → (n : ℕ) → n < 8 → P n
each_colour P a b c d e f g h n less =
    next n 0 less a (λ n1. next n 1 less b (λ n2. next n 2 less c (λ n3. next n 3 less d (λ n4. next n 4 less e (λ n5. next n 5 less f (λ n6. next n 6 less g (λ n7. next n 7 less h (λ n8. absurd (omega arith)))))))))
  where
    next : (n k : ℕ) → n < 8 → P k → ((n ≡ k → ⊥) → P n) → P n
    next n k less here there = by (eqb n k) refl
      where
        by : (t : Bool) → eqb n k ≡ t → P n
        by true e = subst P (sym (eqb-true n k e)) here
        by false e = there (λ same. false≢true (sym e ∙ (grind (arith, nat_tests))))

pub foreground_leads : (charset : Charset) (rows columns : ℕ) (old : TerminalState) (n : ℕ) → n < 8 → Leads charset rows columns old (control_sequence (51 ∷ decimal n) 109) (record old { pen = record old.pen { foreground = Some n } })
unfolding control_function digits
foreground_leads charset rows columns old =
    let leads : (ds : List ℕ) (n : ℕ) → AllByRecursion (λ byte. IsTrue (is_parameter_byte byte)) ds → length ds ≤ 1 → parameters_of (51 ∷ ds) ≡ Some (Some (30 + n) ∷ []) → renditions old.pen (Some (30 + n) ∷ []) ≡ Some (record old.pen { foreground = Some n }) → Leads charset rows columns old (control_sequence (51 ∷ ds) 109) (record old { pen = record old.pen { foreground = Some n } }) =
    λ ds n are short read means. sequence_leads charset rows columns old (record old { pen = record old.pen { foreground = Some n } }) (51 ∷ ds) 109 (Some (30 + n) ∷ [])
    (record { digits = (refl, are); short = omega arith; from_at_sign = omega arith; to_tilde = omega arith }) read (rw means refl) in
    each_colour (λ n. Leads charset rows columns old (control_sequence (51 ∷ decimal n) 109) (record old { pen = record old.pen { foreground = Some n } }))
    (leads (48 ∷ []) 0 (refl, tt) (omega arith) refl refl)
    (leads (49 ∷ []) 1 (refl, tt) (omega arith) refl refl)
    (leads (50 ∷ []) 2 (refl, tt) (omega arith) refl refl)
    (leads (51 ∷ []) 3 (refl, tt) (omega arith) refl refl)
    (leads (52 ∷ []) 4 (refl, tt) (omega arith) refl refl)
    (leads (53 ∷ []) 5 (refl, tt) (omega arith) refl refl)
    (leads (54 ∷ []) 6 (refl, tt) (omega arith) refl refl)
    (leads (55 ∷ []) 7 (refl, tt) (omega arith) refl refl)

pub background_leads : (charset : Charset) (rows columns : ℕ) (old : TerminalState) (n : ℕ) → n < 8 → Leads charset rows columns old (control_sequence (52 ∷ decimal n) 109) (record old { pen = record old.pen { background = Some n } })
unfolding control_function digits
background_leads charset rows columns old =
    let leads : (ds : List ℕ) (n : ℕ) → AllByRecursion (λ byte. IsTrue (is_parameter_byte byte)) ds → length ds ≤ 1 → parameters_of (52 ∷ ds) ≡ Some (Some (40 + n) ∷ []) → renditions old.pen (Some (40 + n) ∷ []) ≡ Some (record old.pen { background = Some n }) → Leads charset rows columns old (control_sequence (52 ∷ ds) 109) (record old { pen = record old.pen { background = Some n } }) =
    λ ds n are short read means. sequence_leads charset rows columns old (record old { pen = record old.pen { background = Some n } }) (52 ∷ ds) 109 (Some (40 + n) ∷ [])
    (record { digits = (refl, are); short = omega arith; from_at_sign = omega arith; to_tilde = omega arith }) read (rw means refl) in
    each_colour (λ n. Leads charset rows columns old (control_sequence (52 ∷ decimal n) 109) (record old { pen = record old.pen { background = Some n } }))
    (leads (48 ∷ []) 0 (refl, tt) (omega arith) refl refl)
    (leads (49 ∷ []) 1 (refl, tt) (omega arith) refl refl)
    (leads (50 ∷ []) 2 (refl, tt) (omega arith) refl refl)
    (leads (51 ∷ []) 3 (refl, tt) (omega arith) refl refl)
    (leads (52 ∷ []) 4 (refl, tt) (omega arith) refl refl)
    (leads (53 ∷ []) 5 (refl, tt) (omega arith) refl refl)
    (leads (54 ∷ []) 6 (refl, tt) (omega arith) refl refl)
    (leads (55 ∷ []) 7 (refl, tt) (omega arith) refl refl)
