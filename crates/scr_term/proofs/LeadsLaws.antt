-- Texts that lead from a state to another: one unit, one control sequence, and one text behind another.
use Rattle.std.proofs.Common.{◌≡◌, ℕ, ◌≤◌, sym, ◌∙◌, ap, arith, List, [], ◌∷◌, ◌++◌, append_assoc, length, Option, Some, option_and_then}
use Rattle.std.specs.List.{flat_map, AllByRecursion}
use Rattle.std.specs.Fmt.{decimal}
use Rattle.std.proofs.lemmas.Fmt.{length-decimal-le}
use Rattle.std.proofs.lemmas.List.{append-nil}
use Rattle.std.proofs.lemmas.List.Concat.{flat_map-append}
use Rattle.scr_cells.specs.declared.charsets.Charset.{Charset}
use Rattle.scr_term.specs.Operations.States.{TerminalState}
use Rattle.scr_term.specs.Ecma.Units.{EcmaUnit, Sequence, spelling, IsUnit, IsSequence}
use Rattle.scr_term.specs.Ecma.Meanings.{Leads, control_function, meaning, meanings, parameters_of}
use Rattle.scr_term.proofs.BundledTextLaws.{control_sequence}
use Rattle.scr_term.proofs.ChoiceLaws.{same_some, then_some}
use Rattle.scr_term.proofs.Parameters.{parameter_bytes}

-- a unit
pub unit_leads : (charset : Charset) (rows columns : ℕ) (old new : TerminalState) (unit : EcmaUnit) → IsUnit charset unit → meaning rows columns old unit ≡ Some new → Leads charset rows columns old (spelling unit) new
unit_leads charset rows columns old new unit is means = record {
  units = unit ∷ [];
  division = record { whole = sym (append-nil (spelling unit ++ []) ∙ append-nil (spelling unit)); each = (is, tt) };
  meaning = ap (option_and_then (λ next. Some next)) means;
}

-- a control sequence, by its parameters
pub sequence_leads : (charset : Charset) (rows columns : ℕ) (old new : TerminalState) (parameters : List ℕ) (final : ℕ) (ns : List (Option ℕ)) → IsSequence parameters final
    → parameters_of parameters ≡ Some ns → control_function rows columns old ns final ≡ Some new → Leads charset rows columns old (control_sequence parameters final) new
sequence_leads charset rows columns old new parameters final ns is read means =
    unit_leads charset rows columns old new (Sequence parameters final) is (ap (option_and_then (λ list. control_function rows columns old list final)) read ∙ means)

-- a number is parameters
pub short_decimal : (n : ℕ) → n ≤ 501 → length (decimal n) ≤ 3
short_decimal n few = length-decimal-le 3 n (omega arith) (omega arith) (omega arith)

pub decimal_is_sequence : (n final : ℕ) → n ≤ 501 → 64 ≤ final → final ≤ 126 → IsSequence (decimal n) final
decimal_is_sequence n final few low high = record {
  digits = parameter_bytes n (omega arith);
  short = omega (arith, short_decimal n few);
  from_at_sign = low;
  to_tilde = high;
}

-- one text behind another
meanings-append : (rows columns : ℕ) (old next : TerminalState) (us vs : List EcmaUnit) → meanings rows columns old us ≡ Some next
    → meanings rows columns old (us ++ vs) ≡ meanings rows columns next vs
meanings-append rows columns old next [] vs h = ap (λ s. meanings rows columns s vs) (same_some old next h)
meanings-append rows columns old next (u ∷ us) vs h =
    let first = then_some (meaning rows columns old u) (λ s. meanings rows columns s us) next h in
    ap (option_and_then (λ s. meanings rows columns s (us ++ vs))) first.1 ∙ meanings-append rows columns first.0 next us vs first.2

all_units_append : (charset : Charset) (us vs : List EcmaUnit) → AllByRecursion (IsUnit charset) us → AllByRecursion (IsUnit charset) vs → AllByRecursion (IsUnit charset) (us ++ vs)
all_units_append charset [] vs hu hv = hv
all_units_append charset (u ∷ us) vs hu hv = (hu.0, all_units_append charset us vs hu.1 hv)

pub leads-append : (charset : Charset) (rows columns : ℕ) (a b d : TerminalState) (x y : List ℕ) → Leads charset rows columns a x b → Leads charset rows columns b y d → Leads charset rows columns a (x ++ y) d
leads-append charset rows columns a b d x y first second = record {
  units = first.units ++ second.units;
  division = record {
    whole =
        ap (λ t. t ++ y) (first.division.whole ∙ append-nil (flat_map spelling first.units))
        ∙ ap (λ t. flat_map spelling first.units ++ t) second.division.whole
        ∙ sym (append_assoc (flat_map spelling first.units) (flat_map spelling second.units) [])
        ∙ ap (λ t. t ++ []) (sym (flat_map-append spelling first.units second.units));
    each = all_units_append charset first.units second.units first.division.each second.division.each;
  };
  meaning = meanings-append rows columns a b first.units second.units first.meaning ∙ second.meaning;
}
