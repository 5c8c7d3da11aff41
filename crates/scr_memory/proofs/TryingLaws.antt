-- Operations that are tried on a spare, some at a time.
use Rattle.std.proofs.Common.{◌≡◌, ℕ, zero, suc, ◌+◌, ◌-◌, ◌<◌, ◌&&◌, Bool, true, false, refl, sym, ◌∙◌, ap, arith, subst, List, [], ◌∷◌, ◌++◌, drop, take, length, get_or, length-drop, Option, Some, None, OnErr, Result, Ok, Err, option_and_then}
use Rattle.std.proofs.Math.Seq.{take-add}
use Rattle.std.proofs.lemmas.List.{take_all}
use Rattle.std.specs.List.{list_all}
use Rattle.std.specs.Option.{is_some, unwrap_or}
use Rattle.scr_term.specs.declared.operations.operation.Op.{Op}
use Rattle.scr_term.specs.declared.operations.operation.Op.TheVariants.{Home}
use Rattle.scr_term.specs.Operations.Laws.{RunLaws}
use Rattle.scr_term.specs.Operations.Profiles.{ProfileView}
use Rattle.scr_term.specs.Operations.States.{TerminalState}
use Rattle.scr_term.specs.Operations.Steps.{runs, step}
use Rattle.scr_terminal.specs.Characters.{is_character_op}
use Rattle.scr_memory.proofs.FollowLaws.{both}
use Rattle.scr_memory.proofs.FollowingLaws.{one_character}
use Rattle.scr_memory.proofs.MemoryRunLaws.{goes_on}
use Rattle.scr_memory.specs.Memories.{MemoryView, all_followed, followed}
use Rattle.scr_memory.specs.Spares.{HasTried, SpareView, are_sure, is_sure}

-- ---- a run of some operations

-- a step that is defined, as a run of one operation
one_run : (profile : ProfileView) (ops : List Op) (old new : TerminalState) → 0 < length ops → is_some (step profile old (get_or ops 0 Home)) ≡ true → new ≡ unwrap_or (step profile old (get_or ops 0 Home)) old
    → runs profile old (take 1 ops) ≡ Some new
one_run profile [] old new some there is = absurd (omega (arith, some))
one_run profile (op ∷ ops) old new some there is = by (step profile old op) refl there is
  where
    by : (next : Option TerminalState) → step profile old op ≡ next → is_some next ≡ true → new ≡ unwrap_or next old → option_and_then (λ next. runs profile next []) (step profile old op) ≡ Some new
    by None made there is = (cc)
    by (Some next) made there is = ap (option_and_then (λ next. runs profile next [])) made ∙ ap Some (sym is)

-- no character was written, and then a step made
pub first_run : (profile : ProfileView) (ops : List Op) (n : ℕ) (old mid new : TerminalState) → 0 < length ops → n ≡ 0 → mid ≡ unwrap_or (runs profile old (take n ops)) old
    → is_some (step profile mid (get_or ops 0 Home)) ≡ true → new ≡ unwrap_or (step profile mid (get_or ops 0 Home)) mid → runs profile old (take 1 ops) ≡ Some new
first_run profile ops n old mid new some none stays there is =
    let same : mid ≡ old = stays ∙ ap (λ n. unwrap_or (runs profile old (take n ops)) old) none in
    one_run profile ops old new some (subst (λ state. is_some (step profile state (get_or ops 0 Home)) ≡ true) same there) (is ∙ ap (λ state. unwrap_or (step profile state (get_or ops 0 Home)) state) same)

none_then : (profile : ProfileView) (op : Op) (ops : List Op) (old : TerminalState) → is_some (step profile old op) ≡ false → is_some (runs profile old (op ∷ ops)) ≡ false
none_then profile op ops old none = by (step profile old op) refl none
  where
    by : (next : Option TerminalState) → step profile old op ≡ next → is_some next ≡ false → is_some (option_and_then (λ next. runs profile next ops) (step profile old op)) ≡ false
    by None made e = ap (λ next. is_some (option_and_then (λ next. runs profile next ops) next)) made
    by (Some next) made e = (cc)

-- none was written, and the first step is undefined
pub first_undefined : (profile : ProfileView) (ops : List Op) (n : ℕ) (old mid : TerminalState) → 0 < length ops → n ≡ 0 → mid ≡ unwrap_or (runs profile old (take n ops)) old
    → is_some (step profile mid (get_or ops 0 Home)) ≡ false → is_some (runs profile old ops) ≡ false
first_undefined profile [] n old mid some none stays not_there = absurd (omega (arith, some))
first_undefined profile (op ∷ ops) n old mid some none stays not_there =
    let same : mid ≡ old = stays ∙ ap (λ n. unwrap_or (runs profile old (take n (op ∷ ops))) old) none in
    none_then profile op ops old (ap (λ state. is_some (step profile state op)) (sym same) ∙ not_there)

-- ---- some operations, and then others

rest_of : (ops : List Op) (i : ℕ) → take (length ops - i) (drop i ops) ≡ drop i ops
rest_of ops i = take_all (length ops - i) (drop i ops) (omega (arith, length-drop i ops))

split : (ops : List Op) (i : ℕ) → ops ≡ take i ops ++ drop i ops
split ops zero = refl
split [] (suc i) = refl
split (op ∷ ops) (suc i) = ap (λ ops. op ∷ ops) (split ops i)

pub run_on : RunLaws → (profile : ProfileView) (ops : List Op) (i n : ℕ) (old mid new : TerminalState) → runs profile old (take i ops) ≡ Some mid
    → runs profile mid (take n (take (length ops - i) (drop i ops))) ≡ Some new → runs profile old (take (i + n) ops) ≡ Some new
run_on laws profile ops i n old mid new before added =
    ap (runs profile old) (take-add i n ops)
    ∙ laws.joined profile old mid (take i ops) (take n (drop i ops)) before
    ∙ ap (λ xs. runs profile mid (take n xs)) (sym (rest_of ops i))
    ∙ added

pub later_undefined : RunLaws → (profile : ProfileView) (ops : List Op) (i : ℕ) (old mid : TerminalState) → runs profile old (take i ops) ≡ Some mid
    → is_some (runs profile mid (take (length ops - i) (drop i ops))) ≡ false → is_some (runs profile old ops) ≡ false
later_undefined laws profile ops i old mid before none =
    ap (λ ops. is_some (runs profile old ops)) (split ops i)
    ∙ ap is_some (laws.joined profile old mid (take i ops) (drop i ops) before)
    ∙ ap (λ xs. is_some (runs profile mid xs)) (sym (rest_of ops i))
    ∙ none

-- what was tried first and what was tried then
pub tried_on : (old mid new : SpareView) → HasTried old mid → HasTried mid new → HasTried old new
tried_on old mid new first second = record {
  rows = second.rows ∙ first.rows;
  columns = second.columns ∙ first.columns;
  high = second.high ∙ first.high;
  wide = second.wide ∙ first.wide;
  marks = λ r c high wide out.
      let later = second.marks r c (omega (arith, high, first.high)) (omega (arith, wide, first.wide)) out in
      let before = first.marks r c high wide later.0 in (before.0, later.1 ∙ before.1);
}

pub not_some : (b : Bool) → (b ≡ true → false ≡ true) → b ≡ false
not_some true e = sym (e refl)
not_some false e = refl

pub on_err : {A E : Type 0} {P : Type 0} (result : Result A E) → P → OnErr result P
on_err (Ok value) p = tt
on_err (Err error) p = p

-- ---- what is sure

-- characters are, where the cursor and the pen are known
characters_sure : (profile : ProfileView) (ops : List Op) (memory : MemoryView) (next : TerminalState) → list_all is_character_op ops ≡ true → memory.known_spot ≡ true → memory.known_pen ≡ true
    → runs profile memory.state ops ≡ Some next → are_sure profile ops memory ≡ true
characters_sure profile [] memory next is spot pen made = refl
characters_sure profile (op ∷ ops) memory next is spot pen made =
    let parts = both _ _ is in
    let steps = goes_on (step profile memory.state op) (λ state. runs profile state ops) next made in
    let defined : is_some (step profile memory.state op) ≡ true = ap is_some steps.1 in
    let known : is_sure profile memory op ≡ true = known_sure op in
    let rest : are_sure profile ops (followed profile op memory) ≡ true =
    ap (are_sure profile ops) (one_character profile op memory steps.0 parts.0 spot pen steps.1) ∙ characters_sure profile ops (record memory { state = steps.0 }) next parts.1 spot pen steps.2 in
    (λ i. (known i && defined i) && rest i)
  where
    known_sure : (op : Op) → is_sure profile memory op ≡ true
    known_sure op = grind (arith, spot, pen)

pub are_characters_sure : (profile : ProfileView) (ops : List Op) (memory : MemoryView) → list_all is_character_op ops ≡ true → memory.known_spot ≡ true → memory.known_pen ≡ true
    → is_some (runs profile memory.state ops) ≡ true → are_sure profile ops memory ≡ true
are_characters_sure profile ops memory is spot pen there = by (runs profile memory.state ops) refl there
  where
    by : (next : Option TerminalState) → runs profile memory.state ops ≡ next → is_some next ≡ true → are_sure profile ops memory ≡ true
    by None made e = (cc)
    by (Some next) made e = characters_sure profile ops memory next is spot pen made

-- some operations, and then others
sure_joined : (profile : ProfileView) (ops more : List Op) (memory : MemoryView) → are_sure profile (ops ++ more) memory ≡ (are_sure profile ops memory && are_sure profile more (all_followed profile ops memory))
sure_joined profile [] more memory = refl
sure_joined profile (op ∷ ops) more memory = by (is_sure profile memory op && is_some (step profile memory.state op)) (sure_joined profile ops more (followed profile op memory))
  where
    by : (b : Bool) → are_sure profile (ops ++ more) (followed profile op memory) ≡ (are_sure profile ops (followed profile op memory) && are_sure profile more (all_followed profile ops (followed profile op memory)))
        → (b && are_sure profile (ops ++ more) (followed profile op memory)) ≡ ((b && are_sure profile ops (followed profile op memory)) && are_sure profile more (all_followed profile ops (followed profile op memory)))
    by true e = e
    by false e = refl

pub sure_on : (profile : ProfileView) (ops : List Op) (i n : ℕ) (old mid : MemoryView) → are_sure profile (take i ops) old ≡ true → mid ≡ all_followed profile (take i ops) old
    → are_sure profile (take n (take (length ops - i) (drop i ops))) mid ≡ true → are_sure profile (take (i + n) ops) old ≡ true
sure_on profile ops i n old mid before is more =
    ap (λ ops. are_sure profile ops old) (take-add i n ops)
    ∙ sure_joined profile (take i ops) (take n (drop i ops)) old
    ∙ (λ j. before j && (ap (are_sure profile (take n (drop i ops))) (sym is) ∙ ap (λ xs. are_sure profile (take n xs) mid) (sym (rest_of ops i)) ∙ more) j)

pub unsure_on : (profile : ProfileView) (ops : List Op) (i : ℕ) (old mid : MemoryView) → are_sure profile (take i ops) old ≡ true → mid ≡ all_followed profile (take i ops) old
    → are_sure profile (take (length ops - i) (drop i ops)) mid ≡ false → are_sure profile ops old ≡ false
unsure_on profile ops i old mid before is none =
    ap (λ ops. are_sure profile ops old) (split ops i)
    ∙ sure_joined profile (take i ops) (drop i ops) old
    ∙ (λ j. before j && (ap (are_sure profile (drop i ops)) (sym is) ∙ ap (λ xs. are_sure profile xs mid) (sym (rest_of ops i)) ∙ none) j)

-- one operation
pub one_sure : (profile : ProfileView) (ops : List Op) (memory : MemoryView) → 0 < length ops → (is_sure profile memory (get_or ops 0 Home) && is_some (step profile memory.state (get_or ops 0 Home))) ≡ true → are_sure profile (take 1 ops) memory ≡ true
one_sure profile [] memory some e = absurd (omega (arith, some))
one_sure profile (op ∷ ops) memory some e = ap (λ b. b && true) e

pub one_unsure : (profile : ProfileView) (ops : List Op) (memory : MemoryView) → 0 < length ops → (is_sure profile memory (get_or ops 0 Home) && is_some (step profile memory.state (get_or ops 0 Home))) ≡ false → are_sure profile ops memory ≡ false
one_unsure profile [] memory some e = absurd (omega (arith, some))
one_unsure profile (op ∷ ops) memory some e = ap (λ b. b && are_sure profile ops (followed profile op memory)) e

pub one_followed : (profile : ProfileView) (ops : List Op) (memory new : MemoryView) → 0 < length ops → new ≡ followed profile (get_or ops 0 Home) memory → new ≡ all_followed profile (take 1 ops) memory
one_followed profile [] memory new some e = absurd (omega (arith, some))
one_followed profile (op ∷ ops) memory new some e = e

-- none was followed before
pub none_followed : (profile : ProfileView) (ops : List Op) (n : ℕ) (old mid : MemoryView) → n ≡ 0 → mid ≡ all_followed profile (take n ops) old → mid ≡ old
none_followed profile ops n old mid none is = is ∙ ap (λ n. all_followed profile (take n ops) old) none
