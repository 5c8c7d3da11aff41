-- A beginning of a plan is defined, and has only what the plan has.
use Rattle.std.proofs.Common.{◌≡◌, ◌≢◌, ℕ, zero, suc, true, false, sym, ◌∙◌, ap, subst, arith, List, [], ◌∷◌, length, take, drop, Option, None, Some, refl}
use Rattle.std.specs.List.{All}
use Rattle.std.specs.Option.{option_and_then}
use Rattle.std.proofs.lemmas.List.{take-append-drop, take_all}
use Rattle.std.specs.Io.KnownBytes.{Keeps}
use Rattle.scr_virtual.specs.VirtualViews.{VirtualView}
use Rattle.scr_term.specs.declared.operations.operation.Op.{Op}
use Rattle.scr_term.specs.Operations.Laws.{RunLaws}
use Rattle.scr_term.specs.Operations.Profiles.{ProfileView, IsProfile, abilities}
use Rattle.scr_term.specs.Operations.States.{TerminalState, IsState}
use Rattle.scr_term.specs.Operations.Steps.{runs}
use Rattle.scr_term.specs.Operations.Texts.{all_bytes, has}
use Rattle.scr_memory.specs.Memories.{Agrees, MayBe, MemoryView, all_followed, is_known}
use Rattle.scr_plan.specs.Plans.{IsPlan, MayStart}
use Rattle.curses.specs.Cuts.{IsCut}
use Rattle.curses.specs.Updates.{BeginsPlan, IsDefined, IsDefinedAnew, IsOfOneText, IsSent}
use Rattle.curses.specs.Writers.{IsFinishFailed, IsFinished, WriterView, finished, finished_after}
use Rattle.curses.proofs.CutLaws.{cut_kept}

-- a beginning of a run that is defined
pub beginning : RunLaws → (profile : ProfileView) → IsProfile profile → (old new : TerminalState) → IsState (abilities profile) old → (ops : List Op) (k : ℕ) → runs profile old ops ≡ Some new
    → IsDefined profile old (take k ops)
beginning laws profile is old new state ops k run =
    from (runs profile old (take k ops)) refl (sym (laws.after profile old (take k ops) (drop k ops)) ∙ ap (runs profile old) (take-append-drop k ops) ∙ run)
  where
    from : (next : Option TerminalState) → runs profile old (take k ops) ≡ next → option_and_then (λ s. runs profile s (drop k ops)) (runs profile old (take k ops)) ≡ Some new
        → IsDefined profile old (take k ops)
    from None here whole = absurd (never (sym (ap (option_and_then (λ s. runs profile s (drop k ops))) here) ∙ whole))
      where
        never : None ≡ Some new → ⊥
        never e = (cc)
    from (Some s) here whole = record { new = s; run = here; state = laws.kept profile is old s state (take k ops) here }

-- an update may start from the remembered state
starts_itself : (profile : ProfileView) (memory : MemoryView) (virtual : VirtualView) → MayBe (abilities profile) memory → MayStart profile memory virtual memory.state
starts_itself profile memory virtual may = record {
  state = may.state;
  agrees = λ _. record { is_state = may.state; high = may.high; rows = λ r h known. refl; spot = λ known. refl; pen = λ known. refl };
}

-- each beginning of a plan
pub beginnings : RunLaws → (profile : ProfileView) → IsProfile profile → (memory : MemoryView) (virtual : VirtualView) (ops : List Op) (k : ℕ) → IsPlan profile memory virtual ops
    → (state : TerminalState) → Agrees (abilities profile) memory state → IsDefined profile state (take k ops)
beginnings laws profile is memory virtual ops k plan state agrees =
    let shown = plan.shows state (record { state = agrees.is_state; agrees = λ _. agrees }) in
    beginning laws profile is state shown.new agrees.is_state ops k shown.run

-- where the screen is to be painted anew, from every state
pub beginnings_anew : RunLaws → (profile : ProfileView) → IsProfile profile → (memory : MemoryView) (virtual : VirtualView) (plan ops begun : List Op) (k : ℕ) → IsPlan profile memory virtual plan → ops ≡ plan
    → begun ≡ take k ops → IsDefinedAnew profile virtual begun
beginnings_anew laws profile is memory virtual plan ops begun k whole same taken = λ wished state here.
    let shown = whole.shows state (record { state = here; agrees = λ calm. never (sym wished ∙ calm) }) in
    subst (IsDefined profile state) (sym (taken ∙ ap (take k) same)) (beginning laws profile is state shown.new here plan k shown.run)
  where
    never : {R : Type 0} → true ≡ false → R
    never e = (cc)

-- a plan has only operations that the profile has
pub had : RunLaws → (profile : ProfileView) (memory : MemoryView) (virtual : VirtualView) (ops : List Op) → MayBe (abilities profile) memory → IsPlan profile memory virtual ops
    → All (λ op. has profile op ≡ true) ops
had laws profile memory virtual ops may plan =
    let shown = plan.shows memory.state (starts_itself profile memory virtual may) in
    laws.had profile memory.state shown.new ops shown.run

-- ---- what was sent of a plan

-- as much of a plan as was begun
pub sent_part : RunLaws → (profile : ProfileView) → IsProfile profile → (memory : MemoryView) (virtual : VirtualView) (plan ops begun : List Op) (k : ℕ) (owed rest : List ℕ) (old mid new : WriterView) (count : ℕ)
    → IsPlan profile memory virtual plan → ops ≡ plan → begun ≡ take k ops → IsCut owed (all_bytes profile (take k ops)) old.taken mid.taken count rest → IsOfOneText profile owed (take k ops) rest
    → Keeps mid.taken new.taken → IsSent profile memory owed old new begun count rest
sent_part laws profile is memory virtual plan ops begun k owed rest old mid new count whole same taken cut one keeps =
    let part : begun ≡ take k plan = taken ∙ ap (take k) same in
    record {
      cut = cut_kept owed (all_bytes profile begun) rest old.taken mid.taken new.taken count (subst (λ t. IsCut owed (all_bytes profile t) old.taken mid.taken count rest) (sym taken) cut) keeps;
      one = subst (λ t. IsOfOneText profile owed t rest) (sym taken) one;
      defined = λ state here. subst (IsDefined profile state) (sym part) (beginnings laws profile is memory virtual plan k whole state here);
    }

-- a beginning is as long as it is
as_long : {A : Type 0} → (k : ℕ) (xs : List A) → take k xs ≡ take (length (take k xs)) xs
as_long zero xs = refl
as_long (suc k) [] = refl
as_long (suc k) (x ∷ xs) = ap (λ t. x ∷ t) (as_long k xs)

-- the first operations of a plan that were begun
pub begins_plan : (profile : ProfileView) (memory : MemoryView) (virtual : VirtualView) (plan ops begun : List Op) (k : ℕ) → IsPlan profile memory virtual plan → ops ≡ plan → begun ≡ take k ops
    → BeginsPlan profile memory virtual begun
begins_plan profile memory virtual plan ops begun k is same taken =
    let part : begun ≡ take k plan = taken ∙ ap (take k) same in
    record { plan = plan; is = is; begins = part ∙ as_long k plan ∙ sym (ap (λ b. take (length b) plan) part) }

-- a plan that was begun whole
pub planned_whole : (profile : ProfileView) (memory : MemoryView) (virtual : VirtualView) (plan ops begun : List Op) (k : ℕ) → IsPlan profile memory virtual plan → ops ≡ plan → begun ≡ take k ops → k ≡ length ops
    → IsPlan profile memory virtual begun
planned_whole profile memory virtual plan ops begun k is same taken whole =
    subst (IsPlan profile memory virtual) (sym (taken ∙ ap (λ n. take n ops) whole ∙ take_all (length ops) ops (omega arith) ∙ same)) is

-- all is known after a plan that was begun whole
pub known_whole : (profile : ProfileView) (memory : MemoryView) (virtual : VirtualView) (plan ops begun : List Op) (k : ℕ) → IsPlan profile memory virtual plan → MayBe (abilities profile) memory → ops ≡ plan → begun ≡ take k ops → k ≡ length ops
    → is_known (all_followed profile begun memory) ≡ true
known_whole profile memory virtual plan ops begun k is may same taken whole =
    (planned_whole profile memory virtual plan ops begun k is same taken whole).known may

-- what a writer holds that was not asked
pub kept_same : (known : Option (List ℕ)) → Keeps known known
kept_same None = tt
kept_same (Some bytes) = refl

-- something is not nothing
pub some_not_none : {X : Type 0} → (f : Option X) (x : X) → f ≡ Some x → f ≢ None
some_not_none f x is none = never (sym is ∙ none)
  where
    never : Some x ≡ None → ⊥
    never e = (cc)

-- ---- the end of the sending

-- no finish was asked for before the last one
pub finished_since : (count : ℕ) (old mid new : WriterView) → mid.finishes ≡ old.finishes → IsFinished count mid new → IsFinished count old new
finished_since count old mid new same is = record { finishes = is.finishes ∙ ap (finished_after count) same; last = is.last }

pub failed_since : (old mid new : WriterView) → mid.finishes ≡ old.finishes → IsFinishFailed mid new → IsFinishFailed old new
failed_since old mid new same is = record { finishes = is.finishes ∙ ap (finished true) same; last = is.last }
