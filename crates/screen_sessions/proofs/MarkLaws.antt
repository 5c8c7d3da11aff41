-- Rows that others wrote on, and that calls mark before any update.
use Rattle.std.proofs.Common.{◌≡◌, ℕ, ◌<◌, Bool, true, false, not, ◌&&◌, ◌||◌, refl, sym, ◌∙◌, ap, subst, arith, List, [], ◌∷◌, length, take, Option, None, Some, is_some, if◌then◌else◌}
use Rattle.std.specs.List.{list_all}
use Rattle.scr_term.specs.Operations.Abilities.{Abilities}
use Rattle.scr_term.specs.Operations.Profiles.{ProfileView, abilities}
use Rattle.scr_term.specs.Operations.States.{TerminalState}
use Rattle.scr_memory.specs.Memories.{IsDisturbance, MemoryLaws, MemoryView, is_known_row}
use Rattle.screen_sessions.specs.declared.answers.Answer.{Answer}
use Rattle.screen_calls.specs.declared.calls.Call.{Call}
use Rattle.screen_sessions.specs.Sessions.{Drawn, DisturbedRowsHoldAgain, after_call, has_mark, is_marked, is_row_of, is_update, marked_by, memory_then, memory_marked, memory_updated, remembered_after}

no_bool : false ≡ true → ⊥
no_bool e = (cc)

-- what is not so is false
never_true : (b : Bool) → (b ≡ true → ⊥) → b ≡ false
never_true true not = absurd (not refl)
never_true false not = refl

-- What is remembered after calls that are no updates: less in the rows that they mark, and no more elsewhere; and
-- where a mark is among them, neither the spot nor the pen is known.
record Left (drawn : Drawn) (memory left : MemoryView) (calls : List Call) (answers : List Answer) : Type 0 where
  pub grid : left.state.grid ≡ memory.state.grid
  pub high : length left.known_rows ≡ length memory.known_rows
  pub rows : (r : ℕ) → r < length memory.known_rows → is_known_row left r ≡ true → (is_known_row memory r ≡ true) × (is_marked drawn calls answers r ≡ false)
  pub spot : left.known_spot ≡ true → (memory.known_spot ≡ true) × (has_mark drawn calls answers ≡ false)
  pub pen : left.known_pen ≡ true → (memory.known_pen ≡ true) × (has_mark drawn calls answers ≡ false)

-- a call that is no update
after_quiet : (profile : ProfileView) (drawn : Drawn) (memory : MemoryView) (call : Call) (answer : Answer) → is_update call ≡ false → memory_then profile drawn.desk memory call answer ≡ memory_marked memory (marked_by drawn.desk call)
after_quiet profile drawn memory call answer update = ap (λ b. if b then memory_updated profile memory answer else memory_marked memory (marked_by drawn.desk call)) update

-- one call before others
left_by_one : MemoryLaws → (drawn next : Drawn) (memory left : MemoryView) (call : Call) (answer : Answer) (calls : List Call) (answers : List Answer) (rows : Option (ℕ × ℕ)) → marked_by drawn.desk call ≡ rows → next ≡ after_call drawn call answer
    → Left next (memory_marked memory rows) left calls answers → Left drawn memory left (call ∷ calls) (answer ∷ answers)
left_by_one laws drawn next memory left call answer calls answers None is same rest = record {
  grid = rest.grid;
  high = rest.high;
  rows = λ r few known. let kept = rest.rows r few known in (kept.0, ap (λ m. is_row_of m r || is_marked (after_call drawn call answer) calls answers r) is ∙ sym (ap (λ d. is_marked d calls answers r) same) ∙ kept.1);
  spot = λ known. let kept = rest.spot known in (kept.0, ap (λ m. is_some m || has_mark (after_call drawn call answer) calls answers) is ∙ sym (ap (λ d. has_mark d calls answers) same) ∙ kept.1);
  pen = λ known. let kept = rest.pen known in (kept.0, ap (λ m. is_some m || has_mark (after_call drawn call answer) calls answers) is ∙ sym (ap (λ d. has_mark d calls answers) same) ∙ kept.1);
}
left_by_one laws drawn next memory left call answer calls answers (Some rows) is same rest =
    let without = laws.marks memory rows.0 rows.1 in
    record {
      grid = rest.grid ∙ without.grid;
      high = rest.high ∙ without.high;
      rows = λ r few known.
          let kept = rest.rows r (omega (arith, few, without.high)) known in
          let before = without.rows r few kept.0 in (
            before.0,
            ap (λ m. is_row_of m r || is_marked (after_call drawn call answer) calls answers r) is ∙ ap (λ b. b || is_marked (after_call drawn call answer) calls answers r) before.1
                ∙ sym (ap (λ d. is_marked d calls answers r) same) ∙ kept.1,
          );
      spot = λ known. absurd (no_bool (sym without.spot ∙ (rest.spot known).0));
      pen = λ known. absurd (no_bool (sym without.pen ∙ (rest.pen known).0));
    }

bytes_left : MemoryLaws → (profile : ProfileView) (drawn : Drawn) (memory : MemoryView) (calls : List Call) (answers : List Answer) → list_all (λ call. not (is_update call)) calls ≡ true
    → Left drawn memory (remembered_after profile drawn memory calls answers) calls answers
bytes_left laws profile drawn memory [] answers quiet = record { grid = refl; high = refl; rows = λ r few known. (known, refl); spot = λ known. (known, refl); pen = λ known. (known, refl) }
bytes_left laws profile drawn memory (call ∷ calls) [] quiet = record { grid = refl; high = refl; rows = λ r few known. (known, refl); spot = λ known. (known, refl); pen = λ known. (known, refl) }
bytes_left laws profile drawn memory (call ∷ calls) (answer ∷ answers) quiet =
    by_first (is_update call) refl (λ later. bytes_left laws profile (after_call drawn call answer) (memory_marked memory (marked_by drawn.desk call)) calls answers later)
  where
    by_first : (b : Bool) → is_update call ≡ b
        → (list_all (λ call. not (is_update call)) calls ≡ true → Left (after_call drawn call answer) (memory_marked memory (marked_by drawn.desk call)) (remembered_after profile (after_call drawn call answer) (memory_marked memory (marked_by drawn.desk call)) calls answers) calls answers)
        → Left drawn memory (remembered_after profile drawn memory (call ∷ calls) (answer ∷ answers)) (call ∷ calls) (answer ∷ answers)
    by_first true update rest = absurd (no_bool (sym (ap (λ b. not b && list_all (λ call. not (is_update call)) calls) update) ∙ quiet))
    by_first false update rest =
        left_by_one laws drawn (after_call drawn call answer) memory (remembered_after profile drawn memory (call ∷ calls) (answer ∷ answers)) call answer calls answers (marked_by drawn.desk call) refl refl
        (subst (λ m. Left (after_call drawn call answer) (memory_marked memory (marked_by drawn.desk call)) (remembered_after profile (after_call drawn call answer) m calls answers) calls answers)
        (sym (after_quiet profile drawn memory call answer update)) (rest (sym (ap (λ b. not b && list_all (λ call. not (is_update call)) calls) update) ∙ quiet)))

-- others wrote in rows that were all marked
disturbs_marked : (abilities : Abilities) (rows marked : ℕ → Bool) (before changed : TerminalState) → ((r : ℕ) → rows r ≡ true → marked r ≡ true) → IsDisturbance abilities rows before changed → IsDisturbance abilities marked before changed
disturbs_marked abilities rows marked before changed each disturbs = record {
  state = disturbs.state;
  same = λ r kept. disturbs.same r (never_true (rows r) (λ wrote. no_bool (sym kept ∙ each r wrote)));
}

pub holds_again : MemoryLaws → DisturbedRowsHoldAgain
holds_again laws profile first calls answers taken session rows changed wrote n few marks =
    let left = bytes_left laws profile first.drawn first.memory (take n calls) (take n answers) marks.quiet in
    session.holds n changed few (record {
      quiet = marks.quiet;
      agrees = laws.others (abilities profile) (is_marked first.drawn (take n calls) (take n answers)) first.memory (remembered_after profile first.drawn first.memory (take n calls) (take n answers)) wrote.before changed wrote.agrees
          (disturbs_marked (abilities profile) rows (is_marked first.drawn (take n calls) (take n answers)) wrote.before changed marks.each wrote.wrote)
          (record {
            grid = left.grid;
            high = left.high;
            rows = left.rows;
            spot = never_true _ (λ known. no_bool (sym (left.spot known).1 ∙ marks.some));
            pen = never_true _ (λ known. no_bool (sym (left.pen known).1 ∙ marks.some));
          });
    })
