-- Operations that are followed some at a time.
use Rattle.std.proofs.Common.{◌≡◌, ℕ, ◌+◌, ◌-◌, ◌&&◌, ◌||◌, not, true, false, sym, ◌∙◌, ap, arith, refl, List, [], ◌∷◌, drop, length, take, Option, Some, None, replicate, if◌then◌else◌}
use Rattle.std.specs.List.{list_all}
use Rattle.std.specs.Option.{is_some}
use Rattle.std.proofs.Math.Seq.{take-add}
use Rattle.std.proofs.lemmas.List.{length-drop, take_all}
use Rattle.scr_term.specs.declared.operations.operation.Op.{Op}
use Rattle.scr_term.specs.declared.operations.operation.Op.TheVariants.{Put}
use Rattle.scr_term.specs.Operations.Abilities.{Abilities}
use Rattle.scr_terminal.specs.Characters.{is_character_op}
use Rattle.scr_term.specs.Operations.Profiles.{ProfileView, abilities}
use Rattle.scr_term.specs.Operations.States.{TerminalState}
use Rattle.scr_term.specs.Operations.Steps.{runs, step}
use Rattle.scr_memory.proofs.MemoryRunLaws.{all_columns, all_joined, all_rows, goes_on, same_some}
use Rattle.scr_memory.proofs.FollowLaws.{both}
use Rattle.scr_memory.specs.Memories.{MemoryView, all_followed, followed, has_one_pen, stepped}
use Rattle.scr_memory.specs.Code.Remembering.{gone_to}

-- ---- some operations, and then others

pub followed_on : (profile : ProfileView) (ops : List Op) (i n : ℕ) (old memory new : MemoryView) → memory ≡ all_followed profile (take i ops) old
    → new ≡ all_followed profile (take n (take (length ops - i) (drop i ops))) memory → new ≡ all_followed profile (take (i + n) ops) old
followed_on profile ops i n old memory new before added =
    let rest : take (length ops - i) (drop i ops) ≡ drop i ops = take_all (length ops - i) (drop i ops) (omega (arith, length-drop i ops)) in
    added
    ∙ ap (λ xs. all_followed profile (take n xs) memory) rest
    ∙ ap (all_followed profile (take n (drop i ops))) before
    ∙ sym (ap (λ xs. all_followed profile xs old) (take-add i n ops) ∙ all_joined profile old (take i ops) (take n (drop i ops)))

pub same_rows : (profile : ProfileView) (ops : List Op) (old new : MemoryView) → new ≡ all_followed profile ops old → new.rows ≡ old.rows
same_rows profile ops old new is = ap (λ (m : MemoryView). m.rows) is ∙ all_rows profile old ops

pub same_columns : (profile : ProfileView) (ops : List Op) (old new : MemoryView) → new ≡ all_followed profile ops old → new.columns ≡ old.columns
same_columns profile ops old new is = ap (λ (m : MemoryView). m.columns) is ∙ all_columns profile old ops

-- ---- characters

-- where the cursor and the pen are known, only the state goes on
character_stepped : (abilities : Abilities) (byte : ℕ) (memory : MemoryView) (next : TerminalState) → memory.known_spot ≡ true → memory.known_pen ≡ true
    → stepped abilities (Put byte) memory (Some next) ≡ record memory { state = next }
character_stepped abilities byte memory next spot pen =
    (λ i. record memory {
      state = next;
      known_rows = if not (spot i && pen i) || false then replicate (length memory.known_rows) false else memory.known_rows;
      known_spot = spot i || false;
      known_pen = pen i || false || has_one_pen abilities;
    })
    ∙ sym (λ i. record memory { state = next; known_spot = spot i; known_pen = pen i })

pub one_character : (profile : ProfileView) (op : Op) (memory : MemoryView) (next : TerminalState) → is_character_op op ≡ true → memory.known_spot ≡ true → memory.known_pen ≡ true
    → step profile memory.state op ≡ Some next → followed profile op memory ≡ record memory { state = next }
one_character profile (Put byte) memory next is spot pen made = ap (stepped (abilities profile) (Put byte) memory) made ∙ character_stepped (abilities profile) byte memory next spot pen
one_character profile op memory next is spot pen made = (cc)

pub characters_followed : (profile : ProfileView) (ops : List Op) (memory : MemoryView) (next : TerminalState) → list_all is_character_op ops ≡ true → memory.known_spot ≡ true → memory.known_pen ≡ true
    → runs profile memory.state ops ≡ Some next → all_followed profile ops memory ≡ record memory { state = next }
characters_followed profile [] memory next is spot pen made = ap (λ state. record memory { state = state }) (same_some _ _ made)
characters_followed profile (op ∷ ops) memory next is spot pen made =
    let both = both _ _ is in
    let parts = goes_on (step profile memory.state op) (λ state. runs profile state ops) next made in
    ap (all_followed profile ops) (one_character profile op memory parts.0 both.0 spot pen parts.1)
    ∙ characters_followed profile ops (record memory { state = parts.0 }) next both.1 spot pen parts.2

pub gone_on_followed : (profile : ProfileView) (ops : List Op) (memory : MemoryView) → list_all is_character_op ops ≡ true → memory.known_spot ≡ true → memory.known_pen ≡ true
    → is_some (runs profile memory.state ops) ≡ true → gone_to memory (runs profile memory.state ops) ≡ all_followed profile ops memory
gone_on_followed profile ops memory is spot pen there = by (runs profile memory.state ops) refl there
  where
    by : (next : Option TerminalState) → runs profile memory.state ops ≡ next → is_some next ≡ true → gone_to memory next ≡ all_followed profile ops memory
    by None made e = (cc)
    by (Some next) made e = sym (characters_followed profile ops memory next is spot pen made)
