use Rattle.std.proofs.Common.{ap, arith, sym, take, ◌≡◌, ◌∙◌}
use Rattle.std.proofs.lemmas.Bool.Decides.{nat_tests}
use Rattle.std.specs.Option.{is_some}
use Rattle.scr_memory.specs.Memories.{MemoryView}
use Rattle.scr_term.specs.Operations.Steps.{runs}
use Rattle.scr_terminal.specs.Terminals.{TerminalView}
use Rattle.scr_memory.proofs.TryingLaws.{first_run, first_undefined, not_some}
use Rattle.scr_memory.proofs.memories.Memory.try_next.Goals as goal

pub returns-clause-run : goal.returns-clause-run
returns-clause-run c =
    let none : c.mark_characters-characters.result ≡ 0 = grind (arith, nat_tests, c.if-characters-gt0.false) in
    let same : c.args.self.now.state ≡ c.self.inside.terminal.state = ap (λ (m : MemoryView). m.state) (sym c.self.view_is) in
    ap (λ state. runs c.args.profile.now state (take 1 c.args.ops.now)) same
    ∙ first_run c.args.profile.now c.args.ops.now c.mark_characters-characters.result c.self.inside.terminal.state c.mark_characters-characters.new.self.state c.mark_step.new.self.state c.requires.some none
    (ap (λ (t : TerminalView). t.state) c.mark_characters-characters.ensures.state) (c.mark_step.ensures.answer.0 (sym c.is_ok-is_defined.ensures.value ∙ c.if-not-is_defined.false))
    (ap (λ (t : TerminalView). t.state) c.mark_step.ensures.state)

pub returns-then-not-is_defined-clause-undefined : goal.returns-then-not-is_defined-clause-undefined
returns-then-not-is_defined-clause-undefined c =
    let none : c.mark_characters-characters.result ≡ 0 = grind (arith, nat_tests, c.if-characters-gt0.false) in
    let same : c.args.self.now.state ≡ c.self.inside.terminal.state = ap (λ (m : MemoryView). m.state) (sym c.self.view_is) in
    ap (λ state. is_some (runs c.args.profile.now state c.args.ops.now)) same
    ∙ first_undefined c.args.profile.now c.args.ops.now c.mark_characters-characters.result c.self.inside.terminal.state c.mark_characters-characters.new.self.state c.requires.some none
    (ap (λ (t : TerminalView). t.state) c.mark_characters-characters.ensures.state)
    (not_some _ (λ e. sym (sym c.is_ok-is_defined.ensures.value ∙ c.if-not-is_defined.true) ∙ c.mark_step.ensures.answer.1 e))
