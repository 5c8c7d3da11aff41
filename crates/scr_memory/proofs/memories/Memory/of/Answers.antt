use Rattle.std.proofs.Common.{arith, true, ◌≡◌, ◌∙◌, ap, length, replicate, sym}
use Rattle.std.proofs.lemmas.Grind.{common_steps}
use Rattle.std.proofs.lemmas.List.{length-replicate}
use Rattle.std.specs.List.{list_all}
use Rattle.scr_memory.proofs.RememberedRowLaws.{all_are}
use Rattle.scr_memory.proofs.memories.Memory.of.Goals as goal

pub invariant_of-result : goal.invariant_of-result
invariant_of-result c =
    let rows : c.resize.new.self.items ≡ replicate c.args.terminal.rows true = grind (arith, common_steps) in
    record {
      is = record {
        size = c.size-size.ensures.terminal.size;
        state = c.size-size.ensures.terminal.state;
        whole = ap length rows ∙ length-replicate c.args.terminal.rows true;
      };
      every = sym (ap (list_all (λ k. k)) rows ∙ all_are c.args.terminal.rows true (omega (arith, c.size-size.ensures.terminal.size.some_rows)));
    }
