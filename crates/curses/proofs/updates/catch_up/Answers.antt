use Rattle.std.proofs.Common.{◌≡◌, ◌∙◌, ◌==◌, ap, false, inl, inr, length, sym, true}
use Rattle.scr_memory.specs.Memories.{all_followed}
use Rattle.scr_plan.specs.Checks.{IsLed}
use Rattle.curses.proofs.RememberedLaws.{followed_ahead}
use Rattle.curses.proofs.updates.catch_up.Goals as goal

pub returns-clause-followed : goal.returns-clause-followed
returns-clause-followed c = from c.requires.led
  where
    from : IsLed c.args.profile.now c.args.memory.now c.args.ops.now c.args.spare.now → c.take.new.self ≡ all_followed c.args.profile.now c.args.ops.now c.args.memory.now
    from (inl ahead) =
        c.take.ensures.memory
        ∙ sym (followed_ahead c.memory_runs.ensures c.known_memories.ensures c.args.profile.now c.size-profile.ensures.profile c.args.memory.now c.args.ops.now c.args.spare.now
        c.requires.rows c.requires.columns c.requires.possible ahead)
    from (inr none) = never (sym c.if-is_empty.false ∙ c.is_empty.ensures ∙ ap (λ ops. length ops == 0) none.0)
      where
        never : {R : Type 0} → false ≡ true → R
        never e = (cc)
