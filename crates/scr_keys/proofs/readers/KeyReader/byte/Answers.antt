use Rattle.std.proofs.lemmas.Grind.{common_steps}
use Rattle.std.proofs.Common.{◌∙◌, ap, arith, drop, length, sym, rules}
use Rattle.scr_keys.proofs.DecideLaws.{left_short}
use Rattle.scr_keys.proofs.readers.KeyReader.byte.Goals as goal

pub invariant_of-self : goal.invariant_of-self
invariant_of-self c = record {
  few = omega (arith, c.in-Some.ensures.few);
  queue = omega (arith, c.self.invariant.queue, c.decide.ensures.capacity);
  short = omega (arith, ap length (c.drop_front.ensures.rest ∙ ap (drop c.in-Some.count) (sym c.deref.ensures.value) ∙ c.in-Some.ensures.left), left_short c.self.inside.table 0 c.deref.result.now, c.self.invariant.texts);
  waiting = omega (arith, c.self.invariant.waiting, c.push_reserved.ensures.capacity, c.drop_front.ensures.capacity);
  texts = c.self.invariant.texts;
}

pub returns-in-None : goal.returns-in-None
returns-in-None c = grind (arith, common_steps)

pub invariant_of-self-in-None : goal.invariant_of-self-in-None
invariant_of-self-in-None c = search rules
