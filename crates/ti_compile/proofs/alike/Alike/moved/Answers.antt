use Rattle.ti_compile.proofs.AlikeLaws.{alike-at, alike-back, alike-on}
use Rattle.ti_compile.proofs.alike.Alike.moved.Goals as goal

pub returns-then-is_same-clause-alike : goal.returns-then-is_same-clause-alike
returns-then-is_same-clause-alike c = λ entries own p alike. (
  alike.0,
  alike-on c.entries_pass_on.ensures.on entries c.args.name.now own c.args.other.now c.args.self.resolved p
      (alike-at entries c.args.self.used.now c.args.other.now c.args.self.resolved (c.is_same.ensures c.if-is_same.true) alike.0),
)

pub returns-then-is_same-2-clause-alike : goal.returns-then-is_same-2-clause-alike
returns-then-is_same-2-clause-alike c = λ entries own p alike. (
  alike.0,
  alike-on c.entries_pass_on.ensures.on entries c.args.name.now own c.args.other.now c.args.self.resolved p
      (alike-at entries c.args.self.last.now c.args.other.now c.args.self.resolved (c.is_same-2.ensures c.if-is_same-2.true) alike.1),
)

pub returns-then-is_same-3-clause-alike : goal.returns-then-is_same-3-clause-alike
returns-then-is_same-3-clause-alike c = λ entries own p alike.
    let own_name = alike-at entries c.args.self.used.now c.args.name.now c.args.self.resolved (c.is_same-3.ensures c.if-is_same-3.true) alike.0 in
    (alike-back c.entries_pass_on.ensures.back entries c.args.name.now own c.args.other.now c.args.self.resolved p own_name, own_name)
