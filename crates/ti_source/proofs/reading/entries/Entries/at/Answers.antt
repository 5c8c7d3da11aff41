use Rattle.std.proofs.Common.{◌≡◌, length, arith}
use Rattle.ti_source.specs.Code.Kept.{described_of}
use Rattle.ti_source.proofs.KeptLaws.{described-at, described-length, is_described-at}
use Rattle.ti_source.proofs.reading.entries.Entries.at.Goals as goal

pub at-requires : goal.at-requires
at-requires c =
    let k = c.self.invariant.0 in
    let counted : length c.args.self.now ≡ length c.self.inside.names = rw (← c.self.view_is) (described-length c.self.inside.names c.self.inside.statements c.self.inside.uses k.stated k.used) in
    omega (arith, counted, c.requires)

pub at-requires-2 : goal.at-requires-2
at-requires-2 c =
    let k = c.self.invariant.0 in
    let counted : length c.args.self.now ≡ length c.self.inside.names = rw (← c.self.view_is) (described-length c.self.inside.names c.self.inside.statements c.self.inside.uses k.stated k.used) in
    omega (arith, counted, c.requires, k.stated)

pub at-requires-3 : goal.at-requires-3
at-requires-3 c =
    let k = c.self.invariant.0 in
    let counted : length c.args.self.now ≡ length c.self.inside.names = rw (← c.self.view_is) (described-length c.self.inside.names c.self.inside.statements c.self.inside.uses k.stated k.used) in
    omega (arith, counted, c.requires, k.used)

pub new-requires : goal.new-requires
new-requires c =
    is_described-at (described_of c.self.inside.names c.self.inside.statements c.self.inside.uses) c.args.i _ c.self.invariant.0.described
    (described-at c.self.inside.names c.self.inside.statements c.self.inside.uses c.args.i c.at.result.now c.at-2.result.now c.at-3.result.now c.at.ensures c.at-2.ensures c.at-3.ensures)

pub returns : goal.returns
returns c =
    rw (← c.self.view_is, c.new.ensures) (described-at c.self.inside.names c.self.inside.statements c.self.inside.uses c.args.i c.at.result.now c.at-2.result.now c.at-3.result.now c.at.ensures c.at-2.ensures c.at-3.ensures)
