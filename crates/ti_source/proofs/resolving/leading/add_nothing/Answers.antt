use Rattle.std.proofs.Common.{arith, rules}
use Rattle.std.proofs.lemmas.List.{take_all}
use Rattle.ti_source.specs.Code.Leading.{Covers, IsUseAt}
use Rattle.ti_source.proofs.LeadingLaws.{add-all, add-next-use, known-use}
use Rattle.ti_source.proofs.resolving.leading.add_nothing.Goals as goal

pub effective_at-requires-clause-known : goal.effective_at-requires-clause-known
effective_at-requires-clause-known c =
    let at : IsUseAt c.args.entries.now c.args.uses.now c.loop-k.k c.in-Some.used = search rules in
    known-use c.args.entries.now c.args.marks.now c.args.uses.now c.loop-k.k c.in-Some.used c.requires.known at

pub loop-k-preserved : goal.loop-k-preserved
loop-k-preserved c =
    let at : IsUseAt c.args.entries.now c.args.uses.now c.loop-k.k c.in-Some.used = search rules in
    let covered : Covers c.args.fields.now c.in_ok-more.more = search rules in
    add-next-use c.args.entries.now c.args.uses.now c.loop-k.k c.in-Some.used c.args.fields.now c.in_ok-more.more c.loop-k.invariant at c.in_ok-more.ensures covered

pub returns : goal.returns
returns c _ =
    add-all c.args.entries.now c.args.uses.now c.loop-k.k c.args.fields.now (take_all c.loop-k.k c.args.uses.now (omega arith)) c.loop-k.invariant
