use Rattle.std.proofs.Common.{◌≡◌, ◌∙◌, ap, length, reverse, set, rules}
use Rattle.std.proofs.lemmas.List.{length-set}
use Rattle.ti_source.specs.declared.resolving.marks.Mark.TheVariants.{New}
use Rattle.ti_source.proofs.IndexLaws.{written-back}
use Rattle.ti_source.proofs.WalkLaws.{finished-ready}
use Rattle.ti_source.proofs.resolving.walk.EntryWalk.finished.Goals as goal

pub returns-clause-ready : goal.returns-clause-ready
returns-clause-ready c =
    let marks = c.args.self.now.marks.items in
    let put : c.put_mark.new.marks ≡ set marks c.args.i New = c.put_mark.ensures ∙ ap (λ ms. set ms c.args.i New) c.deref_mut.ensures.value in
    let sized : c.args.self.now.marks.len ≡ length marks = search rules in
    let back = written-back c.args.self.now.marks.len c.put_mark.new.marks marks sized (ap length put ∙ length-set marks c.args.i New) in
    (finished-ready c.args.entries.now marks _ c.args.self.now.kept.items c.args.i c.requires.walk (back ∙ put), ap reverse c.requires.last)
