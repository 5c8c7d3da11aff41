use Rattle.std.proofs.Common.{eqb, rules, tests, ap, ◌∙◌, ◌++◌, ◌∷◌, []}
use Rattle.std.proofs.lemmas.Iterator.Splits.{YieldsList-from_slice_split}
use Rattle.std.proofs.lemmas.Iterator.Consumers.{YieldsList-turn, YieldsList-end}
use Rattle.edit_text.proofs.ReadingLaws.{read_more, read_all}
use Rattle.edit_text.proofs.lines.Lines.read.Goals as goal

pub loop-line-preserved : goal.loop-line-preserved
loop-line-preserved c =
    let t = YieldsList-turn (YieldsList-from_slice_split _ (λ byte. eqb byte 10) c.args.bytes.now (cc) (cc) (cc) (λ x b q k. search (rules, tests))) c.loop-line.yielded _ c.loop-line.yielded_by _ _ c.in-Some.line c.in-Some.is c.next.ensures.steps in
    read_more _ c.loop-line.yielded c.in-Some.line c.in-Some.line.now c.loop-line.lines.items c.push.new.self.items t.0 t.1 c.loop-line.invariant (c.in_ok-push.ensures.items ∙ ap (λ line. c.loop-line.lines.items ++ line ∷ []) c.in_ok-from_slice.ensures.items)

pub returns : goal.returns
returns c =
    let t = YieldsList-end (YieldsList-from_slice_split _ (λ byte. eqb byte 10) c.args.bytes.now (cc) (cc) (cc) (λ x b q k. search (rules, tests))) c.loop-line.yielded _ c.loop-line.yielded_by _ _ c.in-None.is c.next.ensures.steps in
    read_all _ c.loop-line.yielded c.loop-line.lines.items t.1 c.loop-line.invariant
