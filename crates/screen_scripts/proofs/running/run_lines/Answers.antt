use Rattle.std.proofs.Common.{◌≡◌, ◌∙◌, [], IsErrOf, rules, subst, sym}
use Rattle.screen_scripts.specs.declared.running.DemoFault.TheVariants.{BadCommand}
use Rattle.screen_scripts.proofs.RunLaws.{SoFar, nothing_left, so_far_bad, so_far_begins, so_far_cut, so_far_more, so_far_opened, so_far_whole, when_ok}
use Rattle.screen_scripts.proofs.running.run_lines.Goals as goal

pub loop-rest-init : goal.loop-rest-init
loop-rest-init g c = so_far_opened c.args.output.charset c.args.output.is_raw c.args.script.now (g.W.Write.contents c.args.out.now) c.args.stage.now c.requires

pub loop-rest-preserved : goal.loop-rest-preserved
loop-rest-preserved g c =
    let old = g.W.Write.contents c.args.out.now in
    let now = g.W.Write.contents c.loop-rest.out in
    let next = g.W.Write.contents c.write_line.new.out in
    subst (λ number. SoFar c.args.output.charset c.args.output.is_raw c.args.script.now old next number c.write_line.new.stage c.cut_line.result.1.now) (sym c.saturating_add-number.ensures)
    (so_far_more c.args.output.charset c.args.output.is_raw c.args.script.now old now next c.loop-rest.number c.loop-rest.stage c.write_line.new.stage
    c.loop-rest.rest.now c.cut_line.result.0.now c.cut_line.result.1.now c.in_ok-write_line.ensures.ok.text c.loop-rest.invariant c.cut_line.ensures.lines
    c.in_ok-write_line.ensures.ok.is c.in_ok-write_line.ensures.ok.written)

pub returns-in_err-write_line-clause-bad : goal.returns-in_err-write_line-clause-bad
returns-in_err-write_line-clause-bad g c = λ n is.
    let fault : IsErrOf c.write_line.result (BadCommand n) = search rules in
    (so_far_bad c.args.output.charset c.args.output.is_raw c.args.script.now (g.W.Write.contents c.args.out.now) (g.W.Write.contents c.loop-rest.out) (g.W.Write.contents c.write_line.new.out) c.loop-rest.number n
    c.loop-rest.stage c.loop-rest.rest.now c.cut_line.result.0.now c.cut_line.result.1.now c.loop-rest.invariant c.cut_line.ensures.lines (c.write_line.ensures.bad n fault)).0

pub returns-in_err-write_line-clause-before_bad : goal.returns-in_err-write_line-clause-before_bad
returns-in_err-write_line-clause-before_bad g c = λ n is.
    let fault : IsErrOf c.write_line.result (BadCommand n) = search rules in
    (so_far_bad c.args.output.charset c.args.output.is_raw c.args.script.now (g.W.Write.contents c.args.out.now) (g.W.Write.contents c.loop-rest.out) (g.W.Write.contents c.write_line.new.out) c.loop-rest.number n
    c.loop-rest.stage c.loop-rest.rest.now c.cut_line.result.0.now c.cut_line.result.1.now c.loop-rest.invariant c.cut_line.ensures.lines (c.write_line.ensures.bad n fault)).1

pub returns-in_err-write_line-clause-beginning : goal.returns-in_err-write_line-clause-beginning
returns-in_err-write_line-clause-beginning g c =
    so_far_cut c.args.output.charset c.args.output.is_raw c.args.script.now (g.W.Write.contents c.args.out.now) (g.W.Write.contents c.loop-rest.out) (g.W.Write.contents c.write_line.new.out) c.loop-rest.number c.loop-rest.stage
    c.write_line.new.stage c.loop-rest.rest.now c.cut_line.result.0.now c.cut_line.result.1.now c.loop-rest.invariant c.cut_line.ensures.lines c.write_line.ensures.beginning

pub returns-clause-whole : goal.returns-clause-whole
returns-clause-whole g c =
    let ended : c.loop-rest.rest.now ≡ [] = nothing_left c.loop-rest.rest.now (sym c.is_empty.ensures ∙ c.loop-rest-test.false) in
    when_ok c.flush.result (so_far_whole c.args.output.charset c.args.output.is_raw c.args.script.now (g.W.Write.contents c.args.out.now) (g.W.Write.contents c.loop-rest.out) (g.W.Write.contents c.flush.new.out)
    c.loop-rest.number c.loop-rest.stage c.loop-rest.rest.now c.loop-rest.invariant ended c.flush.ensures.kept).0

pub returns-clause-written : goal.returns-clause-written
returns-clause-written g c =
    let ended : c.loop-rest.rest.now ≡ [] = nothing_left c.loop-rest.rest.now (sym c.is_empty.ensures ∙ c.loop-rest-test.false) in
    when_ok c.flush.result (so_far_whole c.args.output.charset c.args.output.is_raw c.args.script.now (g.W.Write.contents c.args.out.now) (g.W.Write.contents c.loop-rest.out) (g.W.Write.contents c.flush.new.out)
    c.loop-rest.number c.loop-rest.stage c.loop-rest.rest.now c.loop-rest.invariant ended c.flush.ensures.kept).1

pub returns-clause-beginning : goal.returns-clause-beginning
returns-clause-beginning g c =
    so_far_begins c.args.output.charset c.args.output.is_raw c.args.script.now (g.W.Write.contents c.args.out.now) (g.W.Write.contents c.loop-rest.out) (g.W.Write.contents c.flush.new.out) c.loop-rest.number c.loop-rest.stage
    c.loop-rest.rest.now c.loop-rest.invariant c.flush.ensures.kept
