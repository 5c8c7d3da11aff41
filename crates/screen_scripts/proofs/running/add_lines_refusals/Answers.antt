use Rattle.std.proofs.Common.{◌≡◌, ◌∙◌, [], None, rules, sym}
use Rattle.screen_scripts.specs.Showing.{stages_of}
use Rattle.screen_scripts.specs.Stories.{line_outcome, next_number}
use Rattle.screen_scripts.proofs.RunLaws.{nothing_left, refused_all, refused_end, refused_first, refused_more}
use Rattle.screen_scripts.proofs.running.add_lines_refusals.Goals as goal

pub loop-rest-init : goal.loop-rest-init
loop-rest-init c = (1, refused_first c.args.script.now c.args.text.now.items c.args.stage.now c.requires.stage c.requires.text)

pub loop-rest-preserved : goal.loop-rest-preserved
loop-rest-preserved c = (
  next_number c.loop-rest.invariant.0,
  refused_more c.args.script.now c.loop-rest.invariant.0 c.loop-rest.stage c.add_refusal.new.stage c.loop-rest.rest.now c.cut_line.result.0.now c.cut_line.result.1.now
      c.loop-rest.text.items c.add_refusal.new.text.items c.loop-rest.invariant.1 c.cut_line.ensures.lines c.in-Ok.ensures.ok,
)

pub returns-after-loop-rest : goal.returns-after-loop-rest
returns-after-loop-rest c =
    let ended : c.loop-rest.rest.now ≡ [] = nothing_left c.loop-rest.rest.now (sym c.is_empty.ensures ∙ c.loop-rest-test.false) in
    refused_all c.args.script.now c.loop-rest.invariant.0 c.loop-rest.stage c.loop-rest.rest.now c.loop-rest.text.items c.loop-rest.invariant.1 ended

pub returns-in-Err-Bad : goal.returns-in-Err-Bad
returns-in-Err-Bad c =
    let bad : (line_outcome (stages_of c.loop-rest.stage) c.cut_line.result.0.now ≡ None) × (c.add_refusal.new.text.items ≡ c.loop-rest.text.items) = search rules in
    bad.1 ∙ refused_end c.args.script.now c.loop-rest.invariant.0 c.loop-rest.stage c.loop-rest.rest.now c.cut_line.result.0.now c.cut_line.result.1.now c.loop-rest.text.items
    c.loop-rest.invariant.1 c.cut_line.ensures.lines bad.0
