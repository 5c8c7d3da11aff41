use Rattle.std.proofs.Common.{subst}
use Rattle.std.specs.Io.KnownBytes.{Appends}
use Rattle.screen_scripts.specs.Printing.{GrewByBeginning}
use Rattle.screen_scripts.proofs.RunLaws.{line_begun, line_written, on_ok}
use Rattle.screen_scripts.proofs.running.write_line.Goals as goal

pub returns-in-Ok-clause-ok : goal.returns-in-Ok-clause-ok
returns-in-Ok-clause-ok g c =
    let held = g.W.Write.contents c.args.out.now in
    let holds = g.W.Write.contents c.write_text.new.out in
    on_ok c.write_text.result
    (λ appends. line_written c.args.output.charset c.args.output.is_raw c.args.stage.now c.line_text.new.stage c.args.line.now c.in-Ok.text.items held holds c.in-Ok.ensures.text
    (subst (λ text. Appends held holds text) c.deref.ensures.value appends)) c.write_text.ensures.written

pub returns-in-Ok-clause-beginning : goal.returns-in-Ok-clause-beginning
returns-in-Ok-clause-beginning g c =
    let held = g.W.Write.contents c.args.out.now in
    let holds = g.W.Write.contents c.write_text.new.out in
    line_begun c.args.output.charset c.args.output.is_raw c.args.stage.now c.line_text.new.stage c.args.line.now c.in-Ok.text.items held holds c.in-Ok.ensures.text
    (subst (λ text. GrewByBeginning held holds text) c.deref.ensures.value c.write_text.ensures.beginning)
