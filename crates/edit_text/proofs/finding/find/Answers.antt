use Rattle.edit_text.proofs.SearchLaws.{found_from}
use Rattle.edit_text.proofs.finding.find.Goals as goal

pub returns-in-Some : goal.returns-in-Some
returns-in-Some c = found_from c.args.lines.now c.args.from c.args.bytes.now c.in-Some.place c.in-Some.ensures
