use Rattle.std.proofs.Common.{ap, ◌∙◌}
use Rattle.std.specs.List.{list_any}
use Rattle.ti_binary.specs.Files.{is_nul}
use Rattle.ti_binary.proofs.FilledLaws.{no_nul}
use Rattle.ti_binary.proofs.texts.text_said.Goals as goal

pub returns-then-offset-le-MOST_NUMBER-clause-whole : goal.returns-then-offset-le-MOST_NUMBER-clause-whole
returns-then-offset-le-MOST_NUMBER-clause-whole c = ap (list_any is_nul) c.before_nul.ensures ∙ no_nul c.rest_from.result.now
