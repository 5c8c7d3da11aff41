use Rattle.std.proofs.Common.{ap, ◌∙◌, ◌∷◌, rules}
use Rattle.std.specs.Option.{option_copied}
use Rattle.screen_calls.specs.Fields.{parts_after}
use Rattle.screen_scripts.proofs.LineLaws.{first_of_more}
use Rattle.screen_scripts.proofs.cuts.cut_line.Goals as goal

pub returns-in-Some-clause-lines : goal.returns-in-Some-clause-lines
returns-in-Some-clause-lines c =
    first_of_more c.args.script.now c.cut_at.result.0.now c.in-Some.rest.now c.requires
    (c.cut_at.ensures.parts ∙ ap (λ rest. c.cut_at.result.0.now ∷ parts_after 10 (option_copied rest)) c.in-Some.is)

pub returns-in-None-clause-lines : goal.returns-in-None-clause-lines
returns-in-None-clause-lines c = search rules
