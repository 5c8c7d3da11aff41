use Rattle.ti_param.proofs.ParsedLaws.{parsed_of_text, text_of_parsed}
use Rattle.ti_param.proofs.laws.text_is_parsed.Goals as goal

pub returns : goal.returns
returns c = λ tree text. (text_of_parsed tree text, parsed_of_text tree text)
