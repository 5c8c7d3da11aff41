use Rattle.std.proofs.lemmas.List.{get_or-replicate}
use Rattle.scr_keys.proofs.firsts.no_texts.Goals as goal

pub returns : goal.returns
returns c = λ byte inside. get_or-replicate 256 byte 0 0 inside
