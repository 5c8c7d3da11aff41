use Rattle.edit_text.proofs.ReadingLaws.{bytes_tell}
use Rattle.edit_text.proofs.laws.texts_read_back.Goals as goal

pub returns : goal.returns
returns c = bytes_tell
