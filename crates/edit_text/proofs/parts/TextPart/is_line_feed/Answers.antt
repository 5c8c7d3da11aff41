use Rattle.edit_text.proofs.PartLaws.{feed_is}
use Rattle.edit_text.proofs.parts.TextPart.is_line_feed.Goals as goal

pub returns-in-Character : goal.returns-in-Character
returns-in-Character c = rw c.in-Character.is (feed_is c.in-Character.character)
