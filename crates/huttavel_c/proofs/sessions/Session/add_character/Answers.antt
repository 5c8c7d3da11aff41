use Rattle.huttavel_c.specs.Replies.{added_reply}
use Rattle.huttavel_c.proofs.CharacterLaws.{answered, added_same}
use Rattle.huttavel_c.proofs.sessions.Session.add_character.Goals as goal

pub returns : goal.returns
returns c =
    answered added_reply c.args.self.now c.add_character.new.self c.add_character.result c.added.result _ _ c.add_character.ensures c.added.ensures
    (added_same c.args.self.now.screen.desk c.args.window c.character_of-character.result c.args.code (record { 0 = c.args.attrs }) c.character_of-character.ensures)
