use Rattle.huttavel_c.specs.Replies.{done_number}
use Rattle.huttavel_c.proofs.CharacterLaws.{answered, inserted_same}
use Rattle.huttavel_c.proofs.sessions.Session.insert_character.Goals as goal

pub returns : goal.returns
returns c =
    answered done_number c.args.self.now c.insert_character.new.self c.insert_character.result c.done.result _ _ c.insert_character.ensures c.done.ensures
    (inserted_same c.args.self.now.screen.desk c.args.window c.character_of-character.result c.args.code (record { 0 = c.args.attrs }) c.character_of-character.ensures)
