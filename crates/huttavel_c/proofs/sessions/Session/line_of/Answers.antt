use Rattle.std.proofs.Common.{◌∙◌, ap, sym}
use Rattle.huttavel_c.specs.Characters.{line_of_call}
use Rattle.huttavel_c.specs.Replies.{done_number}
use Rattle.huttavel_c.proofs.CharacterLaws.{across_same, answered, down_same}
use Rattle.huttavel_c.proofs.sessions.Session.line_of.Goals as goal

pub returns-in-true : goal.returns-in-true
returns-in-true c =
    let desk = c.args.self.now.screen.desk in
    answered done_number c.args.self.now c.line_down_of.new.self c.line_down_of.result c.done.result _ (line_of_call c.args.down desk c.args.window c.args.code c.args.n) c.line_down_of.ensures c.done.ensures
    (down_same desk c.args.window c.character_of-character.result c.args.code c.args.n c.character_of-character.ensures
    ∙ ap (λ down. line_of_call down desk c.args.window c.args.code c.args.n) (sym c.in-true.is))

pub returns-in-false : goal.returns-in-false
returns-in-false c =
    let desk = c.args.self.now.screen.desk in
    answered done_number c.args.self.now c.line_across_of.new.self c.line_across_of.result c.done-in-false.result _ (line_of_call c.args.down desk c.args.window c.args.code c.args.n) c.line_across_of.ensures c.done-in-false.ensures
    (across_same desk c.args.window c.character_of-character.result c.args.code c.args.n c.character_of-character.ensures
    ∙ ap (λ down. line_of_call down desk c.args.window c.args.code c.args.n) (sym c.in-false.is))
