use Rattle.std.proofs.Common.{rules}
use Rattle.scr_term.specs.Code.SentPieces.{piece_of}
use Rattle.scr_term.proofs.RenderingLaws.{cost_of_two, has_piece}
use Rattle.scr_term.proofs.operations.profiles.Profile.any_cost.Goals as goal

pub returns-then-makes_colours_default : goal.returns-then-makes_colours_default
returns-then-makes_colours_default c =
    cost_of_two c.args.self.now c.args.op _ _ (piece_of c.text.result) (has_piece c.args.self.now c.args.op (search rules) (search rules)) (search rules) (search rules) (search rules) (search rules)
