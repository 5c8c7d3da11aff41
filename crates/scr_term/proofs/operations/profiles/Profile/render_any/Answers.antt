use Rattle.std.proofs.lemmas.Grind.{common_steps}
use Rattle.std.proofs.Common.{◌≡◌, ap, arith, rules, length, vec_len}
use Rattle.scr_term.specs.Operations.Texts.{piece_bytes}
use Rattle.scr_term.specs.Code.SentPieces.{piece_of}
use Rattle.scr_term.proofs.RenderingLaws.{first_within, both_appended, room_of_two, at_refusal}
use Rattle.scr_term.proofs.operations.profiles.Profile.render_any.Goals as goal

pub returns-in_err-render_piece-clause-room : goal.returns-in_err-render_piece-clause-room
returns-in_err-render_piece-clause-room c =
    let same = ap (λ p. length (piece_bytes c.args.self.now p)) c.first_sent.ensures.value in
    at_refusal c.from_residual.result _ (omega (arith, c.in_err-render_piece.ensures.room, same, first_within c.args.self.now c.args.op.now))

pub returns-in-Err-clause-room : goal.returns-in-Err-clause-room
returns-in-Err-clause-room c =
    let old : length c.args.out.now.items ≡ vec_len c.args.out.now = search rules in
    let middle : length c.render_piece.new.out.items ≡ vec_len c.render_piece.new.out = search rules in
    let whole = room_of_two c.args.self.now c.args.op.now (piece_of c.text.result) c.args.out.now.items c.render_piece.new.out.items (search rules) (search rules) (search rules) in
    omega (arith, c.in-Err.ensures.room, c.render_piece.ensures.kept, old, middle, whole)

pub returns-in_default-clause-ok : goal.returns-in_default-clause-ok
returns-in_default-clause-ok c =
    both_appended c.args.self.now c.args.op.now (piece_of c.text.result) c.args.out.now.items c.render_piece.new.out.items _ (search rules) (search rules) (search rules) (search rules)

pub returns-in-Err-clause-err : goal.returns-in-Err-clause-err
returns-in-Err-clause-err c = grind (arith, common_steps)
