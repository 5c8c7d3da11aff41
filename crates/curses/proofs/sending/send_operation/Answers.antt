use Rattle.std.proofs.Common.{ap, arith, length, subst, sym, []}
use Rattle.curses.specs.Cuts.{IsCut}
use Rattle.curses.proofs.CutLaws.{character_sent}
use Rattle.curses.proofs.sending.send_operation.Goals as goal

pub send_character-requires-clause-room : goal.send_character-requires-clause-room
send_character-requires-clause-room g c =
    let text = character_sent c.args.profile.now c.args.op c.in-Put.byte c.in-Put.is in
    omega (arith, ap length text, c.requires.room)

pub returns-in-Put-clause-cut : goal.returns-in-Put-clause-cut
returns-in-Put-clause-cut g c =
    let text = character_sent c.args.profile.now c.args.op c.in-Put.byte c.in-Put.is in
    subst (λ t. IsCut [] t (g.W.Counted.told c.args.out.now).taken (g.W.Counted.told c.send_character.new.out).taken c.send_character.result.bytes c.send_character.new.waiting.items) (sym text)
    c.send_character.ensures.cut

pub returns-in-Put-clause-few : goal.returns-in-Put-clause-few
returns-in-Put-clause-few g c =
    let text = character_sent c.args.profile.now c.args.op c.in-Put.byte c.in-Put.is in
    omega (arith, ap length text, c.send_character.ensures.few)
