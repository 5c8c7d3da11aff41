use Rattle.curses.proofs.OpeningLaws.{equipped_of}
use Rattle.curses.proofs.opening.admitted.Goals as goal

pub returns-then-opening-clause-equipped : goal.returns-then-opening-clause-equipped
returns-then-opening-clause-equipped c = λ _. equipped_of c.args.entry.now c.args.size c.in_ok-profile.ensures.ok.suits
