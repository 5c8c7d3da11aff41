use Rattle.std.proofs.Common.{ap, subst, sym}
use Rattle.scr_term.specs.Operations.Larger.{MovesNothing}
use Rattle.curses.proofs.OpeningLaws.{equipped_of}
use Rattle.curses.proofs.screens.Screen.open_as.Goals as goal

pub returns-in_err-keys-clause-equipped : goal.returns-in_err-keys-clause-equipped
returns-in_err-keys-clause-equipped c = λ _. equipped_of c.args.entry.now c.args.size c.in_ok-profile.ensures.accepted

pub returns-in_err-texts-clause-equipped : goal.returns-in_err-texts-clause-equipped
returns-in_err-texts-clause-equipped c = λ _. equipped_of c.args.entry.now c.args.size c.in_ok-profile.ensures.accepted

pub returns-in_err-screen-clause-equipped : goal.returns-in_err-screen-clause-equipped
returns-in_err-screen-clause-equipped c = λ _. equipped_of c.args.entry.now c.args.size c.in_ok-profile.ensures.accepted

pub returns-clause-still : goal.returns-clause-still
returns-clause-still c = λ larger. subst MovesNothing (sym (ap (λ s. s.profile) c.in_ok-screen.ensures)) (c.in_ok-profile.ensures.still larger)
