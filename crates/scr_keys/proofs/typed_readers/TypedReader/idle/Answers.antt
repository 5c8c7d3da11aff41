use Rattle.std.proofs.Common.{◌++◌, ◌∷◌, [], subst₂, sym}
use Rattle.scr_keys.specs.Typing.{AreTyped, Idled, came}
use Rattle.scr_keys.proofs.TypingLaws.{typed_idle}
use Rattle.scr_keys.proofs.typed_readers.TypedReader.idle.Goals as goal

pub returns-clause-typed : goal.returns-clause-typed
returns-clause-typed c = subst₂ (AreTyped (came c.args.self.now ++ Idled ∷ [])) (sym c.cut.ensures.items) (sym c.cut.ensures.none) (typed_idle c.args.self.now c.cut.ensures.waits)
