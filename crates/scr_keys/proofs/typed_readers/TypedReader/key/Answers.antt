use Rattle.std.proofs.Common.{◌++◌, ◌∷◌, [], rules, subst, subst₂, sym}
use Rattle.scr_keys.specs.Typing.{AreTyped, Came, came}
use Rattle.scr_keys.specs.declared.keys.Key.TheVariants as keys
use Rattle.scr_keys.proofs.TypingLaws.{typed_key}
use Rattle.scr_keys.proofs.typed_readers.TypedReader.key.Goals as goal

pub returns-in-Slot : goal.returns-in-Slot
returns-in-Slot c =
    subst (λ key. AreTyped (came c.args.self.now ++ Came key ∷ []) c.cut.result c.cut.new.self) (sym c.in-Slot.is)
    (subst₂ (AreTyped (came c.args.self.now ++ Came (keys.Slot c.in-Slot.slot) ∷ [])) (sym c.cut.ensures.items) (sym c.cut.ensures.none) (typed_key c.args.self.now c.in-Slot.slot c.cut.ensures.waits))

pub returns-in-Byte : goal.returns-in-Byte
returns-in-Byte c = search rules
