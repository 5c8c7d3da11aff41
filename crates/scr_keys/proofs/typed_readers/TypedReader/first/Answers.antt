use Rattle.std.proofs.Common.{◌≡◌, ◌∙◌, ◌++◌, ◌∷◌, [], ap, sym, subst}
use Rattle.scr_keys.specs.Typing.{AreTyped, CanWait, Came}
use Rattle.scr_keys.specs.declared.keys.Key.TheVariants as keys
use Rattle.scr_keys.specs.declared.typing.Typed.TheVariants as typed
use Rattle.scr_keys.proofs.TypingLaws.{typed_alone, typed_first}
use Rattle.scr_keys.proofs.typed_readers.TypedReader.first.Goals as goal

pub invariant_of-self : goal.invariant_of-self
invariant_of-self c =
    let items : c.push.new.self.items ≡ c.args.byte ∷ [] = c.push.ensures.items ∙ ap (λ l. l ++ c.args.byte ∷ []) (c.self.view_is ∙ c.requires) in
    subst CanWait (sym items) c.if-begins_sequence.ensures

pub returns-then-begins_sequence : goal.returns-then-begins_sequence
returns-then-begins_sequence c =
    let items : c.push.new.self.items ≡ c.args.byte ∷ [] = c.push.ensures.items ∙ ap (λ l. l ++ c.args.byte ∷ []) (c.self.view_is ∙ c.requires) in
    subst (λ l. AreTyped (Came (keys.Byte c.args.byte) ∷ []) [] l) (sym items) (typed_first c.args.byte c.if-begins_sequence.ensures)

pub returns-else-begins_sequence : goal.returns-else-begins_sequence
returns-else-begins_sequence c =
    subst (λ l. AreTyped (Came (keys.Byte c.args.byte) ∷ []) (typed.Byte c.args.byte ∷ []) l) (sym c.requires) (typed_alone c.args.byte c.if-begins_sequence.ensures)
