use Rattle.std.proofs.Common.{◌≡◌, ◌≤◌, ◌∙◌, ◌-◌, ◌++◌, ◌∷◌, [], ap, arith, length, map, subst, subst₂, sym, take, take_at}
use Rattle.std.specs.Option.{option_to_list}
use Rattle.scr_keys.specs.Code.Sequences.{BeginNone}
use Rattle.scr_keys.specs.Typing.{AreTyped, Came, CanWait, IsBegun, came}
use Rattle.scr_keys.specs.declared.keys.Key.TheVariants as keys
use Rattle.scr_keys.specs.declared.typing.Typed.TheVariants as typed
use Rattle.scr_keys.proofs.SequenceLaws.{begun_short}
use Rattle.scr_keys.proofs.TypingLaws.{typed_begun, typed_broken, typed_whole}
use Rattle.scr_keys.proofs.typed_readers.TypedReader.byte.Goals as goal

pub push-requires : goal.push-requires
push-requires c =
    let few : length c.take-bytes.result.items ≤ 3 = subst (λ v. length v.items ≤ 3) (sym c.take-bytes.ensures.value) (begun_short c.self.inside.waiting.items c.self.invariant) in
    (omega arith, omega arith)

pub returns-in-Whole : goal.returns-in-Whole
returns-in-Whole c =
    let before : c.take-bytes.result.items ≡ c.args.self.now = (λ i. (c.take-bytes.ensures.value i).items) ∙ c.self.view_is in
    let all : c.args.self.now ++ c.args.byte ∷ [] ≡ c.deref.result.now = ap (λ l. l ++ c.args.byte ∷ []) (sym before) ∙ sym c.push.ensures.items ∙ sym c.deref.ensures.0 in
    let given : c.of-in-Whole.result ≡ typed.Character c.in-Whole.character ∷ [] = c.of-in-Whole.ensures ∙ ap (λ l. map (λ b. typed.Byte b) l ++ typed.Character c.in-Whole.character ∷ []) c.new-in-Whole.ensures in
    subst₂ (AreTyped (came c.args.self.now ++ Came (keys.Byte c.args.byte) ∷ [])) (sym given) (sym c.take-bytes.ensures.after)
    (typed_whole c.args.self.now c.args.byte c.in-Whole.character c.in-Whole.ensures.0 (all ∙ c.in-Whole.ensures.1))

pub returns-in-Begun : goal.returns-in-Begun
returns-in-Begun c =
    let before : c.take-bytes.result.items ≡ c.args.self.now = (λ i. (c.take-bytes.ensures.value i).items) ∙ c.self.view_is in
    let all : c.args.self.now ++ c.args.byte ∷ [] ≡ c.push.new.self.items = ap (λ l. l ++ c.args.byte ∷ []) (sym before) ∙ sym c.push.ensures.items in
    subst₂ (AreTyped (came c.args.self.now ++ Came (keys.Byte c.args.byte) ∷ [])) (sym c.empty.ensures) all
    (typed_begun c.args.self.now c.args.byte (subst IsBegun (c.deref.ensures.0 ∙ sym all) c.in-Begun.ensures))

pub returns-in-Broken : goal.returns-in-Broken
returns-in-Broken c =
    let waits : CanWait c.args.self.now = subst CanWait c.self.view_is c.self.invariant in
    let before : c.take-bytes.result.items ≡ c.args.self.now = (λ i. (c.take-bytes.ensures.value i).items) ∙ c.self.view_is in
    let all : c.args.self.now ++ c.args.byte ∷ [] ≡ c.push.new.self.items = ap (λ l. l ++ c.args.byte ∷ []) (sym before) ∙ sym c.push.ensures.items in
    let back : c.pop.new.self.items ≡ c.args.self.now =
    c.pop.ensures.rest ∙ ap (take (length c.push.new.self.items - 1)) (sym all)
    ∙ take_at c.args.self.now (c.args.byte ∷ []) (length c.push.new.self.items - 1) (omega (arith, c.push.ensures.len, ap length before)) in
    let given : c.of-in-Broken.result ≡ map (λ b. typed.Byte b) c.args.self.now ++ option_to_list c.first-in-Broken.result = c.of-in-Broken.ensures ∙ ap (λ l. map (λ b. typed.Byte b) l ++ option_to_list c.first-in-Broken.result) back in
    subst (λ r. AreTyped (came c.args.self.now ++ Came (keys.Byte c.args.byte) ∷ []) r c.first-in-Broken.new.self) (sym given)
    (typed_broken c.args.self.now c.args.byte (option_to_list c.first-in-Broken.result) c.first-in-Broken.new.self waits (subst BeginNone (c.deref.ensures.0 ∙ sym all) c.in-Broken.ensures) c.first-in-Broken.ensures)
