use Rattle.std.proofs.Common.{◌≡◌, ℕ, Option, [], ◌∷◌, ◌++◌, append_assoc, sym, ◌∙◌, ap, map}
use Rattle.ti_binary.specs.Files.{nth_number, numbers_in}
use Rattle.ti_extended.specs.Sections.{whole_said}
use Rattle.ti_extended.proofs.ListLaws.{said_more, small_more, small_number}
use Rattle.ti_extended.proofs.numbers.add_numbers.Goals as goal

pub loop-i-preserved : goal.loop-i-preserved
loop-i-preserved c =
    let width = c.args.width in
    let section = c.args.section.now in
    let g : ℕ → Option ℕ = whole_said width in
    let f : ℕ → ℕ = λ n. nth_number width section n in
    let i = c.loop-i.i in
    let said : c.whole_said.result ≡ g (f i) = c.whole_said.ensures.value ∙ ap g c.number.ensures in
    record {
      value =
          c.in_ok-push.ensures.items ∙ (λ k. c.loop-i.invariant.value k ++ said k ∷ [])
          ∙ append_assoc c.args.numbers.now.items (map g (numbers_in width section i)) (g (f i) ∷ [])
          ∙ ap (λ xs. c.args.numbers.now.items ++ xs) (sym (said_more g f i));
      small = small_more c.loop-i.numbers.items c.push.new.self.items c.whole_said.result c.in_ok-push.ensures.items c.loop-i.invariant.small (small_number c.whole_said.result c.whole_said.ensures.small);
    }
