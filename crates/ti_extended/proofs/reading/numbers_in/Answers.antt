use Rattle.std.proofs.Common.{◌≡◌, ℕ, Option, [], ◌∷◌, ◌++◌, append_assoc, sym, ◌∙◌, ap, is_some, map}
use Rattle.std.specs.Option.{option_to_list}
use Rattle.ti_binary.specs.Files.{nth_number, numbers_in}
use Rattle.ti_extended.specs.Sections.{whole_said}
use Rattle.ti_extended.proofs.ListLaws.{flat_more, tests_more}
use Rattle.ti_extended.proofs.reading.numbers_in.Goals as goal

pub loop-i-preserved : goal.loop-i-preserved
loop-i-preserved c =
    let width = c.args.width in
    let section = c.args.section.now in
    let g : ℕ → Option ℕ = whole_said width in
    let f : ℕ → ℕ = λ n. nth_number width section n in
    let i = c.loop-i.i in
    let said : c.whole_said-said.result ≡ g (f i) = c.whole_said-said.ensures.value ∙ ap g c.number.ensures in
    let there : c.is_some.result ≡ is_some (g (f i)) = c.is_some.ensures ∙ ap is_some said in
    record {
      there =
          c.in_ok-push.ensures.items ∙ (λ k. c.loop-i.invariant.there k ++ there k ∷ [])
          ∙ append_assoc c.args.there.now.items (map is_some (map g (numbers_in width section i))) (is_some (g (f i)) ∷ [])
          ∙ ap (λ xs. c.args.there.now.items ++ xs) (sym (tests_more is_some g f i));
      value = c.in_ok-put_present.ensures ∙ (λ k. c.loop-i.invariant.value k ++ option_to_list (said k)) ∙ sym (flat_more option_to_list g f i);
    }
