use Rattle.std.proofs.Common.{◌≡◌, ℕ, ◌*◌, List, Option, [], ◌∷◌, ◌++◌, append_assoc, sym, ◌∙◌, ap, is_some, map, option_map}
use Rattle.std.specs.Option.{option_to_list}
use Rattle.ti_binary.specs.Files.{text_said, word_at, words_in}
use Rattle.ti_extended.proofs.ListLaws.{flat_more, is_some-option_map, tests_more}
use Rattle.ti_extended.proofs.reading.texts_in.Goals as goal

pub loop-i-preserved : goal.loop-i-preserved
loop-i-preserved c =
    let offsets = c.args.offsets.now in
    let g : ℕ → Option (List ℕ) = text_said c.args.table.now in
    let f : ℕ → ℕ = λ n. word_at offsets (2 * n) in
    let i = c.loop-i.i in
    let said : option_map (λ t. t.now) c.text_said-said.result ≡ g (f i) = c.text_said-said.ensures.value ∙ ap g c.word.ensures in
    let there : c.is_some.result ≡ is_some (g (f i)) = c.is_some.ensures ∙ sym (is_some-option_map (λ t. t.now) c.text_said-said.result) ∙ ap is_some said in
    record {
      there =
          c.in_ok-push.ensures.items ∙ (λ k. c.loop-i.invariant.there k ++ there k ∷ [])
          ∙ append_assoc c.args.there.now.items (map is_some (map g (words_in offsets i))) (is_some (g (f i)) ∷ [])
          ∙ ap (λ xs. c.args.there.now.items ++ xs) (sym (tests_more is_some g f i));
      value = c.in_ok-put_text.ensures ∙ (λ k. c.loop-i.invariant.value k ++ option_to_list (said k)) ∙ sym (flat_more option_to_list g f i);
    }
