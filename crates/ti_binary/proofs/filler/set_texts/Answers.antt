use Rattle.std.proofs.Common.{◌≡◌, ◌*◌, ◌<◌, ◌∙◌, ap, arith, ℕ, List, Option, None, map, set, option_map}
use Rattle.std.specs.Result.{is_ok}
use Rattle.ti_caps.specs.Description.{Description}
use Rattle.ti_binary.specs.Files.{text_said, padded, word_at, words_in}
use Rattle.ti_binary.proofs.FilledLaws.{on_ok, padded_more}
use Rattle.ti_binary.proofs.WordLaws.{said_length, said_more}
use Rattle.ti_binary.proofs.filler.set_texts.Goals as goal

pub loop-slot-preserved : goal.loop-slot-preserved
loop-slot-preserved c =
    let offsets = c.args.offsets.now in
    let f : ℕ → Option (List ℕ) = text_said c.args.table.now in
    let read : ℕ → ℕ = λ n. word_at offsets (2 * n) in
    let i = c.loop-slot.slot in
    let inside : i < 512 = omega (arith, c.loop-slot-test.true, c.requires.few) in
    let here : Option (List ℕ) = f (word_at offsets (2 * i)) in
    let said : option_map (λ t. t.now) c.text_said-said.result ≡ here = c.text_said-said.ensures.value ∙ ap f (c.word.ensures ∙ ap (λ n. word_at offsets (2 * n)) c.from.ensures) in
    on_ok c.set_text.result c.set_text.ensures.ok (ap is_ok c.in_default.is)
    ∙ ap (λ (o : Option (List ℕ)). record c.loop-slot.entry { texts = set c.loop-slot.entry.texts i o }) said
    ∙ ap (λ (e : Description). record e { texts = set e.texts i here }) c.loop-slot.invariant
    ∙ ap (λ (ts : List (Option (List ℕ))). record c.args.entry.now { texts = ts })
    (padded_more 512 None here (map f (words_in offsets i)) i (said_length f read i) inside ∙ ap (padded 512 None) (said_more f read i))
