use Rattle.std.proofs.Common.{◌≡◌, ℕ, ◌*◌, List, [], ◌∷◌, ◌++◌, false, sym, ◌∙◌, ap, get_or}
use Rattle.ti_binary.specs.Files.{word_at}
use Rattle.ti_extended.specs.Sections.{kept, name_said}
use Rattle.ti_extended.proofs.ListLaws.{kept_more}
use Rattle.ti_extended.proofs.reading.kept_names.Goals as goal

pub loop-i-preserved : goal.loop-i-preserved
loop-i-preserved c =
    let there = c.args.there.now in
    let g : ℕ → List ℕ = name_said c.args.names.now in
    let f : ℕ → ℕ = λ n. word_at c.args.offsets.now (2 * n) in
    let i = c.loop-i.i in
    let name : c.name_said-name.result.now ≡ g (f i) = c.name_said-name.ensures ∙ ap g c.word.ensures in
    c.in_ok-put_name.ensures
    ∙ (λ k. c.loop-i.invariant k ++ kept (get_or there i false ∷ []) (name k ∷ []))
    ∙ sym (kept_more g f there i c.loop-i-test.true)
