use Rattle.std.proofs.Common.{◌≡◌, ℕ, ◌+◌, ◌*◌, List, Option, sym, ◌∙◌, ap, arith, length, length-append, map}
use Rattle.ti_binary.specs.Canonical.{ended, table_of}
use Rattle.ti_binary.specs.Files.{text_said, word_at, words_in}
use Rattle.ti_extended.proofs.ListLaws.{flat_more}
use Rattle.ti_extended.proofs.reading.values_size.Goals as goal

pub loop-i-preserved : goal.loop-i-preserved
loop-i-preserved c =
    let offsets = c.args.offsets.now in
    let g : ℕ → Option (List ℕ) = text_said c.args.table.now in
    let f : ℕ → ℕ = λ n. word_at offsets (2 * n) in
    let i = c.loop-i.i in
    let e : c.ended_size-size.result ≡ length (ended (g (f i))) = c.ended_size-size.ensures.value ∙ ap (λ w. length (ended (g w))) c.word.ensures in
    let more : length (table_of (map g (words_in offsets (i + 1)))) ≡ length (table_of (map g (words_in offsets i))) + length (ended (g (f i))) =
    ap length (flat_more ended g f i) ∙ length-append (table_of (map g (words_in offsets i))) (ended (g (f i))) in
    record {
      size = (λ k. c.loop-i.invariant.size k + e k) ∙ sym more;
      small = omega (arith, c.loop-i.invariant.small, c.ended_size-size.ensures.small);
    }
