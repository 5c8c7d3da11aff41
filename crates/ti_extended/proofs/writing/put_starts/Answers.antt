use Rattle.std.proofs.Common.{◌≡◌, ◌<◌, ◌++◌, [], ◌∷◌, append_assoc, sym, ◌∙◌, ap, arith, rules, get_or, length, length-append, take}
use Rattle.std.proofs.lemmas.List.{get_or_read}
use Rattle.ti_binary.specs.Canonical.{word, words}
use Rattle.ti_extended.specs.Forms.{joined, starts}
use Rattle.ti_extended.proofs.ListLaws.{joined_more, starts_more, words_more}
use Rattle.ti_extended.proofs.WritingLaws.{text_fits}
use Rattle.ti_extended.proofs.writing.put_starts.Goals as goal

pub overflow_cast-size : goal.overflow_cast-size
overflow_cast-size c =
    let texts = c.args.texts.now in
    let i = c.loop-text.text-index in
    let lt : i < length texts = c.loop-text-test.true in
    let item : c.text-item.result ≡ get_or texts i [] = get_or_read texts i c.text-item.result lt c.text-item.is [] in
    let fits = text_fits texts i lt c.requires in
    omega (arith, c.loop-text.invariant.size, fits)

pub overflow_add-size-in-loop-text : goal.overflow_add-size-in-loop-text
overflow_add-size-in-loop-text c =
    let texts = c.args.texts.now in
    let i = c.loop-text.text-index in
    let lt : i < length texts = c.loop-text-test.true in
    let item : c.text-item.result ≡ get_or texts i [] = get_or_read texts i c.text-item.result lt c.text-item.is [] in
    let fits = text_fits texts i lt c.requires in
    let long : c.len.result ≡ length c.text-item.result = search rules in
    omega (arith, c.loop-text.invariant.size, fits, long, ap length item)

pub loop-text-preserved : goal.loop-text-preserved
loop-text-preserved c =
    let texts = c.args.texts.now in
    let i = c.loop-text.text-index in
    let lt : i < length texts = c.loop-text-test.true in
    let item : c.text-item.result ≡ get_or texts i [] = get_or_read texts i c.text-item.result lt c.text-item.is [] in
    let fits = text_fits texts i lt c.requires in
    let long : c.len.result ≡ length c.text-item.result = search rules in
    let text = get_or texts i [] in
    record {
      size = omega (
        arith,
        c.loop-text.invariant.size,
        long,
        ap length item,
        ap length (joined_more texts i lt),
        length-append (joined (take i texts)) (text ++ 0 ∷ []),
        length-append text (0 ∷ []),
      );
      put =
          c.in_ok-put_word.ensures ∙ (λ k. c.loop-text.invariant.put k ++ word (c.loop-text.invariant.size k))
          ∙ append_assoc c.args.out.now.items (words (starts 0 (take i texts))) (word (length (joined (take i texts))))
          ∙ ap (λ x. c.args.out.now.items ++ x) (sym (ap words (starts_more texts i lt) ∙ words_more (starts 0 (take i texts)) (length (joined (take i texts)))));
    }
