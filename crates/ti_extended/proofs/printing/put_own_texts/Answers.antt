use Rattle.std.proofs.Common.{◌≡◌, ◌<◌, [], ◌∙◌, arith, get_or, length}
use Rattle.std.proofs.lemmas.List.{get_or_read}
use Rattle.ti_extended.proofs.PrintedLaws.{text_step}
use Rattle.ti_extended.proofs.printing.put_own_texts.Goals as goal

pub loop-i-preserved : goal.loop-i-preserved
loop-i-preserved c =
    let names = c.args.names.now in
    let texts = c.args.texts.now in
    let i = c.loop-i.i in
    let b : i < length texts = c.loop-i-test.true in
    let a : i < length names = omega (arith, c.loop-i-test.true, c.requires) in
    let name : c.deref.result.now ≡ get_or names i [] = c.deref.ensures ∙ get_or_read names i c.index-names-i.result a c.index-names-i.is [] in
    let text : c.deref-in-loop-i.result.now ≡ get_or texts i [] = c.deref-in-loop-i.ensures ∙ get_or_read texts i c.index-texts-i.result b c.index-texts-i.is [] in
    text_step c.loop-i.out.items c.put_text.new.out.items _ c.deref.result.now c.deref-in-loop-i.result.now names texts i a b c.loop-i.invariant name text c.in_ok-put_text.ensures
