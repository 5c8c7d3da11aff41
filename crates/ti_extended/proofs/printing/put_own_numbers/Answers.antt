use Rattle.std.proofs.Common.{◌≡◌, ◌<◌, [], ◌∙◌, refl, arith, get_or, length}
use Rattle.std.proofs.lemmas.List.{get_or_read}
use Rattle.ti_extended.proofs.PrintedLaws.{number_step}
use Rattle.ti_extended.proofs.printing.put_own_numbers.Goals as goal

pub loop-i-preserved : goal.loop-i-preserved
loop-i-preserved c =
    let names = c.args.names.now in
    let numbers = c.args.numbers.now in
    let i = c.loop-i.i in
    let b : i < length numbers = c.loop-i-test.true in
    let a : i < length names = omega (arith, c.loop-i-test.true, c.requires) in
    let name : c.deref.result.now ≡ get_or names i [] = c.deref.ensures ∙ get_or_read names i c.index-names-i.result a c.index-names-i.is [] in
    number_step c.loop-i.out.items c.put_number.new.out.items _ c.deref.result.now names numbers i (get_or numbers i 0) a b c.loop-i.invariant name refl c.in_ok-put_number.ensures
