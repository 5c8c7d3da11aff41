use Rattle.std.proofs.Common.{◌++◌, ◌∙◌, ap, replicate}
use Rattle.std.specs.List.{flat_map}
use Rattle.ti_binary.specs.Canonical.{padding, words}
use Rattle.ti_extended.specs.Forms.{flags_among, header_of, joined, number_bytes, starts}
use Rattle.ti_extended.proofs.WritingLaws.{header_is, names_few, put_all}
use Rattle.ti_extended.proofs.writing.put_section.Goals as goal

pub put_header-requires-clause-names : goal.put_header-requires-clause-names
put_header-requires-clause-names c = names_few c.args.width c.args.extended.now c.of-sizes.result c.of-sizes.ensures c.requires

pub returns : goal.returns
returns c =
    let e = c.args.extended.now in
    let sizes = c.of-sizes.ensures in
    put_all c.args.out.now.items c.put_header.new.out.items c.put_flags.new.out.items c.put_numbers.new.out.items c.put_starts.new.out.items c.put_starts-2.new.out.items c.put_joined.new.out.items c.put_joined-2.new.out.items
    (words (header_of e)) (replicate (flags_among e) 1) (padding (flags_among e)) (flat_map (number_bytes c.args.width) e.numbers) (words (starts 0 e.texts)) (words (starts 0 e.names)) (joined e.texts) (joined e.names)
    (c.in_ok-put_header.ensures ∙ ap (λ w. c.args.out.now.items ++ w) (header_is c.args.width e c.of-sizes.result sizes c.requires))
    (c.in_ok-put_flags.ensures ∙ ap (λ n. c.put_header.new.out.items ++ replicate n 1 ++ padding n) sizes.flags)
    (c.in_ok-put_numbers.ensures ∙ ap (λ ns. c.put_flags.new.out.items ++ flat_map (number_bytes c.args.width) ns) c.numbers.ensures)
    (c.in_ok-put_starts.ensures ∙ ap (λ ts. c.put_numbers.new.out.items ++ words (starts 0 ts)) c.texts-texts.ensures)
    (c.in_ok-put_starts-2.ensures ∙ ap (λ ts. c.put_starts.new.out.items ++ words (starts 0 ts)) c.names-names.ensures.names)
    (c.in_ok-put_joined.ensures ∙ ap (λ ts. c.put_starts-2.new.out.items ++ joined ts) c.texts-texts.ensures)
    (c.in_ok-put_joined-2.ensures ∙ ap (λ ts. c.put_joined.new.out.items ++ joined ts) c.names-names.ensures.names)
