use Rattle.std.proofs.Common.{map, subst, rules}
use Rattle.ti_source.specs.Resolving.Named.{index_of}
use Rattle.ti_source.specs.Code.Leading.{Leads}
use Rattle.ti_source.specs.Code.EntryWalk.{AreBelow}
use Rattle.ti_source.proofs.ListingLaws.{done-light, over-light, some-more}
use Rattle.ti_source.proofs.resolving.listing.light_mark.Goals as goal

pub returns-in-Some : goal.returns-in-Some
returns-in-Some c =
    let leads : Leads c.args.entries.now c.args.entry.now c.in-Some.used = search rules in
    some-more c.over.result _ _ c.over.ensures (λ m h. over-light c.args.entries.now c.args.marks.now c.args.kept.now c.args.entry.now c.in-Some.used c.led_to.result h.0 m c.requires.kept c.requires.known leads c.led_to.ensures h.1 h.2)

pub returns-in-None : goal.returns-in-None
returns-in-None c =
    some-more c.several.result _ _ c.several.ensures (λ m h. done-light c.args.entries.now c.args.marks.now c.args.kept.now c.args.entry.now h.0 m c.requires.kept c.requires.known h.1 (subst (λ us. AreBelow c.args.marks.now (map (index_of c.args.entries.now) us) h.0) c.uses.ensures.value h.2))
