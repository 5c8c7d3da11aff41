use Rattle.std.proofs.Common.{◌∙◌, refl}
use Rattle.std.specs.Str.{bytes_eq}
use Rattle.indexmap.proofs.CallerLemmas.{insert_entry-new}
use Rattle.scr_keys.proofs.MapLaws.{add_last, lookup_seen}
use Rattle.scr_keys.proofs.maps.add.Goals as goal

pub returns : goal.returns
returns c =
    add_last (λ k. k.items) c.args.map.now.entries c.insert.new.self.entries c.args.text c.args.text.items c.args.slot refl
    (c.in_ok-insert.ensures.entries ∙ insert_entry-new (λ x y. bytes_eq x.items y.items) c.args.map.now c.args.text c.args.slot
    (lookup_seen (λ k. k.items) c.args.map.now.entries c.args.text.items ∙ c.requires))
