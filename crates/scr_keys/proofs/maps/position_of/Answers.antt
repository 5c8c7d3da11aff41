use Rattle.std.proofs.Common.{◌∙◌}
use Rattle.scr_keys.proofs.MapLaws.{lookup_seen}
use Rattle.scr_keys.proofs.maps.position_of.Goals as goal

pub returns : goal.returns
returns c = c.copied.ensures ∙ c.get.ensures.value ∙ lookup_seen (λ k. k.items) c.args.map.now.entries c.args.text.now
