use Rattle.std.proofs.Common.{map}
use Rattle.std.proofs.lemmas.List.{map-append}
use Rattle.ti_source.proofs.GoodLaws.{AreGood-push}
use Rattle.ti_source.proofs.resolving.fields.Fields.push.Goals as goal

pub invariant_of-self-2 : goal.invariant_of-self-2
invariant_of-self-2 c = rw (c.in_ok-push.ensures.items, map-append) (AreGood-push (map (λ s. s.now) c.self.inside.0.items) c.args.field.now c.self.invariant c.requires)
