use Rattle.std.proofs.Common.{◌++◌, Bool, true, false, cond, map}
use Rattle.std.proofs.lemmas.List.{map-append}
use Rattle.std.specs.Result.{is_ok}
use Rattle.ti_source.specs.Described.{AreGood}
use Rattle.ti_source.proofs.GoodLaws.{AreGood-append}
use Rattle.ti_source.proofs.resolving.fields.Fields.extend.Goals as goal

pub invariant_of-self : goal.invariant_of-self
invariant_of-self c = rw (c.extend_from_slice.ensures.items, c.deref.ensures.value) (by (is_ok c.extend_from_slice.result))
  where
    by : (t : Bool) → AreGood (map (λ s. s.now) (cond t (c.self.inside.0.items ++ c.fields.inside.0.items) c.self.inside.0.items))
    by true = rw (map-append) (AreGood-append (map (λ s. s.now) c.self.inside.0.items) (map (λ s. s.now) c.fields.inside.0.items) c.self.invariant c.fields.invariant)
    by false = c.self.invariant
