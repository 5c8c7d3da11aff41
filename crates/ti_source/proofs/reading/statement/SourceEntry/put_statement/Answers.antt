use Rattle.ti_source.proofs.GoodLaws.{AreGood-push}
use Rattle.ti_source.proofs.MarkLaws.{marked-push}
use Rattle.ti_source.proofs.reading.statement.SourceEntry.put_statement.Goals as goal

pub invariant_of-self-2 : goal.invariant_of-self-2
invariant_of-self-2 c = record {
  described = record {
    named = c.self.invariant.described.named;
    good = rw c.in_ok-push_statement.ensures.ok (AreGood-push _ _ c.self.invariant.described.good c.requires);
    few = c.self.invariant.described.few;
  };
  marked = marked-push _ _ _ _ c.in_ok-push_statement.ensures.ok c.in_ok-mark.ensures.marked (rw c.deref.ensures.value at c.in_ok-mark.ensures.still);
}
