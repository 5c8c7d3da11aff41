-- The call was made on the screen that was held; an entry stays.
use Rattle.std.proofs.Common.{rules}
use Rattle.huttavel_c.proofs.LentLaws.{entry_stays, lent}
use Rattle.huttavel_c.proofs.handles.Handle.lend.Goals as goal

pub returns-in-Screen : goal.returns-in-Screen
returns-in-Screen g c = lent _ _ _ _ _ c.in-Screen.session _ c.lend.ensures.value c.in-Screen.is (search rules)

pub returns-in-Entry : goal.returns-in-Entry
returns-in-Entry g c = entry_stays _ _ _ _ c.in-Entry.field-0 c.lend.ensures.value c.in-Entry.is
