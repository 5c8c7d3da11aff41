-- The call was made on the entry that was held; a screen stays.
use Rattle.std.proofs.Common.{rules}
use Rattle.huttavel_c.proofs.LentLaws.{lent_entry, screen_stays}
use Rattle.huttavel_c.proofs.handles.Handle.lend_entry.Goals as goal

pub returns-in-Screen : goal.returns-in-Screen
returns-in-Screen g c = screen_stays _ _ _ _ c.in-Screen.field-0 c.lend.ensures.value c.in-Screen.is

pub returns-in-Entry : goal.returns-in-Entry
returns-in-Entry g c = lent_entry _ _ _ _ _ c.in-Entry.entry _ c.lend.ensures.value c.in-Entry.is (search rules)
