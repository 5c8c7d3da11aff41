use Rattle.std.proofs.Common.{rules}
use Rattle.scr_windows.proofs.calls.adding.written_form.Goals as goal

pub returns : goal.returns
returns c = search rules
