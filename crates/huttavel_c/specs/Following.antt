-- What is held after it was lent.
use Rattle.std.specs.Prelude.{Some}
use base.Fml.{Fml}
use denote.Ref.{MutBor}
use denote.Follow.{follows}
use Rattle.huttavel_c.specs.declared.held.Held.{Held}
use Rattle.huttavel_c.specs.declared.sessions.Kept.{Kept}
use Rattle.huttavel_c.specs.contracts.held.Held.{the_row as held-row}
use Rattle.huttavel_c.specs.contracts.sessions.Kept.{the_row as kept-row}

-- A place that holds this.
abbrev pub with_kept : Held → Kept → Held
with_kept held kept = record { at = held.at; value = Some kept }

-- Once the borrow ends, what is held is the last that was written through it.
abbrev pub held_follows : MutBor Held → MutBor Kept → Fml
held_follows held lent = follows held-row kept-row held.ghost_name lent.ghost_name (with_kept held.now)
