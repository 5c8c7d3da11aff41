-- What was typed, as an event.
use Rattle.scr_keys.specs.declared.keys.Key.TheVariants as keys
use Rattle.scr_keys.specs.declared.typing.Typed.{Typed}
use Rattle.scr_keys.specs.declared.typing.Typed.TheVariants as typed
use Rattle.terminal.specs.declared.events.Event.{Event}
use Rattle.terminal.specs.declared.events.Event.TheVariants as events

-- A character is itself; a key and a byte are keys.
abbrev pub event_of : Typed → Event
event_of (typed.Character character) = events.Character character
event_of (typed.Key slot) = events.Key (keys.Slot slot)
event_of (typed.Byte byte) = events.Key (keys.Byte byte)
