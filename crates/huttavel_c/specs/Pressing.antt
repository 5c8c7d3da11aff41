-- Keys as numbers.
use Rattle.std.specs.Prelude.{ℕ, Option, Some, None, Result, Ok, Err}
use Rattle.scr_keys.specs.declared.faults.KeyFault.{KeyFault}
use Rattle.scr_keys.specs.declared.keys.Key.{Key}
use Rattle.scr_keys.specs.declared.keys.Key.TheVariants.{Byte, Slot}
use Rattle.huttavel_c.specs.Numbers.{key_number}
use Rattle.huttavel_c.specs.Replies.{refused, with_two}
use Rattle.huttavel_c.specs.declared.answers.Reply.{Reply}

-- Bytes were read, or why not.
abbrev pub read_number : Result (Unit {0}) KeyFault → ℕ
read_number (Ok _) = 0
read_number (Err fault) = key_number fault

-- The kind of a key, 0 for a byte and 1 for a key of the entry, and its code.
abbrev pub key_reply : Option Key → Reply
key_reply (Some (Byte byte)) = with_two (0, byte)
key_reply (Some (Slot slot)) = with_two (1, slot)
key_reply None = refused 31
