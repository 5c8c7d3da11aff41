-- The numbers of errors, as `enum huttavel_fault` of the C header has them.
use Rattle.std.specs.Prelude.{ℕ}
use Rattle.scr_windows.specs.declared.faults.WinFault.{WinFault}
use Rattle.scr_windows.specs.declared.faults.WinFault.TheVariants as windows
use Rattle.scr_keys.specs.declared.faults.KeyFault.{KeyFault}
use Rattle.scr_keys.specs.declared.faults.KeyFault.TheVariants as keys
use Rattle.scr_term.specs.declared.operations.profile_faults.ProfileFault.{ProfileFault}
use Rattle.scr_term.specs.declared.operations.profile_faults.ProfileFault.TheVariants as profiles
use Rattle.ti_binary.specs.declared.faults.BinFault.{BinFault}
use Rattle.ti_binary.specs.declared.faults.BinFault.TheVariants as files
use Rattle.curses.specs.declared.faults.SendFault.{SendFault}
use Rattle.curses.specs.declared.faults.SendFault.TheVariants as sends
use Rattle.curses.specs.declared.faults.UpdateFault.{UpdateFault}
use Rattle.curses.specs.declared.faults.UpdateFault.TheVariants as updates

-- Of a window call.
abbrev pub window_number : WinFault → ℕ
window_number windows.NoWindow = 10
window_number windows.IsPad = 11
window_number windows.NotPad = 12
window_number windows.IsSub = 13
window_number windows.HasChildren = 14
window_number windows.NotAscii = 15
window_number windows.OutOfWindow = 16
window_number windows.OffScreen = 17
window_number windows.NotInParent = 18
window_number windows.BadRegion = 19
window_number windows.NoScroll = 20
window_number windows.TooBig = 21
window_number windows.TooMany = 22
window_number windows.NoMemory = 4
window_number windows.BadPair = 23
window_number windows.BadColour = 24
window_number windows.NotOneColumn = 27

-- Of a call about keys.
abbrev pub key_number : KeyFault → ℕ
key_number keys.QueueFull = 30
key_number (keys.KeyTooLong slot) = 57
key_number keys.NoMemory = 4

-- Of an update.
abbrev pub update_number : UpdateFault → ℕ
update_number updates.NoMemory = 4
update_number (updates.Write begun sent kind) = 32
update_number (updates.Flush begun sent kind) = 32

-- Of a start or a finish.
abbrev pub send_number : SendFault → ℕ
send_number (sends.Write sent kind) = 32
send_number (sends.Flush sent kind) = 32

-- Of a compiled entry.
abbrev pub binary_number : BinFault → ℕ
binary_number files.TooLarge = 40
binary_number files.Truncated = 41
binary_number files.WideNumbers = 42
binary_number files.BadMagic = 42
binary_number files.BadCount = 43
binary_number files.BadNames = 44
binary_number files.BadOffset = 45
binary_number files.Unended = 46
binary_number files.NoMemory = 4

-- Of an entry that no screen can be opened on.
abbrev pub profile_number : ProfileFault → ℕ
profile_number (profiles.Unsuitable capability) = 50
profile_number profiles.AutoMargin = 51
profile_number (profiles.Missing capability) = 52
profile_number profiles.NoSize = 53
profile_number profiles.BadSize = 54
profile_number (profiles.BadString capability) = 55
profile_number (profiles.LongString capability) = 56
profile_number profiles.NoMemory = 4
