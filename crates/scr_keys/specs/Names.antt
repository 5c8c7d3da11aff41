-- The keys by name. terminfo(5), 'Predefined Capabilities'.
use Rattle.std.specs.Prelude.{ℕ, Bool, true, false, ◌≡◌, List, [], ◌∷◌, codes}
use Rattle.std.specs.List.{list_all}
use Rattle.ti_caps.specs.Slots.{is_name, is_slot_of}
use Rattle.ti_caps.specs.Standard.{standard_name_at}
use Rattle.ti_caps.specs.declared.table.Kind.TheVariants.{Text}
use Rattle.scr_keys.specs.declared.keys.Key.{Key}
use Rattle.scr_keys.specs.declared.keys.Key.TheVariants.{Slot, Byte}
use Rattle.scr_keys.specs.declared.names.TheConstants.{BACKSPACE, CLEAR_ALL_TABS, CLEAR, CLEAR_TAB, DELETE, DELETE_LINE, DOWN, EXIT_INSERT, CLEAR_TO_EOL, CLEAR_TO_BOTTOM, F0, F1, F10, F2, F3, F4, F5, F6, F7, F8, F9, HOME, INSERT, INSERT_LINE, LEFT, HOME_DOWN, PAGE_DOWN, PAGE_UP, RIGHT, SCROLL_FORWARD, SCROLL_BACKWARD, SET_TAB, UP, UPPER_LEFT, UPPER_RIGHT, CENTER, LOWER_LEFT, LOWER_RIGHT, BACK_TAB, BEGIN, CANCEL, CLOSE, COMMAND, COPY, CREATE, END, ENTER, EXIT, FIND, HELP, MARK, MESSAGE, MOVE, NEXT, OPEN, OPTIONS, PREVIOUS, PRINT, REDO, REFERENCE, REFRESH, REPLACE, RESTART, RESUME, SAVE, SUSPEND, UNDO, F11, F12, F13, F14, F15, F16, F17, F18, F19, F20, F21, F22, F23, F24, F25, F26, F27, F28, F29, F30, F31, F32, F33, F34, F35, F36, F37, F38, F39, F40, F41, F42, F43, F44, F45, F46, F47, F48, F49, F50, F51, F52, F53, F54, F55, F56, F57, F58, F59, F60, F61, F62, F63, SHIFT_BEGIN, SHIFT_CANCEL, SHIFT_COMMAND, SHIFT_COPY, SHIFT_CREATE, SHIFT_DELETE, SHIFT_DELETE_LINE, SELECT, SHIFT_END, SHIFT_CLEAR_TO_EOL, SHIFT_EXIT, SHIFT_FIND, SHIFT_HELP, SHIFT_HOME, SHIFT_INSERT, SHIFT_LEFT, SHIFT_MESSAGE, SHIFT_MOVE, SHIFT_NEXT, SHIFT_OPTIONS, SHIFT_PREVIOUS, SHIFT_PRINT, SHIFT_REDO, SHIFT_REPLACE, SHIFT_RIGHT, SHIFT_RESUME, SHIFT_SAVE, SHIFT_SUSPEND, SHIFT_UNDO, MOUSE}

-- The key is at the position of this name in the table of texts.
abbrev pub is_key_of : Key → List ℕ → Bool
is_key_of (Slot n) name = is_slot_of Text (record { 0 = n }) name
is_key_of (Byte n) name = false

-- Each of these keys is at its name's position.
abbrev pub first_keys : List Bool
first_keys =
    is_key_of BACKSPACE (codes "kbs")
    ∷ is_key_of CLEAR_ALL_TABS (codes "ktbc")
    ∷ is_key_of CLEAR (codes "kclr")
    ∷ is_key_of CLEAR_TAB (codes "kctab")
    ∷ is_key_of DELETE (codes "kdch1")
    ∷ is_key_of DELETE_LINE (codes "kdl1")
    ∷ is_key_of DOWN (codes "kcud1")
    ∷ is_key_of EXIT_INSERT (codes "krmir")
    ∷ is_key_of CLEAR_TO_EOL (codes "kel")
    ∷ is_key_of CLEAR_TO_BOTTOM (codes "ked")
    ∷ is_key_of F0 (codes "kf0")
    ∷ is_key_of F1 (codes "kf1")
    ∷ is_key_of F10 (codes "kf10")
    ∷ is_key_of F2 (codes "kf2")
    ∷ is_key_of F3 (codes "kf3")
    ∷ is_key_of F4 (codes "kf4")
    ∷ is_key_of F5 (codes "kf5")
    ∷ is_key_of F6 (codes "kf6")
    ∷ is_key_of F7 (codes "kf7")
    ∷ is_key_of F8 (codes "kf8") ∷ []

-- The same of these.
abbrev pub second_keys : List Bool
second_keys =
    is_key_of F9 (codes "kf9")
    ∷ is_key_of HOME (codes "khome")
    ∷ is_key_of INSERT (codes "kich1")
    ∷ is_key_of INSERT_LINE (codes "kil1")
    ∷ is_key_of LEFT (codes "kcub1")
    ∷ is_key_of HOME_DOWN (codes "kll")
    ∷ is_key_of PAGE_DOWN (codes "knp")
    ∷ is_key_of PAGE_UP (codes "kpp")
    ∷ is_key_of RIGHT (codes "kcuf1")
    ∷ is_key_of SCROLL_FORWARD (codes "kind")
    ∷ is_key_of SCROLL_BACKWARD (codes "kri")
    ∷ is_key_of SET_TAB (codes "khts")
    ∷ is_key_of UP (codes "kcuu1")
    ∷ is_key_of UPPER_LEFT (codes "ka1")
    ∷ is_key_of UPPER_RIGHT (codes "ka3")
    ∷ is_key_of CENTER (codes "kb2")
    ∷ is_key_of LOWER_LEFT (codes "kc1")
    ∷ is_key_of LOWER_RIGHT (codes "kc3")
    ∷ is_key_of BACK_TAB (codes "kcbt")
    ∷ is_key_of BEGIN (codes "kbeg") ∷ []

-- The same of these.
abbrev pub third_keys : List Bool
third_keys =
    is_key_of CANCEL (codes "kcan")
    ∷ is_key_of CLOSE (codes "kclo")
    ∷ is_key_of COMMAND (codes "kcmd")
    ∷ is_key_of COPY (codes "kcpy")
    ∷ is_key_of CREATE (codes "kcrt")
    ∷ is_key_of END (codes "kend")
    ∷ is_key_of ENTER (codes "kent")
    ∷ is_key_of EXIT (codes "kext")
    ∷ is_key_of FIND (codes "kfnd")
    ∷ is_key_of HELP (codes "khlp")
    ∷ is_key_of MARK (codes "kmrk")
    ∷ is_key_of MESSAGE (codes "kmsg")
    ∷ is_key_of MOVE (codes "kmov")
    ∷ is_key_of NEXT (codes "knxt")
    ∷ is_key_of OPEN (codes "kopn")
    ∷ is_key_of OPTIONS (codes "kopt")
    ∷ is_key_of PREVIOUS (codes "kprv")
    ∷ is_key_of PRINT (codes "kprt")
    ∷ is_key_of REDO (codes "krdo")
    ∷ is_key_of REFERENCE (codes "kref") ∷ []

-- The same of these.
abbrev pub fourth_keys : List Bool
fourth_keys =
    is_key_of REFRESH (codes "krfr")
    ∷ is_key_of REPLACE (codes "krpl")
    ∷ is_key_of RESTART (codes "krst")
    ∷ is_key_of RESUME (codes "kres")
    ∷ is_key_of SAVE (codes "ksav")
    ∷ is_key_of SUSPEND (codes "kspd")
    ∷ is_key_of UNDO (codes "kund")
    ∷ is_key_of F11 (codes "kf11")
    ∷ is_key_of F12 (codes "kf12")
    ∷ is_key_of F13 (codes "kf13")
    ∷ is_key_of F14 (codes "kf14")
    ∷ is_key_of F15 (codes "kf15")
    ∷ is_key_of F16 (codes "kf16")
    ∷ is_key_of F17 (codes "kf17")
    ∷ is_key_of F18 (codes "kf18")
    ∷ is_key_of F19 (codes "kf19")
    ∷ is_key_of F20 (codes "kf20")
    ∷ is_key_of F21 (codes "kf21")
    ∷ is_key_of F22 (codes "kf22")
    ∷ is_key_of F23 (codes "kf23") ∷ []

-- The same of these.
abbrev pub fifth_keys : List Bool
fifth_keys =
    is_key_of F24 (codes "kf24")
    ∷ is_key_of F25 (codes "kf25")
    ∷ is_key_of F26 (codes "kf26")
    ∷ is_key_of F27 (codes "kf27")
    ∷ is_key_of F28 (codes "kf28")
    ∷ is_key_of F29 (codes "kf29")
    ∷ is_key_of F30 (codes "kf30")
    ∷ is_key_of F31 (codes "kf31")
    ∷ is_key_of F32 (codes "kf32")
    ∷ is_key_of F33 (codes "kf33")
    ∷ is_key_of F34 (codes "kf34")
    ∷ is_key_of F35 (codes "kf35")
    ∷ is_key_of F36 (codes "kf36")
    ∷ is_key_of F37 (codes "kf37")
    ∷ is_key_of F38 (codes "kf38")
    ∷ is_key_of F39 (codes "kf39")
    ∷ is_key_of F40 (codes "kf40")
    ∷ is_key_of F41 (codes "kf41")
    ∷ is_key_of F42 (codes "kf42")
    ∷ is_key_of F43 (codes "kf43") ∷ []

-- The same of these.
abbrev pub sixth_keys : List Bool
sixth_keys =
    is_key_of F44 (codes "kf44")
    ∷ is_key_of F45 (codes "kf45")
    ∷ is_key_of F46 (codes "kf46")
    ∷ is_key_of F47 (codes "kf47")
    ∷ is_key_of F48 (codes "kf48")
    ∷ is_key_of F49 (codes "kf49")
    ∷ is_key_of F50 (codes "kf50")
    ∷ is_key_of F51 (codes "kf51")
    ∷ is_key_of F52 (codes "kf52")
    ∷ is_key_of F53 (codes "kf53")
    ∷ is_key_of F54 (codes "kf54")
    ∷ is_key_of F55 (codes "kf55")
    ∷ is_key_of F56 (codes "kf56")
    ∷ is_key_of F57 (codes "kf57")
    ∷ is_key_of F58 (codes "kf58")
    ∷ is_key_of F59 (codes "kf59")
    ∷ is_key_of F60 (codes "kf60")
    ∷ is_key_of F61 (codes "kf61")
    ∷ is_key_of F62 (codes "kf62")
    ∷ is_key_of F63 (codes "kf63") ∷ []

-- The key is at the position of this name among all texts of term.h.
abbrev pub is_standard_key_of : Key → List ℕ → Bool
is_standard_key_of (Slot n) name = is_name name (standard_name_at Text n)
is_standard_key_of (Byte n) name = false

-- Each of these keys, which the table does not have, is at its name's position.
abbrev pub shifted_keys : List Bool
shifted_keys =
    is_standard_key_of SHIFT_BEGIN (codes "kBEG")
    ∷ is_standard_key_of SHIFT_CANCEL (codes "kCAN")
    ∷ is_standard_key_of SHIFT_COMMAND (codes "kCMD")
    ∷ is_standard_key_of SHIFT_COPY (codes "kCPY")
    ∷ is_standard_key_of SHIFT_CREATE (codes "kCRT")
    ∷ is_standard_key_of SHIFT_DELETE (codes "kDC")
    ∷ is_standard_key_of SHIFT_DELETE_LINE (codes "kDL")
    ∷ is_standard_key_of SELECT (codes "kslt")
    ∷ is_standard_key_of SHIFT_END (codes "kEND")
    ∷ is_standard_key_of SHIFT_CLEAR_TO_EOL (codes "kEOL")
    ∷ is_standard_key_of SHIFT_EXIT (codes "kEXT")
    ∷ is_standard_key_of SHIFT_FIND (codes "kFND")
    ∷ is_standard_key_of SHIFT_HELP (codes "kHLP")
    ∷ is_standard_key_of SHIFT_HOME (codes "kHOM")
    ∷ is_standard_key_of SHIFT_INSERT (codes "kIC") ∷ []

-- The same of these.
abbrev pub more_shifted_keys : List Bool
more_shifted_keys =
    is_standard_key_of SHIFT_LEFT (codes "kLFT")
    ∷ is_standard_key_of SHIFT_MESSAGE (codes "kMSG")
    ∷ is_standard_key_of SHIFT_MOVE (codes "kMOV")
    ∷ is_standard_key_of SHIFT_NEXT (codes "kNXT")
    ∷ is_standard_key_of SHIFT_OPTIONS (codes "kOPT")
    ∷ is_standard_key_of SHIFT_PREVIOUS (codes "kPRV")
    ∷ is_standard_key_of SHIFT_PRINT (codes "kPRT")
    ∷ is_standard_key_of SHIFT_REDO (codes "kRDO")
    ∷ is_standard_key_of SHIFT_REPLACE (codes "kRPL")
    ∷ is_standard_key_of SHIFT_RIGHT (codes "kRIT")
    ∷ is_standard_key_of SHIFT_RESUME (codes "kRES")
    ∷ is_standard_key_of SHIFT_SAVE (codes "kSAV")
    ∷ is_standard_key_of SHIFT_SUSPEND (codes "kSPD")
    ∷ is_standard_key_of SHIFT_UNDO (codes "kUND")
    ∷ is_standard_key_of MOUSE (codes "kmous") ∷ []

-- Each key is at the position of its name.
pub record KeysAreNamed : Type 0 where
  pub first : list_all (λ is. is) first_keys ≡ true
  pub second : list_all (λ is. is) second_keys ≡ true
  pub third : list_all (λ is. is) third_keys ≡ true
  pub fourth : list_all (λ is. is) fourth_keys ≡ true
  pub fifth : list_all (λ is. is) fifth_keys ≡ true
  pub sixth : list_all (λ is. is) sixth_keys ≡ true
  pub shifted : list_all (λ is. is) shifted_keys ≡ true
  pub more_shifted : list_all (λ is. is) more_shifted_keys ≡ true
