-- The positions that the code names, beside the table (terminfo(5), "Predefined Capabilities").
use Rattle.std.specs.Prelude.{ℕ, Bool, true, false, ◌≡◌, ◌&&◌, List, [], ◌∷◌, codes, Option, Some, None, nat_lt}
use Rattle.std.specs.List.{list_all}
use Rattle.std.specs.Str.{bytes_eq}
use Rattle.ti_caps.specs.declared.table.Kind.{Kind}
use Rattle.ti_caps.specs.declared.table.Kind.TheVariants.{Flag, Number, Text}
use Rattle.ti_caps.specs.declared.table.Slot.{Slot}
use Rattle.ti_caps.specs.declared.slots.TheConstants.{AM, XHP, XENL, GN, HC, IN, DA, DB, MSGR, OS, XT, HZ, UL, SAM, COLS, LINES, XMC, COLORS, PAIRS, NCV, CR, CLEAR, EL, ED, HPA, CUP, CUD1, HOME, CUB1, CUF1, CUU1, DCH1, DL1, BLINK, BOLD, SMCUP, SMDC, DIM, INVIS, REV, SMSO, SMUL, ECH, SGR0, RMCUP, ICH1, IL1, KBS, KCUD1, KCUB1, KCUF1, KCUU1, RMKX, SMKX, DCH, DL, CUD, ICH, INDN, IL, CUB, CUF, RIN, CUU, REP, VPA, IND, RI, SGR, OP, SETAF, SETAB}
use Rattle.ti_caps.specs.Table.{name_at}

-- The number of positions of a kind.
abbrev pub positions_of : Kind → ℕ
positions_of Flag = 64
positions_of Number = 64
positions_of Text = 512

-- The table's name is this one.
abbrev pub is_name : List ℕ → Option (List ℕ) → Bool
is_name name None = false
is_name name (Some known) = bytes_eq known name

-- The position exists for its kind and has this name in the table.
abbrev pub is_slot_of : Kind → Slot → List ℕ → Bool
is_slot_of kind slot name = nat_lt slot.0 (positions_of kind) && is_name name (name_at kind slot.0)

-- Each of these flags has its name in the table.
abbrev pub flags_are_named : List Bool
flags_are_named =
    is_slot_of Flag AM (codes "am")
    ∷ is_slot_of Flag XHP (codes "xhp")
    ∷ is_slot_of Flag XENL (codes "xenl")
    ∷ is_slot_of Flag GN (codes "gn")
    ∷ is_slot_of Flag HC (codes "hc")
    ∷ is_slot_of Flag IN (codes "in")
    ∷ is_slot_of Flag DA (codes "da")
    ∷ is_slot_of Flag DB (codes "db")
    ∷ is_slot_of Flag MSGR (codes "msgr")
    ∷ is_slot_of Flag OS (codes "os")
    ∷ is_slot_of Flag XT (codes "xt")
    ∷ is_slot_of Flag HZ (codes "hz")
    ∷ is_slot_of Flag UL (codes "ul")
    ∷ is_slot_of Flag SAM (codes "sam") ∷ []

-- Each of these numbers has its name in the table.
abbrev pub numbers_are_named : List Bool
numbers_are_named =
    is_slot_of Number COLS (codes "cols")
    ∷ is_slot_of Number LINES (codes "lines")
    ∷ is_slot_of Number XMC (codes "xmc")
    ∷ is_slot_of Number COLORS (codes "colors")
    ∷ is_slot_of Number PAIRS (codes "pairs")
    ∷ is_slot_of Number NCV (codes "ncv") ∷ []

-- Each of these texts has its name in the table.
abbrev pub texts_are_named : List Bool
texts_are_named =
    is_slot_of Text CR (codes "cr")
    ∷ is_slot_of Text CLEAR (codes "clear")
    ∷ is_slot_of Text EL (codes "el")
    ∷ is_slot_of Text ED (codes "ed")
    ∷ is_slot_of Text HPA (codes "hpa")
    ∷ is_slot_of Text CUP (codes "cup")
    ∷ is_slot_of Text CUD1 (codes "cud1")
    ∷ is_slot_of Text HOME (codes "home")
    ∷ is_slot_of Text CUB1 (codes "cub1")
    ∷ is_slot_of Text CUF1 (codes "cuf1")
    ∷ is_slot_of Text CUU1 (codes "cuu1")
    ∷ is_slot_of Text DCH1 (codes "dch1")
    ∷ is_slot_of Text DL1 (codes "dl1")
    ∷ is_slot_of Text BLINK (codes "blink")
    ∷ is_slot_of Text BOLD (codes "bold")
    ∷ is_slot_of Text SMCUP (codes "smcup")
    ∷ is_slot_of Text SMDC (codes "smdc")
    ∷ is_slot_of Text DIM (codes "dim")
    ∷ is_slot_of Text INVIS (codes "invis")
    ∷ is_slot_of Text REV (codes "rev")
    ∷ is_slot_of Text SMSO (codes "smso")
    ∷ is_slot_of Text SMUL (codes "smul")
    ∷ is_slot_of Text ECH (codes "ech")
    ∷ is_slot_of Text SGR0 (codes "sgr0")
    ∷ is_slot_of Text RMCUP (codes "rmcup")
    ∷ is_slot_of Text ICH1 (codes "ich1")
    ∷ is_slot_of Text IL1 (codes "il1")
    ∷ is_slot_of Text KBS (codes "kbs")
    ∷ is_slot_of Text KCUD1 (codes "kcud1")
    ∷ is_slot_of Text KCUB1 (codes "kcub1")
    ∷ is_slot_of Text KCUF1 (codes "kcuf1")
    ∷ is_slot_of Text KCUU1 (codes "kcuu1")
    ∷ is_slot_of Text RMKX (codes "rmkx")
    ∷ is_slot_of Text SMKX (codes "smkx")
    ∷ is_slot_of Text DCH (codes "dch")
    ∷ is_slot_of Text DL (codes "dl")
    ∷ is_slot_of Text CUD (codes "cud")
    ∷ is_slot_of Text ICH (codes "ich")
    ∷ is_slot_of Text INDN (codes "indn")
    ∷ is_slot_of Text IL (codes "il")
    ∷ is_slot_of Text CUB (codes "cub")
    ∷ is_slot_of Text CUF (codes "cuf")
    ∷ is_slot_of Text RIN (codes "rin")
    ∷ is_slot_of Text CUU (codes "cuu")
    ∷ is_slot_of Text REP (codes "rep")
    ∷ is_slot_of Text VPA (codes "vpa")
    ∷ is_slot_of Text IND (codes "ind")
    ∷ is_slot_of Text RI (codes "ri")
    ∷ is_slot_of Text SGR (codes "sgr")
    ∷ is_slot_of Text OP (codes "op")
    ∷ is_slot_of Text SETAF (codes "setaf")
    ∷ is_slot_of Text SETAB (codes "setab") ∷ []

-- Every position that the code names is that of its name.
pub record SlotsAreNamed : Type 0 where
  pub flags : list_all (λ is. is) flags_are_named ≡ true
  pub numbers : list_all (λ is. is) numbers_are_named ≡ true
  pub texts : list_all (λ is. is) texts_are_named ≡ true
