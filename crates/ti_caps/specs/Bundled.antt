-- The bundled entry: a terminal that obeys control functions of ECMA-48 (8.3), as terminfo(5) describes it.
use Rattle.std.specs.Prelude.{ℕ, ◌≡◌, ◌==◌, List, [], ◌∷◌, ◌++◌, codes, Option, Some, None, if◌then◌else◌}
use Rattle.std.specs.List.{list_any}
use Rattle.ti_caps.specs.Description.{Description, flag_at, number_at, text_at}
use Rattle.ti_caps.specs.Table.{or_else}
use Rattle.ti_caps.specs.declared.slots.TheConstants.{AM, MSGR, XENL, COLS, LINES, COLORS, PAIRS, CLEAR, CUP, HOME, CR, CUU1, CUD1, CUF1, CUB1, CUU, CUD, CUF, CUB, HPA, VPA, EL, ED, ECH, SGR0, BOLD, DIM, SMUL, BLINK, REV, INVIS, SMSO, SGR, SETAF, SETAB, OP, KCUU1, KCUD1, KCUF1, KCUB1, KBS}

-- What a list gives for a position: its last element there.
abbrev pub listed : {A : Type 0} → List (ℕ × A) → ℕ → Option A
listed [] slot = None
listed (one ∷ more) slot = or_else (listed more slot) (if one.0 == slot then Some one.1 else None)

-- A text that begins with ESC [.
abbrev pub control : List ℕ → List ℕ
control bytes = 27 ∷ 91 ∷ bytes

-- The names of the bundled entry.
abbrev pub bundled_names : List ℕ
bundled_names = codes "ecma48|ECMA-48 profile of this library"

-- Its flags.
abbrev pub bundled_flags : List ℕ
bundled_flags = AM.0 ∷ MSGR.0 ∷ XENL.0 ∷ []

-- Its numbers.
abbrev pub bundled_numbers : List (ℕ × ℕ)
bundled_numbers = (COLS.0, 80) ∷ (LINES.0, 24) ∷ (COLORS.0, 8) ∷ (PAIRS.0, 64) ∷ []

-- Its motions; 8 is a backspace, 13 a carriage return.
abbrev pub bundled_motions : List (ℕ × List ℕ)
bundled_motions =
    (CUP.0, control (codes "%i%p1%d;%p2%dH"))
    ∷ (HOME.0, control (codes "H"))
    ∷ (CR.0, 13 ∷ [])
    ∷ (CUU1.0, control (codes "A"))
    ∷ (CUD1.0, control (codes "B"))
    ∷ (CUF1.0, control (codes "C"))
    ∷ (CUB1.0, 8 ∷ [])
    ∷ (CUU.0, control (codes "%p1%dA"))
    ∷ (CUD.0, control (codes "%p1%dB"))
    ∷ (CUF.0, control (codes "%p1%dC"))
    ∷ (CUB.0, control (codes "%p1%dD"))
    ∷ (HPA.0, control (codes "%i%p1%dG"))
    ∷ (VPA.0, control (codes "%i%p1%dd"))
    ∷ []

-- Its erasures.
abbrev pub bundled_erasures : List (ℕ × List ℕ)
bundled_erasures =
    (CLEAR.0, control (codes "H") ++ control (codes "2J"))
    ∷ (EL.0, control (codes "K"))
    ∷ (ED.0, control (codes "J"))
    ∷ (ECH.0, control (codes "%p1%dX"))
    ∷ []

-- Its texts for attributes and colours.
abbrev pub bundled_renditions : List (ℕ × List ℕ)
bundled_renditions =
    (SGR0.0, control (codes "0m"))
    ∷ (BOLD.0, control (codes "1m"))
    ∷ (DIM.0, control (codes "2m"))
    ∷ (SMUL.0, control (codes "4m"))
    ∷ (BLINK.0, control (codes "5m"))
    ∷ (REV.0, control (codes "7m"))
    ∷ (INVIS.0, control (codes "8m"))
    ∷ (SMSO.0, control (codes "7m"))
    ∷ (SGR.0, control (codes "0%?%p1%p3%|%t;7%;%?%p2%t;4%;%?%p4%t;5%;%?%p5%t;2%;%?%p6%t;1%;%?%p7%t;8%;m"))
    ∷ (SETAF.0, control (codes "3%p1%dm"))
    ∷ (SETAB.0, control (codes "4%p1%dm"))
    ∷ (OP.0, control (codes "39;49m"))
    ∷ []

-- Its keys.
abbrev pub bundled_keys : List (ℕ × List ℕ)
bundled_keys =
    (KCUU1.0, control (codes "A"))
    ∷ (KCUD1.0, control (codes "B"))
    ∷ (KCUF1.0, control (codes "C"))
    ∷ (KCUB1.0, control (codes "D"))
    ∷ (KBS.0, 8 ∷ [])
    ∷ []

-- All its texts.
unfoldable pub bundled_texts : List (ℕ × List ℕ)
bundled_texts = bundled_motions ++ bundled_erasures ++ bundled_renditions ++ bundled_keys

-- The description is the bundled entry: these names, flags, numbers and texts, and nothing else.
pub record IsBundled (d : Description) : Type 0 where
  pub names : d.names ≡ bundled_names
  pub flags : (slot : ℕ) → flag_at d slot ≡ list_any (λ flag. flag == slot) bundled_flags
  pub numbers : (slot : ℕ) → number_at d slot ≡ listed bundled_numbers slot
  pub texts : (slot : ℕ) → text_at d slot ≡ listed bundled_texts slot
