-- The capabilities whose texts operations send. terminfo(5), 'Predefined Capabilities'.
use Rattle.std.specs.Prelude.{ℕ, List, [], ◌∷◌}
use Rattle.ti_caps.specs.declared.table.Slot.{Slot}
use Rattle.ti_caps.specs.declared.slots.TheConstants.{CR, CLEAR, EL, ED, HPA, CUP, CUD1, HOME, CUB1, CUF1, CUU1, BLINK, BOLD, DIM, INVIS, REV, SMSO, SMUL, ECH, SGR0, CUD, CUB, CUF, CUU, VPA, SGR, OP, SETAF, SETAB, IL1, IL, DL1, DL, ICH, DCH1, DCH, IND, RI, INDN, RIN, REP}
use Rattle.scr_term.specs.declared.operations.capability.Capability.{Capability}
use Rattle.scr_term.specs.declared.operations.capability.Capability.TheVariants.{Cr, Clear, El, Ed, Hpa, Cup, Cud1, Home, Cub1, Cuf1, Cuu1, Blink, Bold, Dim, Invis, Rev, Smso, Smul, Ech, Sgr0, Cud, Cub, Cuf, Cuu, Vpa, Sgr, Op, Setaf, Setab, Il1, Il, Dl1, Dl, Ich, Dch1, Dch, Ind, Ri, Indn, Rin, Rep}

-- The position of a capability among the texts of an entry.
abbrev pub slot_of : Capability → Slot
slot_of Cr = CR
slot_of Clear = CLEAR
slot_of El = EL
slot_of Ed = ED
slot_of Hpa = HPA
slot_of Cup = CUP
slot_of Cud1 = CUD1
slot_of Home = HOME
slot_of Cub1 = CUB1
slot_of Cuf1 = CUF1
slot_of Cuu1 = CUU1
slot_of Blink = BLINK
slot_of Bold = BOLD
slot_of Dim = DIM
slot_of Invis = INVIS
slot_of Rev = REV
slot_of Smso = SMSO
slot_of Smul = SMUL
slot_of Ech = ECH
slot_of Sgr0 = SGR0
slot_of Cud = CUD
slot_of Cub = CUB
slot_of Cuf = CUF
slot_of Cuu = CUU
slot_of Vpa = VPA
slot_of Sgr = SGR
slot_of Op = OP
slot_of Setaf = SETAF
slot_of Setab = SETAB
slot_of Il1 = IL1
slot_of Il = IL
slot_of Dl1 = DL1
slot_of Dl = DL
slot_of Ich = ICH
slot_of Dch1 = DCH1
slot_of Dch = DCH
slot_of Ind = IND
slot_of Ri = RI
slot_of Indn = INDN
slot_of Rin = RIN
slot_of Rep = REP

-- All of these capabilities but the spare ones, in the order of their positions.
abbrev pub each_capability : List Capability
each_capability =
    Cr ∷ Clear ∷ El ∷ Ed ∷ Hpa ∷ Cup ∷ Cud1 ∷ Home ∷ Cub1 ∷ Cuf1 ∷ Cuu1 ∷ Blink ∷ Bold ∷ Dim ∷ Invis ∷ Rev ∷ Smso ∷ Smul ∷ Ech
    ∷ Sgr0 ∷ Cud ∷ Cub ∷ Cuf ∷ Cuu ∷ Vpa ∷ Sgr ∷ Op ∷ Setaf ∷ Setab ∷ []

-- The spare capabilities: those that insert and delete lines and characters, that scroll, and that repeat a character.
-- A terminal can do without each.
abbrev pub each_spare : List Capability
each_spare = Il1 ∷ Il ∷ Dl1 ∷ Dl ∷ Ich ∷ Dch1 ∷ Dch ∷ Ind ∷ Ri ∷ Indn ∷ Rin ∷ Rep ∷ []

-- The number of a capability in these lists, one after the other, from 0.
abbrev pub ordinal : Capability → ℕ
ordinal Cr = 0
ordinal Clear = 1
ordinal El = 2
ordinal Ed = 3
ordinal Hpa = 4
ordinal Cup = 5
ordinal Cud1 = 6
ordinal Home = 7
ordinal Cub1 = 8
ordinal Cuf1 = 9
ordinal Cuu1 = 10
ordinal Blink = 11
ordinal Bold = 12
ordinal Dim = 13
ordinal Invis = 14
ordinal Rev = 15
ordinal Smso = 16
ordinal Smul = 17
ordinal Ech = 18
ordinal Sgr0 = 19
ordinal Cud = 20
ordinal Cub = 21
ordinal Cuf = 22
ordinal Cuu = 23
ordinal Vpa = 24
ordinal Sgr = 25
ordinal Op = 26
ordinal Setaf = 27
ordinal Setab = 28
ordinal Il1 = 29
ordinal Il = 30
ordinal Dl1 = 31
ordinal Dl = 32
ordinal Ich = 33
ordinal Dch1 = 34
ordinal Dch = 35
ordinal Ind = 36
ordinal Ri = 37
ordinal Indn = 38
ordinal Rin = 39
ordinal Rep = 40
