-- All names of capabilities that term.h has (X/Open Curses Issue 7, <term.h>): those of the table, and others beside them.
-- A name that begins with OT is that of an old entry of termcap.
use Rattle.std.specs.Prelude.{ℕ, List, [], ◌∷◌, ◌++◌, codes, Option}
use Rattle.ti_caps.specs.declared.table.Kind.{Kind}
use Rattle.ti_caps.specs.declared.table.Kind.TheVariants.{Flag, Number, Text}
use Rattle.ti_caps.specs.Table.{Names, divided, found_among, name_among, run, runs}

-- The other boolean capabilities from position 37.
unfoldable pub flag_names_from_37 : List (List ℕ)
flag_names_from_37 =
    divided (codes "OTbs OTns OTnc OTMT OTNL OTpt OTxr")

-- The other numeric capabilities from position 33.
unfoldable pub number_names_from_33 : List (List ℕ)
number_names_from_33 =
    divided (codes "OTug OTdC OTdN OTdB OTdT OTkn")

-- The other string capabilities from position 186.
unfoldable pub text_names_from_186 : List (List ℕ)
text_names_from_186 =
    divided (codes "kBEG kCAN kCMD kCPY kCRT kDC kDL kslt kEND kEOL kEXT kFND kHLP kHOM kIC kLFT kMSG kMOV kNXT kOPT")
    ++ divided (codes "kPRV kPRT kRDO kRPL kRIT kRES kSAV kSPD kUND rfi")

-- The other string capabilities from position 270.
unfoldable pub text_names_from_270 : List (List ℕ)
text_names_from_270 =
    divided (codes "mgc smgl smgr fln sclk dclk rmclk cwin wingo hup dial qdial tone pulse hook pause wait u0 u1 u2 u3")
    ++ divided (codes "u4 u5 u6 u7 u8 u9")

-- The other string capabilities from position 298.
unfoldable pub text_names_from_298 : List (List ℕ)
text_names_from_298 =
    divided (codes "oc initc initp scp setf setb cpi lpi chr cvr defc swidm sdrfq sitm slm smicm snlq snrmq sshm ssubm")
    ++ divided (codes "ssupm sum rwidm ritm rlm rmicm rshm rsubm rsupm rum mhpa mcud1 mcub1 mcuf1 mvpa mcuu1 porder mcud")
    ++ divided (codes "mcub mcuf mcuu scs smgb smgbp smglp smgrp smgt smgtp sbim scsd rbim rcsd subcs supcs docr zerom csnm")
    ++ divided (codes "kmous minfo reqmp getm")

-- The other string capabilities from position 361.
unfoldable pub text_names_from_361 : List (List ℕ)
text_names_from_361 =
    divided (codes "pfxl devt csin s0ds s1ds s2ds s3ds smglr smgtb birep binel bicr colornm defbi endbi setcolor slines")
    ++ divided (codes "dispc smpch rmpch smsc rmsc pctrm scesc scesa ehhlm elhlm elohlm erhlm ethlm evhlm sgr1 slength OTi2")
    ++ divided (codes "OTrs OTnl OTbc OTko OTma OTG2 OTG3 OTG1 OTG4 OTGR OTGL OTGU OTGD OTGH OTGV OTGC meml memu box1")

-- The names beside the table.
unfoldable pub other_runs : List Names
other_runs =
    run Flag 37 flag_names_from_37
    ∷ run Number 33 number_names_from_33
    ∷ run Text 186 text_names_from_186
    ∷ run Text 270 text_names_from_270
    ∷ run Text 298 text_names_from_298
    ∷ run Text 361 text_names_from_361
    ∷ []

-- All names.
unfoldable pub standard_runs : List Names
standard_runs = runs ++ other_runs

-- The name at a position, if it has one.
unfoldable pub standard_name_at : Kind → ℕ → Option (List ℕ)
standard_name_at kind position = name_among kind position standard_runs

-- The kind and position of the capability with this name, if there is one.
unfoldable pub standard_capability_of : List ℕ → Option (Kind × ℕ)
standard_capability_of name = found_among name standard_runs
