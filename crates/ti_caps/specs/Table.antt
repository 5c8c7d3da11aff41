-- The capability table (terminfo(5), "Predefined Capabilities"): names by kind and position, in runs without a gap.
use Rattle.std.specs.Prelude.{ℕ, suc, ◌-◌, Bool, true, false, List, [], ◌∷◌, ◌++◌, codes, Option, Some, None, slice_get, option_map, ◌&&◌, ◌==◌, nat_le, if◌then◌else◌}
use Rattle.std.specs.List.{slice_split}
use Rattle.std.specs.Str.{bytes_eq}
use Rattle.ti_caps.specs.declared.table.Kind.{Kind}
use Rattle.ti_caps.specs.declared.table.Kind.TheVariants.{Flag, Number, Text}

-- Names of one kind at neighbouring positions, the first of them at `first`.
pub record Names : Type 0 where
  pub kind : Kind
  pub first : ℕ
  pub names : List (List ℕ)

-- The same, from its parts.
abbrev pub run : Kind → ℕ → List (List ℕ) → Names
run kind first names = record { kind = kind; first = first; names = names }

-- The names in a text, separated by blanks.
abbrev pub divided : List ℕ → List (List ℕ)
divided names = slice_split (λ b. b == 32) names

-- The boolean capabilities, from position 0.
unfoldable pub flag_names : List (List ℕ)
flag_names =
    divided (codes "bw am xsb xhp xenl eo gn hc km hs in da db mir msgr os eslok xt hz ul xon nxon mc5i chts nrrmc npc")
    ++ divided (codes "ndscr ccc bce hls xhpa crxm daisy xvpa sam cpix lpix")

-- The numeric capabilities, from position 0.
unfoldable pub number_names : List (List ℕ)
number_names =
    divided (codes "cols it lines lm xmc pb vt wsl nlab lh lw ma wnum colors pairs ncv bufsz spinv spinh maddr mjump mcs")
    ++ divided (codes "mls npins orc orl orhi orvi cps widcs btns bitwin bitype")

-- The string capabilities from position 0.
unfoldable pub text_names_from_0 : List (List ℕ)
text_names_from_0 =
    divided (codes "cbt bel cr csr tbc clear el ed hpa cmdch cup cud1 home civis cub1 mrcup cnorm cuf1 ll cuu1 cvvis")
    ++ divided (codes "dch1 dl1 dsl hd smacs blink bold smcup smdc dim smir invis prot rev smso smul ech rmacs sgr0 rmcup")
    ++ divided (codes "rmdc rmir rmso rmul flash ff fsl is1 is2 is3 if ich1 il1 ip")

-- The string capabilities from position 55.
unfoldable pub text_names_from_55 : List (List ℕ)
text_names_from_55 =
    divided (codes "kbs ktbc kclr kctab kdch1 kdl1 kcud1 krmir kel ked kf0 kf1 kf10 kf2 kf3 kf4 kf5 kf6 kf7 kf8 kf9")
    ++ divided (codes "khome kich1 kil1 kcub1 kll knp kpp kcuf1 kind kri khts kcuu1 rmkx smkx")

-- The string capabilities from position 90.
unfoldable pub text_names_from_90 : List (List ℕ)
text_names_from_90 =
    divided (codes "lf0 lf1 lf10 lf2 lf3 lf4 lf5 lf6 lf7 lf8 lf9 rmm smm nel pad dch dl cud ich indn il cub cuf rin cuu")
    ++ divided (codes "pfkey pfloc pfx mc0 mc4 mc5 rep rs1 rs2 rs3 rf rc vpa sc ind ri sgr hts wind ht tsl uc hu iprog")

-- The string capabilities from position 139.
unfoldable pub text_names_from_139 : List (List ℕ)
text_names_from_139 = divided (codes "ka1 ka3 kb2 kc1 kc3 mc5p rmp acsc pln kcbt smxon rmxon smam rmam xonc xoffc enacs smln rmln")

-- The string capabilities from position 158.
unfoldable pub text_names_from_158 : List (List ℕ)
text_names_from_158 =
    divided (codes "kbeg kcan kclo kcmd kcpy kcrt kend kent kext kfnd khlp kmrk kmsg kmov knxt kopn kopt kprv kprt krdo")
    ++ divided (codes "kref krfr krpl krst kres ksav kspd kund")

-- The string capabilities from position 216.
unfoldable pub text_names_from_216 : List (List ℕ)
text_names_from_216 =
    divided (codes "kf11 kf12 kf13 kf14 kf15 kf16 kf17 kf18 kf19 kf20 kf21 kf22 kf23 kf24 kf25 kf26 kf27 kf28 kf29 kf30")
    ++ divided (codes "kf31 kf32 kf33 kf34 kf35 kf36 kf37 kf38 kf39 kf40 kf41 kf42 kf43 kf44 kf45 kf46 kf47 kf48 kf49 kf50")
    ++ divided (codes "kf51 kf52 kf53 kf54 kf55 kf56 kf57 kf58 kf59 kf60 kf61 kf62 kf63 el1")

-- The string capability at position 297.
unfoldable pub text_names_from_297 : List (List ℕ)
text_names_from_297 = divided (codes "op")

-- The string capabilities at positions 359 and 360.
unfoldable pub text_names_from_359 : List (List ℕ)
text_names_from_359 = divided (codes "setaf setab")

-- The whole table; a position in none of these runs has no name.
unfoldable pub runs : List Names
runs =
    run Flag 0 flag_names
    ∷ run Number 0 number_names
    ∷ run Text 0 text_names_from_0
    ∷ run Text 55 text_names_from_55
    ∷ run Text 90 text_names_from_90
    ∷ run Text 139 text_names_from_139
    ∷ run Text 158 text_names_from_158
    ∷ run Text 216 text_names_from_216
    ∷ run Text 297 text_names_from_297
    ∷ run Text 359 text_names_from_359
    ∷ []

-- Both are of one kind.
abbrev pub same_kind : Kind → Kind → Bool
same_kind Flag Flag = true
same_kind Number Number = true
same_kind Text Text = true
same_kind _ _ = false

-- The first of two answers that is present.
abbrev pub or_else : {A : Type 0} → Option A → Option A → Option A
or_else (Some x) other = Some x
or_else None other = other

-- The name that a run has at a position.
abbrev pub name_in : Kind → ℕ → Names → Option (List ℕ)
name_in kind position r =
    if same_kind r.kind kind && nat_le r.first position then slice_get r.names (position - r.first) else None

-- The name at a position, from the first of these runs that has one.
abbrev pub name_among : Kind → ℕ → List Names → Option (List ℕ)
name_among kind position [] = None
name_among kind position (r ∷ rs) = or_else (name_in kind position r) (name_among kind position rs)

-- The name of a capability, if its position has one.
unfoldable pub name_at : Kind → ℕ → Option (List ℕ)
name_at kind position = name_among kind position runs

-- The first position of a name in a list whose first name has position i.
abbrev pub position_from : ℕ → List ℕ → List (List ℕ) → Option ℕ
position_from i name [] = None
position_from i name (n ∷ ns) = if bytes_eq n name then Some i else position_from (suc i) name ns

-- The place of a name in a run.
abbrev pub position_in : List ℕ → Names → Option (Kind × ℕ)
position_in name r = option_map (λ p. (r.kind, p)) (position_from r.first name r.names)

-- The place of a name in the first of these runs that has it.
abbrev pub found_among : List ℕ → List Names → Option (Kind × ℕ)
found_among name [] = None
found_among name (r ∷ rs) = or_else (position_in name r) (found_among name rs)

-- The kind and position of the capability with this name, if there is one.
unfoldable pub capability_of : List ℕ → Option (Kind × ℕ)
capability_of name = found_among name runs
