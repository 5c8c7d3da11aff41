-- On the bundled entry, the bytes of each operation do to the negative of a state what the operation does to the state.
use Rattle.std.proofs.Common.{◌≡◌, ℕ, ℤ, pos, ◌+◌, ◌-◌, ◌<◌, ◌≤◌, ◌==◌, ◌&&◌, ◌||◌, Bool, true, false, IsTrue, cond, not, inl, inr, refl, sym, ◌∙◌, ap, subst, arith, List, [], ◌∷◌, ◌++◌, length-append, Option, Some, None, option_map, option_and_then, bit_and, bit_or, encode_utf8, nat_le, nat_lt}
use Rattle.std.specs.List.{flat_map, list_any}
use Rattle.std.specs.Fmt.{decimal}
use Rattle.std.proofs.lemmas.Nat.{and_le_l}
use Rattle.std.proofs.lemmas.List.{append-nil}
use Rattle.std.proofs.lemmas.Bool.{eqb-true, false≢true}
use Rattle.std.proofs.lemmas.Bool.Decides.{nat_tests}
use Rattle.scr_cells.specs.Attributes.{all_attributes}
use Rattle.scr_cells.specs.Characters.{is_beyond_ascii, is_utf8}
use Rattle.scr_cells.specs.LookViews.{LookView, blank_grid}
use Rattle.scr_cells.specs.PenViews.{PenView, is_plain_pen, negative_pen, plain_pen, with_attribute}
use Rattle.scr_cells.specs.Grids.{grid_with}
use Rattle.scr_cells.specs.PictureViews.{IsSize}
use Rattle.ti_param.specs.ProgramLaws.{AddsOne, WritesDecimal}
use Rattle.scr_cells.specs.declared.charsets.Charset.{Charset}
use Rattle.scr_term.specs.declared.operations.capability.Capability.{Capability}
use Rattle.scr_term.specs.declared.operations.capability.Capability.TheVariants as capability
use Rattle.scr_term.specs.declared.operations.operation.Op.{Op}
use Rattle.scr_term.specs.declared.operations.operation.Op.TheVariants.{Home, Move, Column, Line, Up, Down, Left, Right, UpBy, DownBy, LeftBy, RightBy, Return, Clear, EraseLine, EraseBelow, EraseChars, InsertLines, DeleteLines, InsertChars, DeleteChars, ScrollUp, ScrollDown, Reset, ExitAttributes, Enter, Set, Fore, Back, Put, Write, Repeat}
use Rattle.scr_term.specs.declared.operations.operation.Spot.{Spot}
use Rattle.scr_term.specs.Operations.Pieces.{Piece, Character, Spelled, Text}
use Rattle.scr_term.specs.declared.operations.operation.Spot.TheVariants.{At, Margin}
use Rattle.scr_term.specs.Operations.Admission.{IsEcma48}
use Rattle.scr_term.specs.Operations.Profiles.{ProfileView, abilities, has_colours, is_there, program_of, shown_set}
use Rattle.scr_term.specs.Operations.States.{from_place, TerminalState, IsState, negative_state, moved_down, moved_left, moved_right, moved_to, moved_to_column, moved_to_row, moved_up, rest_of_line_erased, character_written, characters_erased, written_at, spot_after}
use Rattle.scr_term.specs.Operations.Steps.{act, lines_below_erased}
use Rattle.scr_term.specs.Operations.Texts.{bytes_of, first_piece, has, is_sendable, is_within, motion, nine, piece_bytes, pieces, renditions_of, text, text_of_one, written}
use Rattle.scr_term.specs.Ecma.Units.{EcmaUnit, Graphic, Spelled, Control, IsUnit, is_parameter_byte, spelling}
use Rattle.scr_term.specs.Ecma.Meanings.{Leads, control_function, count_of, cursor_at, meaning, parameters_of, renditions}
use Rattle.scr_term.specs.Operations.Laws.{BytesActAsTheirOperation}
use Rattle.scr_term.proofs.CharacterLaws.{is_spelled}
use Rattle.scr_term.proofs.Attributes.{each_attribute, negative-or_standout, negative-or_underline, negative-or_reverse, negative-or_blink, negative-or_dim, negative-or_bold, negative-or_invis}
use Rattle.scr_term.proofs.Ecma48Laws.{all_there, colours_are_shown, every_is_shown, is_spare, program_is}
use Rattle.scr_term.specs.Operations.Ecma48.{bundled_program}
use Rattle.scr_term.proofs.BundledTextLaws.{blink_text, bold_text, clear_text, control_sequence, cr_text, cub1_text, cub_text, cud1_text, cud_text, cuf1_text, cuf_text, cup_text, cuu1_text, cuu_text, dim_text, ech_text, ed_text, el_text, home_text, hpa_text, invis_text, op_text, rendition_parameters, rev_text, setab_text, setaf_text, sgr0_text, sgr_text, smso_text, smul_text, vpa_text}
use Rattle.scr_term.proofs.ChoiceLaws.{both_true, chosen, same_some}
use Rattle.scr_term.proofs.LeadsLaws.{decimal_is_sequence, leads-append, sequence_leads, short_decimal, unit_leads}
use Rattle.scr_term.proofs.LookGridLaws.{negative_blank, negative_put}
use Rattle.scr_term.proofs.NegativeLaws.{AreNegative, below_is, below_negative, characters_negative, column_negative, down_negative, left_negative, line_negative, right_negative, row_negative, to_negative, up_negative}
use Rattle.scr_term.proofs.Parameters.{parameter_bytes, parameter_bytes_of_two, parameters_of_one, parameters_of_two}
use Rattle.scr_term.proofs.RenditionLaws.{background_leads, default_leads, foreground_leads, set_leads}

-- ---- the bytes of an operation, by the programs of the bundled entry

-- what is sent for one piece, for one text, and for one that `op` follows
one_piece : (profile : ProfileView) → (op : Op) (piece : Piece) → pieces profile op ≡ piece ∷ [] → bytes_of profile op ≡ piece_bytes profile piece
unfolding bytes_of
one_piece profile op piece sends = ap (flat_map (piece_bytes profile)) sends ∙ append-nil (piece_bytes profile piece)

one_text : (profile : ProfileView) → IsEcma48 profile → (op : Op) (c : Capability) (parameters : List ℤ) (bytes : List ℕ)
    → pieces profile op ≡ Text c parameters ∷ [] → written (bundled_program c) parameters ≡ bytes → bytes_of profile op ≡ bytes
one_text profile is op c parameters bytes sends writes =
    one_piece profile op (Text c parameters) sends ∙ ap (λ p. written p parameters) (program_is profile is c) ∙ writes

abbrev op_bytes : List ℕ
op_bytes = control_sequence (51 ∷ 57 ∷ 59 ∷ 52 ∷ 57 ∷ []) 109

two_texts : (profile : ProfileView) → IsEcma48 profile → (op : Op) (c : Capability) (parameters : List ℤ) (bytes : List ℕ)
    → pieces profile op ≡ Text c parameters ∷ cond (has_colours profile) (text capability.Op ∷ []) []
    → written (bundled_program c) parameters ≡ bytes → bytes_of profile op ≡ bytes ++ op_bytes
unfolding bytes_of
two_texts profile is op c parameters bytes sends writes =
    ap (flat_map (piece_bytes profile)) (sends ∙ ap (λ b. Text c parameters ∷ cond b (text capability.Op ∷ []) []) (colours_are_shown profile is))
    ∙ ap (λ rest. written (program_of profile c) parameters ++ rest) (append-nil (written (program_of profile capability.Op) (nine [])) ∙ ap (λ p. written p (nine [])) (program_is profile is capability.Op) ∙ op_text)
    ∙ ap (λ p. written p parameters ++ op_bytes) (program_is profile is c)
    ∙ ap (λ bs. bs ++ op_bytes) writes

-- what holds of the text for one place and of that for a number of places holds of a motion's
either_motion : (profile : ProfileView) → IsEcma48 profile → (one many : Capability) (n : ℕ) (P : List ℕ → Type 0) → is_spare one ≡ false
    → (n ≡ 1 → P (written (bundled_program one) (nine []))) → P (written (bundled_program many) (nine (pos n ∷ []))) → P (piece_bytes profile (motion profile one many n))
either_motion profile is one many n P kept single several = by (n == 1) refl
  where
    by : (t : Bool) → (n == 1) ≡ t → P (piece_bytes profile (motion profile one many n))
    by true e =
        subst (λ b. P (piece_bytes profile (cond b (text one) (text_of_one many n)))) (sym (ap (λ t. t && is_there profile one) e ∙ all_there profile is one ∙ ap not kept))
        (subst (λ p. P (written p (nine []))) (sym (program_is profile is one)) (single (eqb-true n 1 e)))
    by false e =
        subst (λ b. P (piece_bytes profile (cond b (text one) (text_of_one many n)))) (sym (ap (λ t. t && is_there profile one) e))
        (subst (λ p. P (written p (nine (pos n ∷ [])))) (sym (program_is profile is many)) several)

-- ---- units of the texts

-- where the negative of a state is led by a change that commutes with being negative
negative_leads : (new : TerminalState) (f g : Option TerminalState) → AreNegative f g → g ≡ Some new → f ≡ Some (negative_state new)
negative_leads new f g same h = same ∙ ap (option_map negative_state) h

-- a control sequence without parameters
bare_leads : (charset : Charset) (rows columns : ℕ) (old new : TerminalState) (final : ℕ) → 64 ≤ final → final ≤ 126
    → control_function rows columns old (None ∷ []) final ≡ Some new → Leads charset rows columns old (control_sequence [] final) new
bare_leads charset rows columns old new final low high means =
    sequence_leads charset rows columns old new [] final (None ∷ []) (record { digits = tt; short = omega arith; from_at_sign = low; to_tilde = high }) refl means

-- one of a number
counted_leads : (charset : Charset) (rows columns : ℕ) (old new : TerminalState) (n final : ℕ) → n ≤ 501 → 64 ≤ final → final ≤ 126
    → control_function rows columns old (Some n ∷ []) final ≡ Some new → Leads charset rows columns old (control_sequence (decimal n) final) new
counted_leads charset rows columns old new n final few low high means =
    sequence_leads charset rows columns old new (decimal n) final (Some n ∷ []) (decimal_is_sequence n final few low high) (parameters_of_one n (omega arith)) means

-- the count that a parameter from 1 gives
counted : (n : ℕ) (f : ℕ → Option TerminalState) → 1 ≤ n → option_and_then f (count_of (Some n ∷ [])) ≡ f n
counted n f low = let e : nat_le 1 n ≡ true = grind (arith, nat_tests) in rw e refl

is_count_of : (n : ℕ) → (nat_le 1 n && nat_le n 500) ≡ true → (1 ≤ n) × (n ≤ 500)
is_count_of n h = (grind (arith, nat_tests), grind (arith, nat_tests))

next_place : (rows columns : ℕ) (state : TerminalState) (r c : ℕ) → cursor_at rows columns state (r + 1) (c + 1) ≡ moved_to rows columns state r c
next_place rows columns state r c =
    let from_one : (nat_le 1 (r + 1) && nat_le 1 (c + 1)) ≡ true = grind (arith, nat_tests) in
    let row : r + 1 - 1 ≡ r = omega arith in
    let column : c + 1 - 1 ≡ c = omega arith in
    ap (λ t. cond t (moved_to rows columns state (r + 1 - 1) (c + 1 - 1)) None) from_one
    ∙ ap (λ n. moved_to rows columns state n (c + 1 - 1)) row ∙ ap (λ n. moved_to rows columns state r n) column

-- a row and a column
place_leads : (charset : Charset) (rows columns : ℕ) (old new : TerminalState) (r c : ℕ) → r ≤ 500 → c ≤ 500 → moved_to rows columns old r c ≡ Some new
    → Leads charset rows columns old (control_sequence (decimal (r + 1) ++ 59 ∷ decimal (c + 1)) 72) new
unfolding control_function
place_leads charset rows columns old new r c few_r few_c means =
    sequence_leads charset rows columns old new (decimal (r + 1) ++ 59 ∷ decimal (c + 1)) 72 (Some (r + 1) ∷ Some (c + 1) ∷ [])
    (record {
      digits = parameter_bytes_of_two (decimal (r + 1)) (decimal (c + 1)) (parameter_bytes (r + 1) (omega arith)) (parameter_bytes (c + 1) (omega arith));
      short = omega (arith, length-append (decimal (r + 1)) (59 ∷ decimal (c + 1)), short_decimal (r + 1) (omega arith), short_decimal (c + 1) (omega arith));
      from_at_sign = omega arith;
      to_tilde = omega arith;
    })
    (parameters_of_two (r + 1) (c + 1) (omega arith) (omega arith)) (next_place rows columns old r c ∙ means)

-- a character on the negative screen is the negative of the character, if a unit writes it
written_leads : (charset : Charset) (rows columns code : ℕ) (unit : EcmaUnit) (old new : TerminalState) (spot : Spot) → old.spot ≡ spot → IsUnit charset unit → ((state : TerminalState) → meaning rows columns state unit ≡ character_written columns state code)
    → written_at columns old code spot ≡ Some new → Leads charset rows columns (negative_state old) (spelling unit) (negative_state new)
written_leads charset rows columns code unit old new (Margin r) e is means h = absurd (no_state h)
  where
    no_state : None ≡ Some new → ⊥
    no_state n = (cc)
written_leads charset rows columns code unit old new (At r c) e is means h =
    let look : LookView = record { character = code; pen = old.pen } in
    let next : TerminalState = record { grid = grid_with old.grid r c look; spot = spot_after columns r c; pen = old.pen } in
    subst (λ s. Leads charset rows columns (negative_state old) (spelling unit) (negative_state s)) (same_some next new h)
    (unit_leads charset rows columns (negative_state old) (negative_state next) unit is
    (means (negative_state old) ∙ ap (written_at columns (negative_state old) code) e ∙ ap (λ g. Some (record { grid = g; spot = spot_after columns r c; pen = negative_pen old.pen })) (sym (negative_put old.grid r c look))))

put_leads : (charset : Charset) (rows columns byte : ℕ) (old new : TerminalState) (spot : Spot) → old.spot ≡ spot → 32 ≤ byte → byte ≤ 126
    → written_at columns old byte spot ≡ Some new → Leads charset rows columns (negative_state old) (byte ∷ []) (negative_state new)
put_leads charset rows columns byte old new spot e low high h = written_leads charset rows columns byte (Graphic byte) old new spot e (low, high) (λ state. refl) h

-- a character of one column in UTF-8
spelled_leads : (charset : Charset) (rows columns code : ℕ) (old new : TerminalState) (spot : Spot) → old.spot ≡ spot → is_utf8 charset ≡ true → is_beyond_ascii code ≡ true
    → written_at columns old code spot ≡ Some new → Leads charset rows columns (negative_state old) (encode_utf8 code) (negative_state new)
spelled_leads charset rows columns code old new spot e utf8 beyond h =
    written_leads charset rows columns code (Spelled code) old new spot e (is_spelled charset code utf8 beyond) (λ state. ap (λ t. cond t (character_written columns state code) None) beyond) h

-- the cursor to the first place, and then every place erased
clear_leads : (charset : Charset) (rows columns : ℕ) (old : TerminalState) → IsSize rows columns
    → Leads charset rows columns (negative_state old) (control_sequence [] 72 ++ control_sequence (50 ∷ []) 74) (negative_state (record old { grid = blank_grid rows columns; spot = At 0 0 }))
unfolding control_function
clear_leads charset rows columns old size =
    let home : TerminalState = record (negative_state old) { spot = At 0 0 } in
    let blanked : TerminalState = negative_state (record old { grid = blank_grid rows columns; spot = At 0 0 }) in
    let inside : (nat_lt 0 rows && nat_lt 0 columns) ≡ true = grind (arith, nat_tests, size.some_rows, size.some_columns) in
    leads-append charset rows columns (negative_state old) home blanked (control_sequence [] 72) (control_sequence (50 ∷ []) 74)
    (bare_leads charset rows columns (negative_state old) home 72 (omega arith) (omega arith) (rw inside refl))
    (sequence_leads charset rows columns home blanked (50 ∷ []) 74 (Some 2 ∷ []) (record { digits = (refl, tt); short = omega arith; from_at_sign = omega arith; to_tilde = omega arith }) refl
    (ap (λ g. Some (record blanked { grid = g })) (sym (negative_blank rows columns))))

-- SGR of one digit
digit_leads : (charset : Charset) (rows columns : ℕ) (old : TerminalState) (digit : ℕ) (ns : List (Option ℕ)) (next : PenView) → IsTrue (is_parameter_byte digit)
    → parameters_of (digit ∷ []) ≡ Some ns → renditions old.pen ns ≡ Some next → Leads charset rows columns old (control_sequence (digit ∷ []) 109) (record old { pen = next })
unfolding control_function
digit_leads charset rows columns old digit ns next is read means =
    sequence_leads charset rows columns old (record old { pen = next }) (digit ∷ []) 109 ns (record { digits = (is, tt); short = omega arith; from_at_sign = omega arith; to_tilde = omega arith }) read (rw means refl)

-- the bits of a set of the seven attributes are below 128
pub small_set : (set : ℕ) → bit_and 127 set ≡ set → set < 128
small_set set h = omega (arith, h, and_le_l 127 set)

-- where another pen is taken, it is that pen
coloured_is : (old new : TerminalState) (pen : PenView) (spot : Spot) → from_place spot (λ _ _. Some (record old { pen = pen })) ≡ Some new → record old { pen = pen } ≡ new
coloured_is old new pen (At r c) h = same_some (record old { pen = pen }) new h
coloured_is old new pen (Margin r) h = absurd (no_state h)
  where
    no_state : None ≡ Some new → ⊥
    no_state n = (cc)

-- ---- each operation

-- an operation leads from the negative of a state to the negative of another
abbrev OpLeads : ProfileView → TerminalState → TerminalState → List ℕ → Type 0
OpLeads profile old new bytes = Leads profile.charset profile.rows profile.columns (negative_state old) bytes (negative_state new)

vertical : (profile : ProfileView) → IsEcma48 profile → WritesDecimal → (old new : TerminalState) (n : ℕ) → 1 ≤ n → n ≤ 500
    → (moved_up profile.rows profile.columns old n ≡ Some new → OpLeads profile old new (piece_bytes profile (motion profile capability.Cuu1 capability.Cuu n)))
    × (moved_down profile.rows profile.columns old n ≡ Some new → OpLeads profile old new (piece_bytes profile (motion profile capability.Cud1 capability.Cud n)))
unfolding control_function
vertical profile is law old new n low few = (up, down)
  where
    up : moved_up profile.rows profile.columns old n ≡ Some new → OpLeads profile old new (piece_bytes profile (motion profile capability.Cuu1 capability.Cuu n))
    up h =
        let goes = negative_leads new (moved_up profile.rows profile.columns (negative_state old) n) (moved_up profile.rows profile.columns old n) (up_negative profile.rows profile.columns old n) h in
        either_motion profile is capability.Cuu1 capability.Cuu n (OpLeads profile old new) refl
        (λ one. subst (OpLeads profile old new) (sym cuu1_text) (bare_leads profile.charset profile.rows profile.columns (negative_state old) (negative_state new) 65 (omega arith) (omega arith) (ap (moved_up profile.rows profile.columns (negative_state old)) (sym one) ∙ goes)))
        (subst (OpLeads profile old new) (sym (cuu_text law n (omega arith))) (counted_leads profile.charset profile.rows profile.columns (negative_state old) (negative_state new) n 65 (omega arith) (omega arith) (omega arith) (counted n (moved_up profile.rows profile.columns (negative_state old)) low ∙ goes)))

    down : moved_down profile.rows profile.columns old n ≡ Some new → OpLeads profile old new (piece_bytes profile (motion profile capability.Cud1 capability.Cud n))
    down h =
        let goes = negative_leads new (moved_down profile.rows profile.columns (negative_state old) n) (moved_down profile.rows profile.columns old n) (down_negative profile.rows profile.columns old n) h in
        either_motion profile is capability.Cud1 capability.Cud n (OpLeads profile old new) refl
        (λ one. subst (OpLeads profile old new) (sym cud1_text) (bare_leads profile.charset profile.rows profile.columns (negative_state old) (negative_state new) 66 (omega arith) (omega arith) (ap (moved_down profile.rows profile.columns (negative_state old)) (sym one) ∙ goes)))
        (subst (OpLeads profile old new) (sym (cud_text law n (omega arith))) (counted_leads profile.charset profile.rows profile.columns (negative_state old) (negative_state new) n 66 (omega arith) (omega arith) (omega arith) (counted n (moved_down profile.rows profile.columns (negative_state old)) low ∙ goes)))

horizontal : (profile : ProfileView) → IsEcma48 profile → WritesDecimal → (old new : TerminalState) (n : ℕ) → 1 ≤ n → n ≤ 500
    → (moved_left profile.rows profile.columns old n ≡ Some new → OpLeads profile old new (piece_bytes profile (motion profile capability.Cub1 capability.Cub n)))
    × (moved_right profile.rows profile.columns old n ≡ Some new → OpLeads profile old new (piece_bytes profile (motion profile capability.Cuf1 capability.Cuf n)))
unfolding control_function
horizontal profile is law old new n low few = (left, right)
  where
    left : moved_left profile.rows profile.columns old n ≡ Some new → OpLeads profile old new (piece_bytes profile (motion profile capability.Cub1 capability.Cub n))
    left h =
        let goes = negative_leads new (moved_left profile.rows profile.columns (negative_state old) n) (moved_left profile.rows profile.columns old n) (left_negative profile.rows profile.columns old n) h in
        either_motion profile is capability.Cub1 capability.Cub n (OpLeads profile old new) refl
        (λ one. subst (OpLeads profile old new) (sym cub1_text) (unit_leads profile.charset profile.rows profile.columns (negative_state old) (negative_state new) (Control 8) (inl refl) (ap (moved_left profile.rows profile.columns (negative_state old)) (sym one) ∙ goes)))
        (subst (OpLeads profile old new) (sym (cub_text law n (omega arith))) (counted_leads profile.charset profile.rows profile.columns (negative_state old) (negative_state new) n 68 (omega arith) (omega arith) (omega arith) (counted n (moved_left profile.rows profile.columns (negative_state old)) low ∙ goes)))

    right : moved_right profile.rows profile.columns old n ≡ Some new → OpLeads profile old new (piece_bytes profile (motion profile capability.Cuf1 capability.Cuf n))
    right h =
        let goes = negative_leads new (moved_right profile.rows profile.columns (negative_state old) n) (moved_right profile.rows profile.columns old n) (right_negative profile.rows profile.columns old n) h in
        either_motion profile is capability.Cuf1 capability.Cuf n (OpLeads profile old new) refl
        (λ one. subst (OpLeads profile old new) (sym cuf1_text) (bare_leads profile.charset profile.rows profile.columns (negative_state old) (negative_state new) 67 (omega arith) (omega arith) (ap (moved_right profile.rows profile.columns (negative_state old)) (sym one) ∙ goes)))
        (subst (OpLeads profile old new) (sym (cuf_text law n (omega arith))) (counted_leads profile.charset profile.rows profile.columns (negative_state old) (negative_state new) n 67 (omega arith) (omega arith) (omega arith) (counted n (moved_right profile.rows profile.columns (negative_state old)) low ∙ goes)))

-- an attribute more
enter_leads : (profile : ProfileView) → IsEcma48 profile → (old : TerminalState) (a : ℕ) → old.pen.attrs < 128 → list_any (λ x. x == a) all_attributes ≡ true
    → OpLeads profile old (record old { pen = with_attribute old.pen a }) (bytes_of profile (Enter (record { 0 = a })))
enter_leads profile is old a small one =
    let P : ℕ → Type 0 = λ n. OpLeads profile old (record old { pen = with_attribute old.pen n }) (bytes_of profile (Enter (record { 0 = n }))) in
    let state : TerminalState = negative_state old in
    let leads : (n digit : ℕ) (c : Capability) (ns : List (Option ℕ)) (set : ℕ) → pieces profile (Enter (record { 0 = n })) ≡ text c ∷ [] → written (bundled_program c) (nine []) ≡ control_sequence (digit ∷ []) 109 → IsTrue (is_parameter_byte digit) → parameters_of (digit ∷ []) ≡ Some ns → renditions state.pen ns ≡ Some (record state.pen { attrs = set }) → set ≡ (negative_pen (with_attribute old.pen n)).attrs → P n =
    λ n digit c ns set sends writes is_digit read means same.
    subst (OpLeads profile old (record old { pen = with_attribute old.pen n })) (sym (one_text profile is (Enter (record { 0 = n })) c (nine []) (control_sequence (digit ∷ []) 109) sends writes))
    (digit_leads profile.charset profile.rows profile.columns state digit ns (negative_pen (with_attribute old.pen n)) is_digit read (means ∙ ap (λ s. Some (record state.pen { attrs = s })) same)) in
    each_attribute P
    (leads 1 55 capability.Smso (Some 7 ∷ []) (bit_or state.pen.attrs 4) refl smso_text refl refl refl (negative-or_standout old.pen.attrs small))
    (leads 2 52 capability.Smul (Some 4 ∷ []) (bit_or state.pen.attrs 2) refl smul_text refl refl refl (negative-or_underline old.pen.attrs small))
    (leads 4 55 capability.Rev (Some 7 ∷ []) (bit_or state.pen.attrs 4) refl rev_text refl refl refl (negative-or_reverse old.pen.attrs small))
    (leads 8 53 capability.Blink (Some 5 ∷ []) (bit_or state.pen.attrs 8) refl blink_text refl refl refl (negative-or_blink old.pen.attrs small))
    (leads 16 50 capability.Dim (Some 2 ∷ []) (bit_or state.pen.attrs 16) refl dim_text refl refl refl (negative-or_dim old.pen.attrs small))
    (leads 32 49 capability.Bold (Some 1 ∷ []) (bit_or state.pen.attrs 32) refl bold_text refl refl refl (negative-or_bold old.pen.attrs small))
    (leads 64 56 capability.Invis (Some 8 ∷ []) (bit_or state.pen.attrs 64) refl invis_text refl refl refl (negative-or_invis old.pen.attrs small))
    a one

parts : (profile : ProfileView) (op : Op) → has profile op ≡ true → (is_within profile op ≡ true) × (is_sendable profile (first_piece profile op) ≡ true)
unfolding has
parts profile op had = both_true (is_within profile op) (is_sendable profile (first_piece profile op)) had

-- the bundled entry sends nothing that inserts, deletes or scrolls
not_sent : (profile : ProfileView) → IsEcma48 profile → (one many : Capability) (n : ℕ) (P : Type 0) → is_spare one ≡ true → is_spare many ≡ true → is_sendable profile (motion profile one many n) ≡ true → P
not_sent profile is one many n P first second sends = by (n == 1 && is_there profile one) sends
  where
    by : (t : Bool) → is_sendable profile (cond t (text one) (text_of_one many n)) ≡ true → P
    by true e = absurd (false≢true (ap not (sym first) ∙ sym (all_there profile is one) ∙ e))
    by false e = absurd (false≢true (ap not (sym second) ∙ sym (all_there profile is many) ∙ e))

leads_by : (profile : ProfileView) → IsEcma48 profile → WritesDecimal → AddsOne → (old new : TerminalState) → IsState (abilities profile) old
    → (op : Op) → is_within profile op ≡ true → is_sendable profile (first_piece profile op) ≡ true → act profile old op ≡ Some new → OpLeads profile old new (bytes_of profile op)
unfolding control_function
leads_by profile is law adds old new s Home had sends h =
    let goes = negative_leads new (moved_to profile.rows profile.columns (negative_state old) 0 0) (moved_to profile.rows profile.columns old 0 0) (to_negative profile.rows profile.columns old 0 0) (chosen (profile.msgr || is_plain_pen old.pen) (moved_to profile.rows profile.columns old 0 0) new h).1 in
    subst (OpLeads profile old new) (sym (one_text profile is Home capability.Home (nine []) (control_sequence [] 72) refl home_text))
    (bare_leads profile.charset profile.rows profile.columns (negative_state old) (negative_state new) 72 (omega arith) (omega arith) goes)
leads_by profile is law adds old new s (Move r c) had sends h =
    let hr : r < profile.rows = grind (arith, nat_tests) in
    let hc : c < profile.columns = grind (arith, nat_tests) in
    let goes = negative_leads new (moved_to profile.rows profile.columns (negative_state old) r c) (moved_to profile.rows profile.columns old r c) (to_negative profile.rows profile.columns old r c) (chosen (profile.msgr || is_plain_pen old.pen) (moved_to profile.rows profile.columns old r c) new h).1 in
    subst (OpLeads profile old new) (sym (one_text profile is (Move r c) capability.Cup (nine (pos r ∷ pos c ∷ [])) (control_sequence (decimal (r + 1) ++ 59 ∷ decimal (c + 1)) 72) refl (cup_text law adds r c (omega (arith, is.size.few_rows)) (omega (arith, is.size.few_columns)))))
    (place_leads profile.charset profile.rows profile.columns (negative_state old) (negative_state new) r c (omega (arith, is.size.few_rows)) (omega (arith, is.size.few_columns)) goes)
leads_by profile is law adds old new s (Column c) had sends h =
    let hc : c < profile.columns = grind (arith, nat_tests) in
    let few : c ≤ 500 = omega (arith, is.size.few_columns) in
    let same : c + 1 - 1 ≡ c = omega arith in
    let goes = negative_leads new (moved_to_column profile.rows profile.columns (negative_state old) c) (moved_to_column profile.rows profile.columns old c) (column_negative profile.rows profile.columns old c) (chosen (profile.msgr || is_plain_pen old.pen) (moved_to_column profile.rows profile.columns old c) new h).1 in
    subst (OpLeads profile old new) (sym (one_text profile is (Column c) capability.Hpa (nine (pos c ∷ [])) (control_sequence (decimal (c + 1)) 71) refl (hpa_text law adds c (omega arith))))
    (counted_leads profile.charset profile.rows profile.columns (negative_state old) (negative_state new) (c + 1) 71 (omega arith) (omega arith) (omega arith)
    (counted (c + 1) (λ n. moved_to_column profile.rows profile.columns (negative_state old) (n - 1)) (omega arith) ∙ ap (moved_to_column profile.rows profile.columns (negative_state old)) same ∙ goes))
leads_by profile is law adds old new s (Line r) had sends h =
    let hr : r < profile.rows = grind (arith, nat_tests) in
    let few : r ≤ 500 = omega (arith, is.size.few_rows) in
    let same : r + 1 - 1 ≡ r = omega arith in
    let goes = negative_leads new (moved_to_row profile.rows profile.columns (negative_state old) r) (moved_to_row profile.rows profile.columns old r) (row_negative profile.rows profile.columns old r) (chosen (profile.msgr || is_plain_pen old.pen) (moved_to_row profile.rows profile.columns old r) new h).1 in
    subst (OpLeads profile old new) (sym (one_text profile is (Line r) capability.Vpa (nine (pos r ∷ [])) (control_sequence (decimal (r + 1)) 100) refl (vpa_text law adds r (omega arith))))
    (counted_leads profile.charset profile.rows profile.columns (negative_state old) (negative_state new) (r + 1) 100 (omega arith) (omega arith) (omega arith)
    (counted (r + 1) (λ n. moved_to_row profile.rows profile.columns (negative_state old) (n - 1)) (omega arith) ∙ ap (moved_to_row profile.rows profile.columns (negative_state old)) same ∙ goes))
leads_by profile is law adds old new s (Up n) had sends h =
    let few = is_count_of n had in
    subst (OpLeads profile old new) (sym (one_piece profile (Up n) (motion profile capability.Cuu1 capability.Cuu n) refl))
    ((vertical profile is law old new n few.0 few.1).0 (chosen (profile.msgr || is_plain_pen old.pen) (moved_up profile.rows profile.columns old n) new h).1)
leads_by profile is law adds old new s (Down n) had sends h =
    let few = is_count_of n had in
    subst (OpLeads profile old new) (sym (one_piece profile (Down n) (motion profile capability.Cud1 capability.Cud n) refl))
    ((vertical profile is law old new n few.0 few.1).1 (chosen (profile.msgr || is_plain_pen old.pen) (moved_down profile.rows profile.columns old n) new h).1)
leads_by profile is law adds old new s (Left n) had sends h =
    let few = is_count_of n had in
    subst (OpLeads profile old new) (sym (one_piece profile (Left n) (motion profile capability.Cub1 capability.Cub n) refl))
    ((horizontal profile is law old new n few.0 few.1).0 (chosen (profile.msgr || is_plain_pen old.pen) (moved_left profile.rows profile.columns old n) new h).1)
leads_by profile is law adds old new s (Right n) had sends h =
    let few = is_count_of n had in
    subst (OpLeads profile old new) (sym (one_piece profile (Right n) (motion profile capability.Cuf1 capability.Cuf n) refl))
    ((horizontal profile is law old new n few.0 few.1).1 (chosen (profile.msgr || is_plain_pen old.pen) (moved_right profile.rows profile.columns old n) new h).1)
leads_by profile is law adds old new s (UpBy n) had sends h =
    let few = is_count_of n had in
    let goes = negative_leads new (moved_up profile.rows profile.columns (negative_state old) n) (moved_up profile.rows profile.columns old n) (up_negative profile.rows profile.columns old n) (chosen (profile.msgr || is_plain_pen old.pen) (moved_up profile.rows profile.columns old n) new h).1 in
    subst (OpLeads profile old new) (sym (one_text profile is (UpBy n) capability.Cuu (nine (pos n ∷ [])) (control_sequence (decimal n) 65) refl (cuu_text law n (omega (arith, few.1)))))
    (counted_leads profile.charset profile.rows profile.columns (negative_state old) (negative_state new) n 65 (omega (arith, few.1)) (omega arith) (omega arith)
    (counted n (moved_up profile.rows profile.columns (negative_state old)) few.0 ∙ goes))
leads_by profile is law adds old new s (DownBy n) had sends h =
    let few = is_count_of n had in
    let goes = negative_leads new (moved_down profile.rows profile.columns (negative_state old) n) (moved_down profile.rows profile.columns old n) (down_negative profile.rows profile.columns old n) (chosen (profile.msgr || is_plain_pen old.pen) (moved_down profile.rows profile.columns old n) new h).1 in
    subst (OpLeads profile old new) (sym (one_text profile is (DownBy n) capability.Cud (nine (pos n ∷ [])) (control_sequence (decimal n) 66) refl (cud_text law n (omega (arith, few.1)))))
    (counted_leads profile.charset profile.rows profile.columns (negative_state old) (negative_state new) n 66 (omega (arith, few.1)) (omega arith) (omega arith)
    (counted n (moved_down profile.rows profile.columns (negative_state old)) few.0 ∙ goes))
leads_by profile is law adds old new s (LeftBy n) had sends h =
    let few = is_count_of n had in
    let goes = negative_leads new (moved_left profile.rows profile.columns (negative_state old) n) (moved_left profile.rows profile.columns old n) (left_negative profile.rows profile.columns old n) (chosen (profile.msgr || is_plain_pen old.pen) (moved_left profile.rows profile.columns old n) new h).1 in
    subst (OpLeads profile old new) (sym (one_text profile is (LeftBy n) capability.Cub (nine (pos n ∷ [])) (control_sequence (decimal n) 68) refl (cub_text law n (omega (arith, few.1)))))
    (counted_leads profile.charset profile.rows profile.columns (negative_state old) (negative_state new) n 68 (omega (arith, few.1)) (omega arith) (omega arith)
    (counted n (moved_left profile.rows profile.columns (negative_state old)) few.0 ∙ goes))
leads_by profile is law adds old new s (RightBy n) had sends h =
    let few = is_count_of n had in
    let goes = negative_leads new (moved_right profile.rows profile.columns (negative_state old) n) (moved_right profile.rows profile.columns old n) (right_negative profile.rows profile.columns old n) (chosen (profile.msgr || is_plain_pen old.pen) (moved_right profile.rows profile.columns old n) new h).1 in
    subst (OpLeads profile old new) (sym (one_text profile is (RightBy n) capability.Cuf (nine (pos n ∷ [])) (control_sequence (decimal n) 67) refl (cuf_text law n (omega (arith, few.1)))))
    (counted_leads profile.charset profile.rows profile.columns (negative_state old) (negative_state new) n 67 (omega (arith, few.1)) (omega arith) (omega arith)
    (counted n (moved_right profile.rows profile.columns (negative_state old)) few.0 ∙ goes))
leads_by profile is law adds old new s Return had sends h =
    let goes = negative_leads new (moved_to_column profile.rows profile.columns (negative_state old) 0) (moved_to_column profile.rows profile.columns old 0) (column_negative profile.rows profile.columns old 0) (chosen (profile.msgr || is_plain_pen old.pen) (moved_to_column profile.rows profile.columns old 0) new h).1 in
    subst (OpLeads profile old new) (sym (one_text profile is Return capability.Cr (nine []) (13 ∷ []) refl cr_text))
    (unit_leads profile.charset profile.rows profile.columns (negative_state old) (negative_state new) (Control 13) (inr refl) goes)
leads_by profile is law adds old new s Clear had sends h =
    let next : TerminalState = record old { grid = blank_grid profile.rows profile.columns; spot = At 0 0 } in
    subst (λ z. OpLeads profile old z (bytes_of profile Clear)) (same_some next new (chosen (is_plain_pen old.pen) (Some next) new h).1)
    (subst (OpLeads profile old next) (sym (one_text profile is Clear capability.Clear (nine []) (control_sequence [] 72 ++ control_sequence (50 ∷ []) 74) refl clear_text))
    (clear_leads profile.charset profile.rows profile.columns old is.size))
leads_by profile is law adds old new s EraseLine had sends h =
    let goes = negative_leads new (rest_of_line_erased profile.rows profile.columns (negative_state old)) (rest_of_line_erased profile.rows profile.columns old) (line_negative profile.rows profile.columns old) (chosen (is_plain_pen old.pen) (rest_of_line_erased profile.rows profile.columns old) new h).1 in
    subst (OpLeads profile old new) (sym (one_text profile is EraseLine capability.El (nine []) (control_sequence [] 75) refl el_text))
    (bare_leads profile.charset profile.rows profile.columns (negative_state old) (negative_state new) 75 (omega arith) (omega arith) goes)
leads_by profile is law adds old new s EraseBelow had sends h =
    let goes = negative_leads new (lines_below_erased profile.rows profile.columns (negative_state old)) (lines_below_erased profile.rows profile.columns old) (below_negative profile.rows profile.columns old) (chosen (is_plain_pen old.pen) (lines_below_erased profile.rows profile.columns old) new h).1 in
    subst (OpLeads profile old new) (sym (one_text profile is EraseBelow capability.Ed (nine []) (control_sequence [] 74) refl ed_text))
    (bare_leads profile.charset profile.rows profile.columns (negative_state old) (negative_state new) 74 (omega arith) (omega arith) (below_is profile.rows profile.columns (negative_state old) (negative_state new) goes))
leads_by profile is law adds old new s (EraseChars n) had sends h =
    let few = is_count_of n had in
    let goes = negative_leads new (characters_erased profile.rows profile.columns (negative_state old) n) (characters_erased profile.rows profile.columns old n) (characters_negative profile.rows profile.columns old n) (chosen (is_plain_pen old.pen) (characters_erased profile.rows profile.columns old n) new h).1 in
    subst (OpLeads profile old new) (sym (one_text profile is (EraseChars n) capability.Ech (nine (pos n ∷ [])) (control_sequence (decimal n) 88) refl (ech_text law n (omega (arith, few.1)))))
    (counted_leads profile.charset profile.rows profile.columns (negative_state old) (negative_state new) n 88 (omega (arith, few.1)) (omega arith) (omega arith)
    (counted n (characters_erased profile.rows profile.columns (negative_state old)) few.0 ∙ goes))
leads_by profile is law adds old new s (InsertLines n) had sends h = not_sent profile is capability.Il1 capability.Il n _ refl refl sends
leads_by profile is law adds old new s (DeleteLines n) had sends h = not_sent profile is capability.Dl1 capability.Dl n _ refl refl sends
leads_by profile is law adds old new s (InsertChars n) had sends h = absurd (false≢true (sym (all_there profile is capability.Ich) ∙ sends))
leads_by profile is law adds old new s (DeleteChars n) had sends h = not_sent profile is capability.Dch1 capability.Dch n _ refl refl sends
leads_by profile is law adds old new s (ScrollUp n) had sends h = not_sent profile is capability.Ind capability.Indn n _ refl refl sends
leads_by profile is law adds old new s (ScrollDown n) had sends h = not_sent profile is capability.Ri capability.Rin n _ refl refl sends
leads_by profile is law adds old new s Reset had sends h =
    let next : TerminalState = record old { pen = plain_pen } in
    subst (λ z. OpLeads profile old z (bytes_of profile Reset)) (same_some next new h)
    (subst (OpLeads profile old next) (sym (two_texts profile is Reset capability.Sgr0 (nine []) (control_sequence (48 ∷ []) 109) refl sgr0_text))
    (leads-append profile.charset profile.rows profile.columns (negative_state old) (negative_state next) (negative_state next) (control_sequence (48 ∷ []) 109) op_bytes
    (digit_leads profile.charset profile.rows profile.columns (negative_state old) 48 (Some 0 ∷ []) plain_pen refl refl refl)
    (default_leads profile.charset profile.rows profile.columns (negative_state next))))
leads_by profile is law adds old new s ExitAttributes had sends h =
    let next : TerminalState = record old { pen = plain_pen } in
    subst (λ z. OpLeads profile old z (bytes_of profile ExitAttributes)) (same_some next new (chosen _ (Some next) new h).1)
    (subst (OpLeads profile old next) (sym (one_text profile is ExitAttributes capability.Sgr0 (nine []) (control_sequence (48 ∷ []) 109) refl sgr0_text))
    (digit_leads profile.charset profile.rows profile.columns (negative_state old) 48 (Some 0 ∷ []) plain_pen refl refl refl))
leads_by profile is law adds old new s (Enter a) had sends h =
    let next : TerminalState = record old { pen = with_attribute old.pen a.0 } in
    let small : old.pen.attrs < 128 = small_set old.pen.attrs (let e : shown_set profile ≡ 127 = every_is_shown profile is in rw e at s.pen.attrs) in
    subst (λ z. OpLeads profile old z (bytes_of profile (Enter a))) (same_some next new h)
    (enter_leads profile is old a.0 small (both_true _ _ had).0)
leads_by profile is law adds old new s (Set a) had sends h =
    let next : TerminalState = record old { pen = record plain_pen { attrs = a.0 } } in
    let few : a.0 < 128 = small_set a.0 (let e : shown_set profile ≡ 127 = every_is_shown profile is in let same : bit_and (shown_set profile) a.0 ≡ a.0 = eqb-true _ _ had in rw e at same) in
    subst (λ z. OpLeads profile old z (bytes_of profile (Set a))) (same_some next new h)
    (subst (OpLeads profile old next) (sym (two_texts profile is (Set a) capability.Sgr (renditions_of a.0) (control_sequence (rendition_parameters a.0) 109) refl (sgr_text a.0 few)))
    (leads-append profile.charset profile.rows profile.columns (negative_state old) (negative_state next) (negative_state next) (control_sequence (rendition_parameters a.0) 109) op_bytes
    (set_leads profile.charset profile.rows profile.columns (negative_state old) a.0 few)
    (default_leads profile.charset profile.rows profile.columns (negative_state next))))
leads_by profile is law adds old new s (Fore n) had sends h =
    let few : n < 8 = (let e = (both_true (nat_lt n 8) (has_colours profile) had).0 in grind (arith, nat_tests)) in
    subst (λ z. OpLeads profile old z (bytes_of profile (Fore n))) (coloured_is old new (record old.pen { foreground = Some n }) old.spot h)
    (subst (OpLeads profile old (record old { pen = record old.pen { foreground = Some n } })) (sym (one_text profile is (Fore n) capability.Setaf (nine (pos n ∷ [])) (control_sequence (51 ∷ decimal n) 109) refl (setaf_text law n (omega arith))))
    (foreground_leads profile.charset profile.rows profile.columns (negative_state old) n few))
leads_by profile is law adds old new s (Back n) had sends h =
    let few : n < 8 = (let e = (both_true (nat_lt n 8) (has_colours profile) had).0 in grind (arith, nat_tests)) in
    subst (λ z. OpLeads profile old z (bytes_of profile (Back n))) (coloured_is old new (record old.pen { background = Some n }) old.spot h)
    (subst (OpLeads profile old (record old { pen = record old.pen { background = Some n } })) (sym (one_text profile is (Back n) capability.Setab (nine (pos n ∷ [])) (control_sequence (52 ∷ decimal n) 109) refl (setab_text law n (omega arith))))
    (background_leads profile.charset profile.rows profile.columns (negative_state old) n few))
leads_by profile is law adds old new s (Put byte) had sends h =
    let low : 32 ≤ byte = grind (arith, nat_tests) in
    let high : byte ≤ 126 = grind (arith, nat_tests) in
    subst (OpLeads profile old new) (sym (one_piece profile (Put byte) (Character byte) refl)) (put_leads profile.charset profile.rows profile.columns byte old new old.spot refl low high h)
leads_by profile is law adds old new s (Write code) had sends h =
    let both = both_true (is_utf8 profile.charset) (is_beyond_ascii code) had in
    subst (OpLeads profile old new) (sym (one_piece profile (Write code) (Spelled code) refl ∙ ap (λ t. cond t (encode_utf8 code) []) sends)) (spelled_leads profile.charset profile.rows profile.columns code old new old.spot refl both.0 both.1 h)
leads_by profile is law adds old new s (Repeat byte n) had sends h = absurd (false≢true (sym (all_there profile is capability.Rep) ∙ sends))

pub bytes_act_as_their_operation : WritesDecimal → AddsOne → BytesActAsTheirOperation
bytes_act_as_their_operation law adds profile is old new s op h =
    let c = chosen (has profile op) (act profile old op) new h in
    leads_by profile is law adds old new s op (parts profile op c.0).0 (parts profile op c.0).1 c.1
