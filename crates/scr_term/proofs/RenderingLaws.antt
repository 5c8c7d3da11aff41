-- The bytes of an operation by its pieces.
use Rattle.std.proofs.Common.{◌≡◌, ◌+◌, ◌≤◌, ◌&&◌, false, true, [], ◌∷◌, ◌++◌, List, ℕ, OnErr, Result, Ok, Err, Some, None, ap, append_assoc, arith, cond, encode_utf8, length, length-append, refl, sym, ◌∙◌}
use Rattle.std.specs.List.{flat_map}
use Rattle.std.proofs.lemmas.List.{append-nil}
use Rattle.scr_term.specs.declared.operations.capability.Capability.TheVariants as capability
use Rattle.scr_cells.specs.Characters.{is_beyond_ascii, is_utf8}
use Rattle.scr_term.specs.declared.operations.operation.Op.{Op}
use Rattle.scr_term.specs.declared.operations.operation.Op.TheVariants.{Write}
use Rattle.scr_term.specs.Operations.Pieces.{Piece}
use Rattle.scr_term.specs.Operations.Profiles.{ProfileView, has_colours}
use Rattle.scr_term.proofs.ChoiceLaws.{both_true}
use Rattle.scr_term.specs.Operations.Texts.{bytes_of, first_piece, has, is_sendable, is_within, piece_bytes, resets_colours, text}

-- where the colours stay, one piece is sent
pub bytes_of_one : (profile : ProfileView) (op : Op) → (resets_colours op && has_colours profile) ≡ false
    → bytes_of profile op ≡ piece_bytes profile (first_piece profile op)
unfolding bytes_of
bytes_of_one profile op h =
    ap (λ t. flat_map (piece_bytes profile) (first_piece profile op ∷ (cond t (text capability.Op ∷ []) []))) h ∙ append-nil (piece_bytes profile (first_piece profile op))

-- a character above ASCII
pub bytes_of_written : (profile : ProfileView) (code : ℕ) → has profile (Write code) ≡ true → bytes_of profile (Write code) ≡ encode_utf8 code
unfolding has
bytes_of_written profile code had =
    let both : is_utf8 profile.charset ≡ true = (both_true (is_utf8 profile.charset && is_beyond_ascii code) (is_utf8 profile.charset) had).1 in
    bytes_of_one profile (Write code) refl ∙ ap (λ t. cond t (encode_utf8 code) []) both

-- where they become the default ones, two
pub bytes_of_two : (profile : ProfileView) (op : Op) → (resets_colours op && has_colours profile) ≡ true
    → bytes_of profile op ≡ piece_bytes profile (first_piece profile op) ++ piece_bytes profile (text capability.Op)
unfolding bytes_of
bytes_of_two profile op h =
    ap (λ t. flat_map (piece_bytes profile) (first_piece profile op ∷ (cond t (text capability.Op ∷ []) []))) h
    ∙ ap (λ bytes. piece_bytes profile (first_piece profile op) ++ bytes) (append-nil (piece_bytes profile (text capability.Op)))

-- what can be sent is there
pub has_piece : (profile : ProfileView) (op : Op) → is_within profile op ≡ true → is_sendable profile (first_piece profile op) ≡ true → has profile op ≡ true
unfolding has
has_piece profile op within sendable = ap (λ t. t && is_sendable profile (first_piece profile op)) within ∙ sendable

-- how many bytes two pieces have
pub cost_of_two : (profile : ProfileView) (op : Op) (first second : ℕ) (piece : Piece) → has profile op ≡ true → (resets_colours op && has_colours profile) ≡ true → piece ≡ text capability.Op
    → first ≡ length (piece_bytes profile (first_piece profile op)) → second ≡ length (piece_bytes profile piece)
    → Some (first + second) ≡ cond (has profile op) (Some (length (bytes_of profile op))) None
cost_of_two profile op first second piece had colours same f s =
    let whole : length (bytes_of profile op) ≡ first + second =
    ap length (bytes_of_two profile op colours) ∙ length-append (piece_bytes profile (first_piece profile op)) (piece_bytes profile (text capability.Op)) ∙ ap (λ p. length (piece_bytes profile (first_piece profile op)) + length (piece_bytes profile p)) (sym same) ∙ sym (ap (λ n. n + second) f ∙ ap (λ n. length (piece_bytes profile (first_piece profile op)) + n) s) in
    rw had (ap Some (sym whole))

-- the first piece is no longer than all
pub first_within : (profile : ProfileView) (op : Op) → length (piece_bytes profile (first_piece profile op)) ≤ length (bytes_of profile op)
unfolding bytes_of
first_within profile op = omega (arith, length-append (piece_bytes profile (first_piece profile op)) (flat_map (piece_bytes profile) (cond (resets_colours op && has_colours profile) (text capability.Op ∷ []) [])))

-- what is behind the first piece, after it was appended
pub both_appended : (profile : ProfileView) (op : Op) (piece : Piece) (old middle new : List ℕ) → (resets_colours op && has_colours profile) ≡ true → piece ≡ text capability.Op
    → middle ≡ old ++ piece_bytes profile (first_piece profile op) → new ≡ middle ++ piece_bytes profile piece → new ≡ old ++ bytes_of profile op
both_appended profile op piece old middle new colours same m n =
    n ∙ ap (λ l. l ++ piece_bytes profile piece) m ∙ append_assoc old (piece_bytes profile (first_piece profile op)) (piece_bytes profile piece)
    ∙ ap (λ p. old ++ (piece_bytes profile (first_piece profile op) ++ piece_bytes profile p)) same ∙ ap (λ l. old ++ l) (sym (bytes_of_two profile op colours))

pub room_of_two : (profile : ProfileView) (op : Op) (piece : Piece) (old middle : List ℕ) → (resets_colours op && has_colours profile) ≡ true → piece ≡ text capability.Op
    → middle ≡ old ++ piece_bytes profile (first_piece profile op)
    → length middle + length (piece_bytes profile piece) ≡ length old + length (bytes_of profile op)
room_of_two profile op piece old middle colours same m =
    sym (length-append middle (piece_bytes profile piece)) ∙ ap length (both_appended profile op piece old middle (middle ++ piece_bytes profile piece) colours same m refl) ∙ length-append old (bytes_of profile op)

-- what is so at each refusal
pub at_refusal : {A E : Type 0} → (result : Result A E) (P : Type 0) → P → OnErr result P
at_refusal (Ok x) P p = tt
at_refusal (Err e) P p = p
