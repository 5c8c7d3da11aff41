-- Reading the lines that tell a size, an end or a stop.
use Rattle.std.proofs.Common.{◌≡◌, ◌≢◌, ℕ, zero, suc, ◌<◌, ◌==◌, Bool, true, false, cond, refl, sym, ap, subst, ◌∙◌, arith, List, [], ◌∷◌, ◌++◌, length, length-append, drop, get_or, Option, Some, None, MatchOption}
use Rattle.std.specs.Str.{IsAscii, IsUtf8}
use Rattle.std.specs.Str.Parse.{AllDigits}
use Rattle.std.proofs.lemmas.Bool.Decides.{nat_tests}
use Rattle.std.proofs.lemmas.Fmt.{IsAscii-from_digits}
use Rattle.std.proofs.lemmas.List.{append_cancel_right}
use Rattle.std.proofs.Math.Seq.{get_or-append_seam}
use Rattle.std.proofs.lemmas.Str.{IsAscii-append, IsUtf8-from_ascii}
use Rattle.std.proofs.lemmas.Str.Ascii.{IsAscii-cons, IsAscii-nil}
use Rattle.std.proofs.lemmas.Str.Parse.{digit_at}
use Rattle.std.proofs.lemmas.Str.Pattern.{IsSplitOnceResult, split_parts}
use Rattle.scr_cells.specs.declared.sizes.Size.{Size}
use Rattle.terminal.specs.Sizes.{AreFields, Finds, IsNumber, SaySize, TellsSize, end_line, stop_line}
use denote.Ref.{Bor}

is_plus : (c : ℕ) → (c == 43) ≡ true → c ≡ 43
is_plus c is = grind (arith, nat_tests)

-- No blank is in a number,
no_blank_by : (b : Bool) (c : ℕ) (cs : List ℕ) → (c == 43) ≡ b → AllDigits 10 (drop (cond b 1 0) (c ∷ cs)) → (i : ℕ) → i < length (c ∷ cs) → get_or (c ∷ cs) i 0 ≢ 32
no_blank_by true c cs is digits zero inside = λ e. let plus = is_plus c is in omega (arith, plus, e)
no_blank_by true c cs is digits (suc i) inside = λ e. let digit = digit_at cs i digits (omega arith) in omega (arith, digit, e)
no_blank_by false c cs is digits i inside = λ e. let digit = digit_at (c ∷ cs) i digits inside in omega (arith, digit, e)

no_blank : (text : List ℕ) (n : ℕ) → IsNumber text n → (i : ℕ) → i < length text → get_or text i 0 ≢ 32
no_blank [] n number = λ i inside e. omega (arith, inside)
no_blank (c ∷ cs) n number = no_blank_by (c == 43) c cs refl number.digits.1

-- and it is ASCII.
ascii_by : (b : Bool) (c : ℕ) (cs : List ℕ) → (c == 43) ≡ b → AllDigits 10 (drop (cond b 1 0) (c ∷ cs)) → IsAscii (c ∷ cs)
ascii_by true c cs is digits = let plus = is_plus c is in IsAscii-cons c cs (omega (arith, plus)) (IsAscii-from_digits cs digits)
ascii_by false c cs is digits = IsAscii-from_digits (c ∷ cs) digits

ascii : (text : List ℕ) (n : ℕ) → IsNumber text n → IsAscii text
ascii [] n number = IsAscii-nil
ascii (c ∷ cs) n number = ascii_by (c == 43) c cs refl number.digits.1

-- A list is cut in one way at the first of its elements that is `c`.
pub cut_once : (c : ℕ) (xs ys us vs : List ℕ) → ((i : ℕ) → i < length xs → get_or xs i 0 ≢ c) → ((i : ℕ) → i < length us → get_or us i 0 ≢ c) → xs ++ c ∷ ys ≡ us ++ c ∷ vs → (xs ≡ us) × (ys ≡ vs)
cut_once c [] ys [] vs none nil same = (refl, ap (λ l. drop 1 l) same)
cut_once c [] ys (u ∷ us) vs none nil same = absurd (nil 0 (omega arith) (sym (ap (λ l. get_or l 0 0) same)))
cut_once c (x ∷ xs) ys [] vs none nil same = absurd (none 0 (omega arith) (ap (λ l. get_or l 0 0) same))
cut_once c (x ∷ xs) ys (u ∷ us) vs none nil same =
    let rest : xs ++ c ∷ ys ≡ us ++ c ∷ vs = ap (λ l. drop 1 l) same in
    let here : x ≡ u = ap (λ l. get_or l 0 0) same in
    let on = cut_once c xs ys us vs (λ i inside. none (suc i) (omega (arith, inside))) (λ i inside. nil (suc i) (omega (arith, inside))) rest in
    (λ i. here i ∷ on.0 i, on.1)

-- The fields of a line, as its code finds them.
pub fields_of : (line rest : List ℕ) (r : Option (Bor (List ℕ) × Bor (List ℕ))) → line ≡ rest ++ 10 ∷ [] → IsSplitOnceResult 32 rest r
    → MatchOption r ((rows columns : List ℕ) → line ≢ rows ++ 32 ∷ columns ++ 10 ∷ []) (λ both. AreFields line both.0.now both.1.now)
fields_of line rest None whole split = λ rows columns told.
    let parts = split_parts 32 rest None split (omega arith) in
    let cut : rest ≡ rows ++ 32 ∷ columns = append_cancel_right rest (rows ++ 32 ∷ columns) (10 ∷ []) (sym whole ∙ told) in
    parts (length rows) (omega (arith, ap length cut, length-append rows (32 ∷ columns))) (ap (λ l. get_or l (length rows) 0) cut ∙ get_or-append_seam rows 32 columns 0)
fields_of line rest (Some both) whole split =
    let parts = split_parts 32 rest (Some both) split (omega arith) in
    record { line = whole ∙ ap (λ l. l ++ 10 ∷ []) parts.0; first = parts.1 }

-- What the fields say is what the line tells.
pub size_of_fields : (line rows columns : List ℕ) (size : Option Size) → AreFields line rows columns → Finds (SaySize rows columns) size → Finds (TellsSize line) size
size_of_fields line rows columns (Some size) fields says = record { rows = rows; columns = columns; line = fields.line; says = says }
size_of_fields line rows columns None fields none = λ size tells.
    let same : rows ++ 32 ∷ columns ≡ tells.rows ++ 32 ∷ tells.columns = append_cancel_right (rows ++ 32 ∷ columns) (tells.rows ++ 32 ∷ tells.columns) (10 ∷ []) (sym fields.line ∙ tells.line) in
    let cut = cut_once 32 rows columns tells.rows tells.columns fields.first (no_blank tells.rows tells.says.row_count tells.says.in_rows) same in
    none size (subst (λ c. SaySize rows c size) (sym cut.1) (subst (λ r. SaySize r tells.columns size) (sym cut.0) tells.says))

-- A line without fields tells no size.
pub no_fields : (line : List ℕ) → ((rows columns : List ℕ) → line ≢ rows ++ 32 ∷ columns ++ 10 ∷ []) → (size : Size) → TellsSize line size → ⊥
no_fields line none size tells = none tells.rows tells.columns tells.line

-- What tells something is text.
pub tells_in_text : (text : List ℕ) (size : Size) → TellsSize text size → IsUtf8 text
tells_in_text text size tells =
    let end : IsAscii (10 ∷ []) = IsAscii-cons 10 [] (omega arith) IsAscii-nil in
    let second : IsAscii (32 ∷ tells.columns) = IsAscii-cons 32 tells.columns (omega arith) (ascii tells.columns tells.says.column_count tells.says.in_columns) in
    let first : IsAscii (tells.rows ++ 32 ∷ tells.columns) = IsAscii-append tells.rows (32 ∷ tells.columns) (ascii tells.rows tells.says.row_count tells.says.in_rows) second in
    let whole = IsUtf8-from_ascii (tells.rows ++ 32 ∷ tells.columns ++ 10 ∷ []) (IsAscii-append (tells.rows ++ 32 ∷ tells.columns) (10 ∷ []) first end) in
    subst IsUtf8 (sym tells.line) whole

pub end_in_text : (text : List ℕ) → text ≡ end_line → IsUtf8 text
end_in_text text is =
    let whole = IsUtf8-from_ascii end_line (IsAscii-cons 101 (110 ∷ 100 ∷ 10 ∷ []) (omega arith) (IsAscii-cons 110 (100 ∷ 10 ∷ []) (omega arith) (IsAscii-cons 100 (10 ∷ []) (omega arith) (IsAscii-cons 10 [] (omega arith) IsAscii-nil)))) in
    subst IsUtf8 (sym is) whole

pub stop_in_text : (text : List ℕ) → text ≡ stop_line → IsUtf8 text
stop_in_text text is =
    let whole = IsUtf8-from_ascii stop_line (IsAscii-cons 115 (116 ∷ 111 ∷ 112 ∷ 10 ∷ []) (omega arith) (IsAscii-cons 116 (111 ∷ 112 ∷ 10 ∷ []) (omega arith) (IsAscii-cons 111 (112 ∷ 10 ∷ []) (omega arith) (IsAscii-cons 112 (10 ∷ []) (omega arith) (IsAscii-cons 10 [] (omega arith) IsAscii-nil))))) in
    subst IsUtf8 (sym is) whole
