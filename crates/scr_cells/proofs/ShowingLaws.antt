-- A look and a cell of one number: the look is what the terminal shows of the cell.
use Rattle.std.proofs.Common.{◌≡◌, ◌≢◌, ◌⊎◌, inl, inr, ℕ, Bool, true, false, nat_eq, ◌+◌, ◌-◌, ◌*◌, ◌%◌, ◌/◌, ◌<◌, ◌≤◌, sym, ◌∙◌, ap, subst, refl, arith, bit_and, List, None, Some, Option, length, get_or, if◌then◌else◌}
use Rattle.std.proofs.lemmas.Bool.{eqb-true}
use Rattle.std.proofs.lemmas.List.{get_or_default}
use Rattle.std.proofs.lemmas.Nat.{and_comm, and_le_r, and_mask}
use Rattle.scr_cells.specs.CellViews.{CellView, blank_cell}
use Rattle.scr_cells.specs.LookViews.{LookView, seen}
use Rattle.scr_cells.specs.PenViews.{pair_colours}
use Rattle.scr_cells.specs.Showing.{HasRendition, IsSeenAt, IsUnseenAt, shown_in}
use Rattle.scr_cells.specs.declared.charsets.Charset.{Charset}
use Rattle.scr_cells.specs.declared.charsets.Charset.TheVariants.{Ascii, Utf8}
use Rattle.scr_cells.specs.Code.Lanes.{HasEight}
use Rattle.scr_cells.specs.Code.Numbers.{HasBase, HasLimit, IsLimit, IsSeenAsItIs, KeepsRendition, ShowsEight, cell_of, look_of}
use Rattle.scr_cells.specs.Code.PackedPens.{coded_colour}
use Rattle.scr_cells.proofs.CharacterLaws.{seen_as_itself, seen_in_utf8}
use Rattle.scr_cells.proofs.LaneLaws.{below_ascii, below_attributes, below_pairs, kept_above_character, kept_above_seven_bits, none_of_part}

-- ---- one number

abbrev no_colour : Option ℕ
no_colour = None

colour_of : (colours : Bool) (pairs : List (Option ℕ × Option ℕ)) (pair : ℕ) → pair ≡ 0 → (no_colour ≡ (if colours then (pair_colours pairs pair).0 else None)) × (no_colour ≡ (if colours then (pair_colours pairs pair).1 else None))
colour_of true pairs pair none = (sym (ap (λ p. (pair_colours pairs p).0) none), sym (ap (λ p. (pair_colours pairs p).1) none))
colour_of false pairs pair none = (refl, refl)

seen_of : (charset : Charset) (shown n : ℕ) (colours : Bool) (pairs : List (Option ℕ × Option ℕ)) → IsSeenAsItIs charset n → n < 16777216 → bit_and shown (n / 65536 % 256) ≡ n / 65536 % 256 → look_of n ≡ seen charset shown colours pairs (cell_of n)
seen_of charset shown n colours pairs itself few same =
    let pair : n / 16777216 ≡ 0 = omega (arith, few) in
    let first : n / 65536 / 256 % 16 ≡ 0 = omega (arith, few) in
    let second : n / 65536 / 4096 ≡ 0 = omega (arith, few) in
    let colour = colour_of colours pairs (n / 16777216) pair in
    λ i. record {
      character = sym itself i;
      pen = record { attrs = sym same i; foreground = (ap coded_colour first ∙ colour.0) i; background = (ap coded_colour second ∙ colour.1) i };
    }

number_seen : (charset : Charset) (shown hidden n : ℕ) (looks : Option (List LookView)) (cells : List CellView) (place : ℕ) → HasLimit charset shown hidden → shown_in looks place ≡ look_of n → get_or cells place blank_cell ≡ cell_of n
    → n < 4294967296 → bit_and n hidden ≡ 0 → IsSeenAt charset shown looks cells place
number_seen charset shown hidden n looks cells place limited look cell few none colours pairs =
    let fits = limited.is n (limited.below n few none) in
    look ∙ seen_of charset shown n colours pairs (limited.itself n none) fits.0 fits.1 ∙ sym (ap (seen charset shown colours pairs) cell)

-- ---- as far as a loop has come

less_or_not : (a b : ℕ) → (a < b) ⊎ (b ≤ a)
less_or_not a b = grind arith

more : (P : ℕ → Type 0) (at n : ℕ) → ((i : ℕ) → i < at → P i) → ((k : ℕ) → k < n → P (at + k)) → (i : ℕ) → i < at + n → P i
more P at n before next i up = by (less_or_not i at)
  where
    by : (i < at) ⊎ (at ≤ i) → P i
    by (inl below) = before i below
    by (inr from) = let there : at + (i - at) ≡ i = omega (arith, from) in subst P there (next (i - at) (omega (arith, from, up)))

-- n of eight places more, whose numbers are 0
pub more_seen : (charset : Charset) (shown hidden at n : ℕ) (looks : Option (List LookView)) (cells : List CellView) (xs ys zs : List ℕ) → HasLimit charset shown hidden → ShowsEight looks at xs → HasEight cell_of cells at ys
    → ((k : ℕ) → k < 8 → get_or zs k 0 ≡ 0 → (get_or xs k 0 ≡ get_or ys k 0) × (get_or ys k 0 < 4294967296) × (bit_and (get_or ys k 0) hidden ≡ 0))
    → n ≤ 8 → ((k : ℕ) → k < n → get_or zs k 0 ≡ 0) → ((i : ℕ) → i < at → IsSeenAt charset shown looks cells i) → (i : ℕ) → i < at + n → IsSeenAt charset shown looks cells i
more_seen charset shown hidden at n looks cells xs ys zs limited has_looks has_cells each few zeros before = more (IsSeenAt charset shown looks cells) at n before (λ k up.
    let near : k < 8 = omega (arith, up, few) in
    let same = each k near (zeros k up) in
    number_seen charset shown hidden (get_or ys k 0) looks cells (at + k) limited (has_looks.each k near ∙ ap look_of same.0) (has_cells.each k blank_cell near) same.1 same.2)

-- ---- two numbers

no_colour_of : (n : ℕ) → coded_colour n ≡ None → n ≡ 0
no_colour_of n e = by (nat_eq n 0) refl e
  where
    by : (b : Bool) → nat_eq n 0 ≡ b → (if b then None else Some (n - 1)) ≡ None → n ≡ 0
    by true zero_is some = eqb-true n 0 zero_is
    by false other some = (cc)

-- a look of another number than that of a cell without a pair is not what the terminal shows of the cell
look_number : (x y : ℕ) → y < 16777216 → look_of x ≡ look_of y → x ≡ y
look_number x y few same =
    let character : x % 65536 ≡ y % 65536 = ap (λ look. look.character) same in
    let attrs : x / 65536 % 256 ≡ y / 65536 % 256 = ap (λ look. look.pen.attrs) same in
    let first : y / 65536 / 256 % 16 ≡ 0 = omega (arith, few) in
    let second : y / 65536 / 4096 ≡ 0 = omega (arith, few) in
    let fore : x / 65536 / 256 % 16 ≡ 0 = no_colour_of (x / 65536 / 256 % 16) (ap (λ look. look.pen.foreground) same ∙ ap coded_colour first) in
    let back : x / 65536 / 4096 ≡ 0 = no_colour_of (x / 65536 / 4096) (ap (λ look. look.pen.background) same ∙ ap coded_colour second) in
    omega (arith, character, attrs, fore, back, few)

unlike_unseen : (charset : Charset) (shown base kept one other : ℕ) (looks : Option (List LookView)) (cells : List CellView) (place : ℕ) → HasBase shown cells base → KeepsRendition charset kept → shown_in looks place ≡ look_of one → get_or cells place blank_cell ≡ cell_of other → one ≢ other
    → other < 4294967296 → bit_and other kept ≡ base → IsUnseenAt charset shown looks cells place
unlike_unseen charset shown base kept one other looks cells place has keeps look cell unlike few is colours pairs same =
    let above = keeps.each other base few (omega (arith, has.is)) is in
    let fits = has.shows other above.0 above.1 in
    unlike (look_number one other fits.0 (sym look ∙ same ∙ ap (seen charset shown colours pairs) cell ∙ sym (seen_of charset shown other colours pairs above.2 fits.0 fits.1)))

between_alike : (base first n : ℕ) (cells : List CellView) (place : ℕ) → get_or cells 0 blank_cell ≡ cell_of first → base ≡ first / 65536 * 65536 → get_or cells place blank_cell ≡ cell_of n → base ≤ n → n < base + 65536 → HasRendition (get_or cells 0 blank_cell) cells place
between_alike base first n cells place is_first is_base is from below =
    let same : n / 65536 ≡ first / 65536 = omega (arith, is_base, from, below) in
    let pairs : n / 16777216 ≡ first / 16777216 = omega (arith, same) in
    record {
      attrs = ap (λ cell. cell.attrs) is ∙ ap (λ k. k % 256) same ∙ sym (ap (λ cell. cell.attrs) is_first);
      pair = ap (λ cell. cell.pair) is ∙ pairs ∙ sym (ap (λ cell. cell.pair) is_first);
    }

-- ---- as far as a loop has come, among those

pub more_unlike : (charset : Charset) (shown base kept at n : ℕ) (looks : Option (List LookView)) (cells : List CellView) (xs ys zs : List ℕ) → HasBase shown cells base → KeepsRendition charset kept → ShowsEight looks at xs → HasEight cell_of cells at ys
    → ((k : ℕ) → k < 8 → get_or zs k 0 ≡ 0 → (get_or xs k 0 ≢ get_or ys k 0) × (get_or ys k 0 < 4294967296) × (bit_and (get_or ys k 0) kept ≡ base))
    → n ≤ 8 → ((k : ℕ) → k < n → get_or zs k 0 ≡ 0) → ((i : ℕ) → i < at → IsUnseenAt charset shown looks cells i) → (i : ℕ) → i < at + n → IsUnseenAt charset shown looks cells i
more_unlike charset shown base kept at n looks cells xs ys zs has keeps has_looks has_cells each few zeros before = more (IsUnseenAt charset shown looks cells) at n before (λ k up.
    let near : k < 8 = omega (arith, up, few) in
    let is = each k near (zeros k up) in
    unlike_unseen charset shown base kept (get_or xs k 0) (get_or ys k 0) looks cells (at + k) has keeps (has_looks.each k near) (has_cells.each k blank_cell near) is.0 is.1 is.2)

pub more_between : (base first at n : ℕ) (cells : List CellView) (xs zs : List ℕ) → get_or cells 0 blank_cell ≡ cell_of first → base ≡ first / 65536 * 65536 → HasEight cell_of cells at xs
    → ((k : ℕ) → k < 8 → get_or zs k 0 ≡ 0 → (base ≤ get_or xs k 0) × (get_or xs k 0 < base + 65536))
    → n ≤ 8 → ((k : ℕ) → k < n → get_or zs k 0 ≡ 0) → ((i : ℕ) → i < at → HasRendition (get_or cells 0 blank_cell) cells i) → (i : ℕ) → i < at + n → HasRendition (get_or cells 0 blank_cell) cells i
more_between base first at n cells xs zs is_first is_base has each few zeros before = more (HasRendition (get_or cells 0 blank_cell) cells) at n before (λ k up.
    let near : k < 8 = omega (arith, up, few) in
    let is = each k near (zeros k up) in
    between_alike base first (get_or xs k 0) cells (at + k) is_first is_base (has.each k blank_cell near) is.0 is.1)

pub more_alike : (charset : Charset) (shown base kept at n : ℕ) (cells : List CellView) (xs ys zs : List ℕ) → HasBase shown cells base → KeepsRendition charset kept → HasEight cell_of cells at ys
    → ((k : ℕ) → k < 8 → get_or zs k 0 ≡ 0 → (get_or xs k 0 ≢ get_or ys k 0) × (get_or ys k 0 < 4294967296) × (bit_and (get_or ys k 0) kept ≡ base))
    → n ≤ 8 → ((k : ℕ) → k < n → get_or zs k 0 ≡ 0) → ((i : ℕ) → i < at → HasRendition (get_or cells 0 blank_cell) cells i) → (i : ℕ) → i < at + n → HasRendition (get_or cells 0 blank_cell) cells i
more_alike charset shown base kept at n cells xs ys zs has keeps has_cells each =
    more_between base has.first at n cells ys zs has.cell has.is has_cells (λ k near none.
    let is = each k near none in
    let above = keeps.each (get_or ys k 0) base is.1 (omega (arith, has.is)) is.2 in
    (above.0, above.1))

-- ---- the base

pub first_in : (cells : List CellView) (n : ℕ) (cell : CellView) → 0 < length cells → cell_of n ≡ cell → cell ≡ get_or cells 0 cell → get_or cells 0 blank_cell ≡ cell_of n
first_in cells n cell some back is = get_or_default cells 0 blank_cell cell some ∙ sym is ∙ sym back

-- ---- the limits

attributes_below : (shown : ℕ) → shown ≡ 127 → IsLimit shown 8388608
attributes_below shown all n below =
    let attrs : ℕ = n / 65536 % 256 in
    let few : attrs % 128 ≡ attrs = omega (arith, below) in
    (omega (arith, below), ap (λ s. bit_and s attrs) all ∙ and_comm 127 attrs ∙ and_mask attrs 7 ∙ few)

no_attributes_below : (shown : ℕ) → IsLimit shown 65536
no_attributes_below shown n below = (omega (arith, below), omega (arith, below, and_le_r shown (n / 65536 % 256)))

ascii_itself : (n : ℕ) → n % 65536 < 128 → IsSeenAsItIs Ascii n
ascii_itself n few = seen_as_itself Ascii (n % 65536) few

utf8_itself : (n : ℕ) → IsSeenAsItIs Utf8 n
utf8_itself n = seen_in_utf8 (n % 65536)

limit_of_all_here : (shown : ℕ) → shown ≡ 127 → HasLimit Utf8 shown 4286578688
limit_of_all_here shown all = record { limit = 8388608; is = attributes_below shown all; whole = refl; below = below_pairs; itself = λ n none. utf8_itself n }

limit_of_none_here : (shown : ℕ) → HasLimit Utf8 shown 4294901760
limit_of_none_here shown = record { limit = 65536; is = no_attributes_below shown; whole = refl; below = below_attributes; itself = λ n none. utf8_itself n }

limit_of_all_ascii_here : (shown : ℕ) → shown ≡ 127 → HasLimit Ascii shown 4286644096
limit_of_all_ascii_here shown all = record {
  limit = 8388608;
  is = attributes_below shown all;
  whole = refl;
  below = λ n few none. below_pairs n few (none_of_part n 4286644096 4286578688 refl none);
  itself = λ n none. ascii_itself n (below_ascii n (none_of_part n 4286644096 65408 refl none));
}

limit_of_no_ascii_here : (shown : ℕ) → HasLimit Ascii shown 4294967168
limit_of_no_ascii_here shown = record {
  limit = 65536;
  is = no_attributes_below shown;
  whole = refl;
  below = λ n few none. below_attributes n few (none_of_part n 4294967168 4294901760 refl none);
  itself = λ n none. ascii_itself n (below_ascii n (none_of_part n 4294967168 65408 refl none));
}

keeps_in_utf8_here : KeepsRendition Utf8 4294901760
keeps_in_utf8_here = record { each = λ n base few whole is. let above = kept_above_character n base few is in (above.0, above.1, utf8_itself n) }

keeps_in_ascii_here : KeepsRendition Ascii 4294967168
keeps_in_ascii_here = record {
  each = λ n base few whole is.
      let above = kept_above_seven_bits n base few is in
      let from : base ≤ n = above.0 in
      let below : n < base + 128 = above.1 in
      (from, omega (arith, below), ascii_itself n (omega (arith, whole, from, below)));
}

-- ---- the same of a charset that is one of the two

pub limit_of_all : (charset : Charset) (shown : ℕ) → charset ≡ Utf8 → shown ≡ 127 → HasLimit charset shown 4286578688
limit_of_all charset shown is all = subst (λ c. HasLimit c shown 4286578688) (sym is) (limit_of_all_here shown all)

pub limit_of_none : (charset : Charset) (shown : ℕ) → charset ≡ Utf8 → HasLimit charset shown 4294901760
limit_of_none charset shown is = subst (λ c. HasLimit c shown 4294901760) (sym is) (limit_of_none_here shown)

pub limit_of_all_ascii : (charset : Charset) (shown : ℕ) → charset ≡ Ascii → shown ≡ 127 → HasLimit charset shown 4286644096
limit_of_all_ascii charset shown is all = subst (λ c. HasLimit c shown 4286644096) (sym is) (limit_of_all_ascii_here shown all)

pub limit_of_no_ascii : (charset : Charset) (shown : ℕ) → charset ≡ Ascii → HasLimit charset shown 4294967168
limit_of_no_ascii charset shown is = subst (λ c. HasLimit c shown 4294967168) (sym is) (limit_of_no_ascii_here shown)

pub keeps_in_utf8 : (charset : Charset) → charset ≡ Utf8 → KeepsRendition charset 4294901760
keeps_in_utf8 charset is = subst (λ c. KeepsRendition c 4294901760) (sym is) keeps_in_utf8_here

pub keeps_in_ascii : (charset : Charset) → charset ≡ Ascii → KeepsRendition charset 4294967168
keeps_in_ascii charset is = subst (λ c. KeepsRendition c 4294967168) (sym is) keeps_in_ascii_here
