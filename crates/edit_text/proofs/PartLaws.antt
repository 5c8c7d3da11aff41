-- Characters above ASCII that take one column, and the parts of bytes.
use Rattle.std.proofs.Common.{◌≡◌, ◌≢◌, ◌∙◌, ◌⊎◌, inl, inr, ℕ, ◌+◌, ◌-◌, ◌/◌, ◌%◌, ◌<◌, ◌≤◌, ◌==◌, ◌&&◌, ◌||◌, Bool, true, false, nat_le, nat_lt, List, [], ◌∷◌, ◌++◌, get_or, length, take, drop, Some, None, MatchBool, encode_utf8, refl, sym, ap, subst, arith, length-append}
use Rattle.std.proofs.lemmas.Bool.{and_parts}
use Rattle.std.proofs.lemmas.Bool.Decides.{nat_tests}
use Rattle.std.proofs.lemmas.List.{append-nil, drop-drop, drop_at, length-drop, same_from_push, take-append-drop}
use Rattle.std.proofs.lemmas.Slice.{between_to_end}
use Rattle.std.proofs.str.Laws.{Follows, four, one, order, three, two}
use Rattle.std.specs.Char.{IsScalar}
use Rattle.bstr.specs.Utf8.{decoded}
use Rattle.bstr.proofs.lemmas.EncodeLemmas.{decoded-encode}
use Rattle.bstr.proofs.lemmas.SoundLemmas.{SpellsChar-decoded}
use Rattle.scr_cells.specs.Characters.{is_beyond_ascii}
use Rattle.edit_text.specs.Laws.{BeginsWhole, OccurBetweenParts}
use Rattle.edit_text.specs.Lines.{has_line_feed, line_at}
use Rattle.edit_text.specs.Parts.{BeginsWith, EndsWith, IsBetween, IsWithin}

-- ---- such characters

in_ranges : (code : ℕ) (rest : Bool) → (((nat_le 160 code && nat_le code 55295) || (nat_le 57344 code && nat_le code 65535)) && rest) ≡ true → (128 ≤ code) × (code < 65536) × IsScalar code
in_ranges code rest e =
    let ranges = (and_parts ((nat_le 160 code && nat_le code 55295) || (nat_le 57344 code && nat_le code 65535)) rest e).0 in
    (grind (arith, nat_tests), grind (arith, nat_tests), grind (arith, nat_tests))

beyond : (code : ℕ) → is_beyond_ascii code ≡ true → (128 ≤ code) × (code < 65536) × IsScalar code
unfolding is_beyond_ascii
beyond code e = in_ranges code _ e

-- their bytes: two or three, and the first is no less than 192
data Bytes (c : ℕ) : Type 0 where
  Two : (a b : ℕ) → 192 ≤ a → Follows b → encode_utf8 c ≡ a ∷ b ∷ [] → Bytes c
  Three : (a b d : ℕ) → 192 ≤ a → Follows b → Follows d → encode_utf8 c ≡ a ∷ b ∷ d ∷ [] → Bytes c

follows : (x : ℕ) → Follows (128 + x % 64)
follows x = (omega arith, omega arith)

bytes : (c : ℕ) → is_beyond_ascii c ≡ true → Bytes c
bytes c e = by (beyond c e) (order c 2048)
  where
    by : (128 ≤ c) × (c < 65536) × IsScalar c → (c < 2048) ⊎ (2048 ≤ c) → Bytes c
    by range (inl few) = Two (192 + c / 64) (128 + c % 64) (omega arith) (follows c) (two c range.0 few)
    by range (inr many) = Three (224 + c / 4096) (128 + (c / 64) % 64) (128 + c % 64) (omega arith) (follows (c / 64)) (follows c) (three c many range.1)

-- two bytes or three
pub count_of : (c : ℕ) → is_beyond_ascii c ≡ true → (length (encode_utf8 c) ≡ 2) ⊎ (length (encode_utf8 c) ≡ 3)
count_of c e = by (bytes c e)
  where
    by : Bytes c → (length (encode_utf8 c) ≡ 2) ⊎ (length (encode_utf8 c) ≡ 3)
    by (Two a b l f is) = inl (ap length is)
    by (Three a b d l f g is) = inr (ap length is)

-- the bytes of a line feed are the only ones with a line feed among them
pub feed_is : (c : ℕ) → (c == 10) ≡ has_line_feed (encode_utf8 c)
feed_is c = by (order c 128) (order c 2048) (order c 65536)
  where
    other : (byte : ℕ) → 128 ≤ byte → (byte == 10) ≡ false
    other byte high = grind (arith, nat_tests)

    or_false : (t : Bool) → t ≡ (t || false)
    or_false true = refl
    or_false false = refl

    by : (c < 128) ⊎ (128 ≤ c) → (c < 2048) ⊎ (2048 ≤ c) → (c < 65536) ⊎ (65536 ≤ c) → (c == 10) ≡ has_line_feed (encode_utf8 c)
    by (inl low) _ _ = or_false (c == 10) ∙ ap has_line_feed (sym (one c low))
    by (inr high) (inl few) _ =
        let a : ((192 + c / 64) == 10) ≡ false = other (192 + c / 64) (omega arith) in
        let b : ((128 + c % 64) == 10) ≡ false = other (128 + c % 64) (omega arith) in
        other c high ∙ sym (ap has_line_feed (two c high few) ∙ (λ i. a i || (b i || false)))
    by (inr high) (inr more) (inl few) =
        let a : ((224 + c / 4096) == 10) ≡ false = other (224 + c / 4096) (omega arith) in
        let b : ((128 + (c / 64) % 64) == 10) ≡ false = other (128 + (c / 64) % 64) (omega arith) in
        let d : ((128 + c % 64) == 10) ≡ false = other (128 + c % 64) (omega arith) in
        other c high ∙ sym (ap has_line_feed (three c more few) ∙ (λ i. a i || (b i || (d i || false))))
    by (inr high) (inr more) (inr most) =
        let a : ((240 + c / 262144) == 10) ≡ false = other (240 + c / 262144) (omega arith) in
        let b : ((128 + (c / 4096) % 64) == 10) ≡ false = other (128 + (c / 4096) % 64) (omega arith) in
        let d : ((128 + (c / 64) % 64) == 10) ≡ false = other (128 + (c / 64) % 64) (omega arith) in
        let e : ((128 + c % 64) == 10) ≡ false = other (128 + c % 64) (omega arith) in
        other c high ∙ sym (ap has_line_feed (four c most) ∙ (λ i. a i || (b i || (d i || (e i || false)))))

-- ---- the first part

-- no such character begins with a byte of ASCII
pub low_begins_none : (xs rest : List ℕ) (byte : ℕ) → xs ≡ byte ∷ rest → byte < 128 → (c : ℕ) → ¬ BeginsWith xs c
low_begins_none xs rest byte is low c begins = by (bytes c begins.one_column)
  where
    first : (a : ℕ) (more : List ℕ) → 192 ≤ a → encode_utf8 c ≡ a ∷ more → ⊥
    first a more high spelled =
        let all : byte ∷ rest ≡ a ∷ (more ++ begins.rest) = sym is ∙ begins.bytes_are ∙ ap (λ l. l ++ begins.rest) spelled in
        let same : byte ≡ a = cc in
        omega (arith, same, high, low)

    by : Bytes c → ⊥
    by (Two a b l f spelled) = first a _ l spelled
    by (Three a b d l f g spelled) = first a _ l spelled

-- what is decoded
pub begins_decoded : (xs : List ℕ) (c : ℕ) → (decoded xs).char ≡ Some c → is_beyond_ascii c ≡ true → BeginsWith xs c
begins_decoded xs c e b = record { one_column = b; rest = drop (decoded xs).size xs; bytes_are = (SpellsChar-decoded xs c e).bytes }

pub decoded_begins : (xs : List ℕ) (c : ℕ) → BeginsWith xs c → (decoded xs).char ≡ Some c
decoded_begins xs c begins = ap (λ l. (decoded l).char) begins.bytes_are ∙ ap (λ d. d.char) (decoded-encode c begins.rest (beyond c begins.one_column).2)

pub none_decoded : (xs : List ℕ) → (decoded xs).char ≡ None → (c : ℕ) → ¬ BeginsWith xs c
none_decoded xs e c begins = let found = decoded_begins xs c begins in (cc)

pub other_decoded : (xs : List ℕ) (d : ℕ) → (decoded xs).char ≡ Some d → is_beyond_ascii d ≡ false → (c : ℕ) → ¬ BeginsWith xs c
other_decoded xs d e other c begins =
    let found = decoded_begins xs c begins in
    let same : d ≡ c = (cc) in
    let yes : is_beyond_ascii d ≡ true = ap is_beyond_ascii same ∙ begins.one_column in
    (cc)

-- there is one such character at most
pub begins_same : (xs : List ℕ) (c d : ℕ) → BeginsWith xs c → BeginsWith xs d → c ≡ d
begins_same xs c d b k = let f = decoded_begins xs c b in let g = decoded_begins xs d k in (cc)

-- the rest of some bytes, as a slice of them
pub rest_begins : (xs : List ℕ) (i c : ℕ) → BeginsWith (take (length xs - i) (drop i xs)) c → BeginsWith (drop i xs) c
rest_begins xs i c = subst (λ r. BeginsWith r c) (between_to_end xs i (length xs) (omega arith))

pub rest_begins_none : (xs : List ℕ) (i : ℕ) → ((c : ℕ) → ¬ BeginsWith (take (length xs - i) (drop i xs)) c) → (c : ℕ) → ¬ BeginsWith (drop i xs) c
rest_begins_none xs i none c begins = none c (subst (λ r. BeginsWith r c) (sym (between_to_end xs i (length xs) (omega arith))) begins)

-- ---- the last part

-- no such character ends with a byte of ASCII
pub low_ends_none : (xs front : List ℕ) (byte : ℕ) → xs ≡ front ++ byte ∷ [] → byte < 128 → (c : ℕ) → ¬ EndsWith xs c
low_ends_none xs front byte is low c ends = by (bytes c ends.one_column)
  where
    assoc : (xs ys zs : List ℕ) → xs ++ (ys ++ zs) ≡ (xs ++ ys) ++ zs
    assoc [] ys zs = refl
    assoc (x ∷ xs) ys zs = ap (λ l. x ∷ l) (assoc xs ys zs)

    last : (before : List ℕ) (b : ℕ) → Follows b → encode_utf8 c ≡ before ++ b ∷ [] → ⊥
    last before b follows spelled =
        let all : front ++ byte ∷ [] ≡ (ends.front ++ before) ++ b ∷ [] = sym is ∙ ends.bytes_are ∙ ap (λ l. ends.front ++ l) spelled ∙ assoc ends.front before (b ∷ []) in
        let same : byte ≡ b = (same_from_push front (ends.front ++ before) byte b all).1 in
        omega (arith, same, low, follows.0)

    by : Bytes c → ⊥
    by (Two a b l f spelled) = last (a ∷ []) b f spelled
    by (Three a b d l f g spelled) = last (a ∷ b ∷ []) d g spelled

-- bytes that end with a character, cut before it, begin with it
tail_begins : (xs : List ℕ) (c n : ℕ) → EndsWith xs c → length (encode_utf8 c) ≡ n → BeginsWith (drop (length xs - n) xs) c
tail_begins xs c n ends len =
    let start : length ends.front ≡ length xs - n = omega (arith, len, ap length ends.bytes_are, length-append ends.front (encode_utf8 c)) in
    record {
      one_column = ends.one_column;
      rest = [];
      bytes_are = ap (drop (length xs - n)) ends.bytes_are ∙ drop_at ends.front (encode_utf8 c) (length xs - n) start ∙ sym (append-nil (encode_utf8 c));
    }

pub short_ends_none : (xs : List ℕ) (n : ℕ) → length xs < n → (c : ℕ) → EndsWith xs c → length (encode_utf8 c) ≢ n
short_ends_none xs n short c ends len = omega (arith, short, len, ap length ends.bytes_are, length-append ends.front (encode_utf8 c))

pub none_ends_none : (xs : List ℕ) (n : ℕ) → ((c : ℕ) → ¬ BeginsWith (drop (length xs - n) xs) c) → (c : ℕ) → EndsWith xs c → length (encode_utf8 c) ≢ n
none_ends_none xs n none c ends len = none c (tail_begins xs c n ends len)

pub other_ends_none : (xs : List ℕ) (n d : ℕ) → BeginsWith (drop (length xs - n) xs) d → length (encode_utf8 d) ≢ n → (c : ℕ) → EndsWith xs c → length (encode_utf8 c) ≢ n
other_ends_none xs n d begins other c ends len =
    let same : d ≡ c = begins_same _ d c begins (tail_begins xs c n ends len) in
    other (ap (λ x. length (encode_utf8 x)) same ∙ len)

pub ends_with : (xs : List ℕ) (n c : ℕ) → n ≤ length xs → BeginsWith (drop (length xs - n) xs) c → length (encode_utf8 c) ≡ n → EndsWith xs c
ends_with xs n c fits begins len =
    record {
      one_column = begins.one_column;
      front = take (length xs - n) xs;
      bytes_are = sym (take-append-drop (length xs - n) xs) ∙ ap (λ l. take (length xs - n) xs ++ l) (begins.bytes_are ∙ ap (λ l. encode_utf8 c ++ l) none ∙ append-nil (encode_utf8 c));
    }
  where
    empty : (l : List ℕ) → length l ≤ 0 → l ≡ []
    empty [] few = refl
    empty (x ∷ l) few = absurd (omega (arith, few))

    none : begins.rest ≡ []
    none = empty begins.rest (omega (arith, fits, len, ap length begins.bytes_are, length-append (encode_utf8 c) begins.rest, length-drop (length xs - n) xs))

-- a character of neither two bytes nor three is none
pub neither_ends : (xs : List ℕ) → ((c : ℕ) → EndsWith xs c → length (encode_utf8 c) ≢ 2) → ((c : ℕ) → EndsWith xs c → length (encode_utf8 c) ≢ 3) → (c : ℕ) → ¬ EndsWith xs c
neither_ends xs two three c ends = by (count_of c ends.one_column)
  where
    by : (length (encode_utf8 c) ≡ 2) ⊎ (length (encode_utf8 c) ≡ 3) → ⊥
    by (inl e) = two c ends e
    by (inr e) = three c ends e

-- ---- columns within characters

-- past the end of a line no character begins
pub past_none : (line : List ℕ) (start column : ℕ) → length line ≤ start → ¬ IsWithin line start column
past_none line start column past within = by (count_of within.character within.begins.one_column)
  where
    by : (length (encode_utf8 within.character) ≡ 2) ⊎ (length (encode_utf8 within.character) ≡ 3) → ⊥
    by (inl e) = omega (arith, e, past, ap length within.begins.bytes_are, length-append (encode_utf8 within.character) within.begins.rest, length-drop start line)
    by (inr e) = omega (arith, e, past, ap length within.begins.bytes_are, length-append (encode_utf8 within.character) within.begins.rest, length-drop start line)

pub none_within : (line : List ℕ) (start column : ℕ) → ((c : ℕ) → ¬ BeginsWith (drop start line) c) → ¬ IsWithin line start column
none_within line start column none within = none within.character within.begins

pub begins_within : (line : List ℕ) (start column c : ℕ) → start < column → BeginsWith (drop start line) c → MatchBool (nat_lt (column - start) (length (encode_utf8 c))) (IsWithin line start column) (¬ IsWithin line start column)
begins_within line start column c after begins = by (nat_lt (column - start) (length (encode_utf8 c))) refl
  where
    short : (a n : ℕ) → nat_lt a n ≡ true → a < n
    short a n e = grind (arith, nat_tests)

    long : (a n : ℕ) → nat_lt a n ≡ false → n ≤ a
    long a n e = grind (arith, nat_tests)

    by : (t : Bool) → nat_lt (column - start) (length (encode_utf8 c)) ≡ t → MatchBool t (IsWithin line start column) (¬ IsWithin line start column)
    by true e = record { character = c; begins = begins; after = after; before = omega (arith, after, short (column - start) (length (encode_utf8 c)) e) }
    by false e = λ within.
        let same : within.character ≡ c = begins_same _ within.character c within.begins begins in
        omega (arith, within.before, after, long (column - start) (length (encode_utf8 c)) e, ap (λ x. length (encode_utf8 x)) same)

-- a column within a character is less than three behind its beginning
pub near : (line : List ℕ) (start column : ℕ) → IsWithin line start column → (start < column) × (column ≤ start + 2)
near line start column within = by (count_of within.character within.begins.one_column)
  where
    by : (length (encode_utf8 within.character) ≡ 2) ⊎ (length (encode_utf8 within.character) ≡ 3) → (start < column) × (column ≤ start + 2)
    by (inl e) = (within.after, omega (arith, within.before, e))
    by (inr e) = (within.after, omega (arith, within.before, e))

-- no column up to one is the beginning of a character that another column is within
abbrev pub AreNoneWithin : List ℕ → ℕ → ℕ → Type 0
AreNoneWithin line column end = (start : ℕ) → start < end → ¬ IsWithin line start column

pub none_yet : (line : List ℕ) (column end : ℕ) → end ≤ column - 2 → AreNoneWithin line column end
none_yet line column end few start l within = let by = near line start column within in omega (arith, by.0, by.1, few, l)

pub is_between : (line : List ℕ) (column end : ℕ) → column ≤ end → AreNoneWithin line column end → IsBetween line column column
is_between line column end all none = inl (refl, λ start within. none start (omega (arith, all, within.after)) within)

-- ---- where characters occur

-- a column within a character is at a byte that follows another
byte_within : (line : List ℕ) (start column : ℕ) → IsWithin line start column → (b : ℕ) × (more : List ℕ) × (drop column line ≡ b ∷ more) × Follows b
byte_within line start column within = by (bytes within.character within.begins.one_column)
  where
    at : (n : ℕ) (all : List ℕ) → column ≡ start + n → encode_utf8 within.character ≡ all → drop column line ≡ drop n (all ++ within.begins.rest)
    at n all e is = ap (λ k. drop k line) e ∙ sym (drop-drop n start line) ∙ ap (drop n) (within.begins.bytes_are ∙ ap (λ l. l ++ within.begins.rest) is)

    by : Bytes within.character → (b : ℕ) × (more : List ℕ) × (drop column line ≡ b ∷ more) × Follows b
    by (Two a b l f is) = (b, within.begins.rest, at 1 (a ∷ b ∷ []) (omega (arith, within.after, within.before, ap length is)) is, f)
    by (Three a b d l f g is) = either (order column (start + 2))
      where
        either : (column < start + 2) ⊎ (start + 2 ≤ column) → (b : ℕ) × (more : List ℕ) × (drop column line ≡ b ∷ more) × Follows b
        either (inl few) = (b, d ∷ within.begins.rest, at 1 (a ∷ b ∷ d ∷ []) (omega (arith, within.after, few)) is, f)
        either (inr more) = (d, within.begins.rest, at 2 (a ∷ b ∷ d ∷ []) (omega (arith, within.before, more, ap length is)) is, g)

same_first : (all : List ℕ) (f : ℕ) (rest : List ℕ) (b : ℕ) (more : List ℕ) → all ≡ f ∷ rest → take (length all) (b ∷ more) ≡ all → b ≡ f
same_first all f rest b more e h = ap (λ l. get_or l 0 0) (ap (λ l. take (length l) (b ∷ more)) (sym e) ∙ h ∙ e)

pub occur_between : OccurBetweenParts
occur_between lines all place whole stands start within = by whole
  where
    here : (b : ℕ) × (more : List ℕ) × (drop place.column (line_at lines place.line) ≡ b ∷ more) × Follows b
    here = byte_within (line_at lines place.line) start place.column within

    first : (f : ℕ) (rest : List ℕ) → all ≡ f ∷ rest → here.0 ≡ f
    first f rest e = same_first all f rest here.0 here.1 e (ap (take (length all)) (sym here.2) ∙ stands.there)

    spelled : (c : ℕ) → BeginsWith all c → Bytes c → ⊥
    spelled c begins (Two a b l f is) = omega (arith, l, here.3.1, first a _ (begins.bytes_are ∙ ap (λ l. l ++ begins.rest) is))
    spelled c begins (Three a b d l f g is) = omega (arith, l, here.3.1, first a _ (begins.bytes_are ∙ ap (λ l. l ++ begins.rest) is))

    by : BeginsWhole all → ⊥
    by (inl h) = spelled h.0 h.1 (bytes h.0 h.1.one_column)
    by (inr h) = omega (arith, h.3, here.3.0, first h.0 h.1 h.2)
