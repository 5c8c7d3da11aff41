-- The rules of what is typed: nothing is lost, they have one answer, and what arrives may come in pieces.
use Rattle.std.proofs.Common.{◌≡◌, ◌∙◌, ℕ, ◌<◌, ◌≤◌, refl, ap, sym, subst, arith, zero, suc, length, List, [], ◌∷◌, ◌++◌, append_assoc}
use lib.Utf8.{encode}
use Rattle.std.proofs.lemmas.List.{append-nil, length-append}
use Rattle.std.proofs.lemmas.Str.{encode_same, len_utf8_bounds, length-encode}
use Rattle.scr_keys.specs.declared.keys.Key.TheVariants as keys
use Rattle.scr_keys.specs.declared.typing.Typed.{Typed}
use Rattle.scr_keys.specs.declared.typing.Typed.TheVariants as typed
use Rattle.scr_keys.specs.Typing.{Alone, AreTyped, Arrival, BeginsSequence, Came, CanWait, Idled, IsBegun, IsMultibyte, Joined, Nothing, Paused, Pressed, Waiting, came}
use Rattle.scr_keys.specs.TypingLaws.{LosesNothing, TypedInOneWay, TypedInPieces, WaitsForMore, as_bytes, keys_of, spelled}
use Rattle.scr_keys.proofs.SequenceLaws.{begun_short, lead, not_inside}
use Rattle.scr_keys.proofs.TypingLaws.{agree, came-append}

-- ---- nothing is lost

keys_of-came : (bytes : List ℕ) (later : List Arrival) → as_bytes bytes ++ keys_of later ≡ keys_of (came bytes ++ later)
keys_of-came [] later = refl
keys_of-came (x ∷ bytes) later = ap (λ l. keys.Byte x ∷ l) (keys_of-came bytes later)

pub loses_nothing : LosesNothing
loses_nothing arrivals read left Nothing = refl
loses_nothing arrivals read left (Waiting bytes begun) = sym (append-nil (as_bytes bytes)) ∙ keys_of-came bytes [] ∙ ap keys_of (append-nil (came bytes))
loses_nothing arrivals read left (Joined c later others rest multibyte is) =
    append_assoc (as_bytes (encode c)) (spelled others) (as_bytes rest) ∙ ap (λ l. as_bytes (encode c) ++ l) (loses_nothing later others rest is) ∙ keys_of-came (encode c) later
loses_nothing arrivals read left (Alone byte later others rest none is) = ap (λ l. keys.Byte byte ∷ l) (loses_nothing later others rest is)
loses_nothing arrivals read left (Pressed slot later others rest is) = ap (λ l. keys.Slot slot ∷ l) (loses_nothing later others rest is)
loses_nothing arrivals read left (Paused later others rest is) = loses_nothing later others rest is

-- ---- pieces

pub in_pieces : TypedInPieces
in_pieces first second read more waiting left Nothing then_typed = then_typed
in_pieces first second read more waiting left (Waiting bytes begun) then_typed = then_typed
in_pieces first second read more waiting left (Joined c later others rest multibyte is) then_typed =
    subst (λ l. AreTyped l (typed.Character c ∷ (others ++ more)) left) (sym (append_assoc (came (encode c)) later second)) (Joined c (later ++ second) (others ++ more) left multibyte (in_pieces later second others more rest left is then_typed))
in_pieces first second read more waiting left (Alone byte later others rest none is) then_typed =
    Alone byte (later ++ second) (others ++ more) left (λ begins. none (longer begins)) (in_pieces later second others more rest left is then_typed)
  where
    longer : BeginsSequence (Came (keys.Byte byte) ∷ (later ++ second)) → BeginsSequence (Came (keys.Byte byte) ∷ later)
    longer begins = record {
      character = begins.character;
      next = second ++ begins.next;
      rest = begins.rest;
      multibyte = begins.multibyte;
      sequence = ap (λ l. Came (keys.Byte byte) ∷ l) (sym (append_assoc later second begins.next)) ∙ begins.sequence;
    }
in_pieces first second read more waiting left (Pressed slot later others rest is) then_typed = Pressed slot (later ++ second) (others ++ more) left (in_pieces later second others more rest left is then_typed)
in_pieces first second read more waiting left (Paused later others rest is) then_typed = Paused (later ++ second) (others ++ more) left (in_pieces later second others more rest left is then_typed)

-- ---- what waits

can_wait : (bytes : List ℕ) → IsBegun bytes → CanWait bytes
can_wait [] begun = tt
can_wait (x ∷ bytes) begun = begun

left_waits : (arrivals : List Arrival) (read : List Typed) (left : List ℕ) → AreTyped arrivals read left → CanWait left
left_waits arrivals read left Nothing = tt
left_waits arrivals read left (Waiting bytes begun) = can_wait bytes begun
left_waits arrivals read left (Joined c later others rest multibyte is) = left_waits later others rest is
left_waits arrivals read left (Alone byte later others rest none is) = left_waits later others rest is
left_waits arrivals read left (Pressed slot later others rest is) = left_waits later others rest is
left_waits arrivals read left (Paused later others rest is) = left_waits later others rest is

pub waits_for_more : WaitsForMore
waits_for_more arrivals read left is = let waits = left_waits arrivals read left is in (waits, begun_short left waits)

-- ---- one answer

-- how a byte in front is typed
data ByteRead (byte : ℕ) (later : List Arrival) (read : List Typed) (left : List ℕ) : Type 0 where
  waits : (bytes : List ℕ) → IsBegun (byte ∷ bytes) → later ≡ came bytes → read ≡ [] → left ≡ byte ∷ bytes → ByteRead byte later read left
  joins : (c : ℕ) (behind : List Arrival) (others : List Typed) → IsMultibyte c → Came (keys.Byte byte) ∷ later ≡ came (encode c) ++ behind → read ≡ typed.Character c ∷ others → AreTyped behind others left
      → ByteRead byte later read left
  alone : (others : List Typed) → ¬ (BeginsSequence (Came (keys.Byte byte) ∷ later)) → read ≡ typed.Byte byte ∷ others → AreTyped later others left → ByteRead byte later read left

-- how what arrives is typed, by what arrives first
ReadBy : List Arrival → List Typed → List ℕ → Type 0
ReadBy [] read left = (read ≡ []) × (left ≡ [])
ReadBy (Idled ∷ later) read left = AreTyped later read left
ReadBy (Came (keys.Slot slot) ∷ later) read left = (others : List Typed) × (read ≡ typed.Key slot ∷ others) × AreTyped later others left
ReadBy (Came (keys.Byte byte) ∷ later) read left = ByteRead byte later read left

read_by : (arrivals : List Arrival) (read : List Typed) (left : List ℕ) → AreTyped arrivals read left → ReadBy arrivals read left
unfolding ReadBy
read_by arrivals read left Nothing = (refl, refl)
read_by arrivals read left (Waiting bytes begun) = by bytes begun
  where
    by : (l : List ℕ) → IsBegun l → ReadBy (came l) [] l
    by [] b = (refl, refl)
    by (x ∷ l) b = waits l b refl refl refl
read_by arrivals read left (Joined c later others rest multibyte is) =
    let row = lead c multibyte in
    subst (λ e. ReadBy (came e ++ later) (typed.Character c ∷ others) rest) (sym row.sequence) (joins c later others multibyte (ap (λ e. came e ++ later) (sym row.sequence)) refl is)
read_by arrivals read left (Alone byte later others rest none is) = alone others none refl is
read_by arrivals read left (Pressed slot later others rest is) = (others, refl, is)
read_by arrivals read left (Paused later others rest is) = is

came_same : (xs ys : List ℕ) → came xs ≡ came ys → xs ≡ ys
came_same [] [] is = refl
came_same [] (y ∷ ys) is = absurd (omega (arith, ap length is))
came_same (x ∷ xs) [] is = absurd (omega (arith, ap length is))
came_same (x ∷ xs) (y ∷ ys) is =
    let heads : x ≡ y = cc in
    let tails : came xs ≡ came ys = cc in
    let rest = came_same xs ys tails in
    (λ i. heads i ∷ rest i)

-- a beginning as bytes alone
came_front : (xs ys : List ℕ) (r : List Arrival) → came xs ≡ came ys ++ r → (l : List ℕ) × (xs ≡ ys ++ l)
came_front xs [] r is = (xs, refl)
came_front [] (y ∷ ys) r is = absurd (omega (arith, ap length is))
came_front (x ∷ xs) (y ∷ ys) r is =
    let heads : x ≡ y = cc in
    let tails : came xs ≡ came ys ++ r = cc in
    let found = came_front xs ys r tails in
    (found.0, (λ i. heads i ∷ found.1 i))

came_behind : (xs : List ℕ) (a b : List Arrival) → came xs ++ a ≡ came xs ++ b → a ≡ b
came_behind [] a b is = is
came_behind (x ∷ xs) a b is = let tails : came xs ++ a ≡ came xs ++ b = cc in came_behind xs a b tails

begun_begins : (bytes : List ℕ) → IsBegun bytes → BeginsSequence (came bytes)
begun_begins bytes begun = record {
  character = begun.character;
  next = came begun.rest;
  rest = [];
  multibyte = begun.multibyte;
  sequence = sym (came-append bytes begun.rest) ∙ ap came begun.sequence ∙ sym (append-nil (came (encode begun.character)));
}

whole_begins : (arrivals behind : List Arrival) (c : ℕ) → IsMultibyte c → arrivals ≡ came (encode c) ++ behind → BeginsSequence arrivals
whole_begins arrivals behind c multibyte is = record { character = c; next = []; rest = behind; multibyte = multibyte; sequence = append-nil arrivals ∙ is }

not_both : (byte : ℕ) (bytes : List ℕ) (later behind : List Arrival) (c : ℕ) → IsBegun (byte ∷ bytes) → later ≡ came bytes → Came (keys.Byte byte) ∷ later ≡ came (encode c) ++ behind → ⊥
not_both byte bytes later behind c begun on whole =
    let found = came_front (byte ∷ bytes) (encode c) behind (ap (λ l. Came (keys.Byte byte) ∷ l) (sym on) ∙ whole) in
    not_inside (byte ∷ bytes) begun c found.0 found.1

same_character : (c d : ℕ) (a b all : List Arrival) → all ≡ came (encode c) ++ a → all ≡ came (encode d) ++ b → (c ≡ d) × (a ≡ b)
same_character c d a b all first second =
    let both = agree (encode c) (encode d) a b (sym first ∙ second) in
    let same : c ≡ d = (encode_same c d both.0 both.1 both.2).0 in
    (same, came_behind (encode c) a b (sym first ∙ second ∙ ap (λ k. came (encode k) ++ b) (sym same)))

shorter : (c : ℕ) (behind all : List Arrival) (n : ℕ) → length all ≤ suc n → all ≡ came (encode c) ++ behind → length behind ≤ n
shorter c behind all n few is = by (encode c) (omega (arith, length-encode c, len_utf8_bounds c)) is
  where
    by : (e : List ℕ) → 0 < length e → all ≡ came e ++ behind → length behind ≤ n
    by [] some e = absurd (omega arith)
    by (x ∷ l) some e = omega (arith, ap length e, length-append (came l) behind)

one_byte : (n byte : ℕ) (later : List Arrival) (read others : List Typed) (left rest : List ℕ) → length later ≤ n
    → ((a : List Arrival) (r o : List Typed) (l s : List ℕ) → length a ≤ n → AreTyped a r l → AreTyped a o s → (r ≡ o) × (l ≡ s))
    → ByteRead byte later read left → ByteRead byte later others rest → (read ≡ others) × (left ≡ rest)
one_byte n byte later read others left rest few smaller (waits xs begun is nothing all) (waits ys begun' is' nothing' all') =
    (nothing ∙ sym nothing', all ∙ ap (λ l. byte ∷ l) (came_same xs ys (sym is ∙ is')) ∙ sym all')
one_byte n byte later read others left rest few smaller (waits xs begun is nothing all) (joins d b o multibyte is' e t) = absurd (not_both byte xs later b d begun is is')
one_byte n byte later read others left rest few smaller (waits xs begun is nothing all) (alone o none e t) =
    absurd (none (subst (λ l. BeginsSequence (Came (keys.Byte byte) ∷ l)) (sym is) (begun_begins (byte ∷ xs) begun)))
one_byte n byte later read others left rest few smaller (joins c a r multibyte is e t) (waits ys begun is' nothing' all') = absurd (not_both byte ys later a c begun is' is)
one_byte n byte later read others left rest few smaller (joins c a r multibyte is e t) (joins d b o multibyte' is' e' t') =
    let same = same_character c d a b (Came (keys.Byte byte) ∷ later) is is' in
    let both = smaller a r o left rest (shorter c a (Came (keys.Byte byte) ∷ later) n (omega arith) is) t (subst (λ l. AreTyped l o rest) (sym same.1) t') in
    (e ∙ (λ i. typed.Character (same.0 i) ∷ both.0 i) ∙ sym e', both.1)
one_byte n byte later read others left rest few smaller (joins c a r multibyte is e t) (alone o none e' t') = absurd (none (whole_begins (Came (keys.Byte byte) ∷ later) a c multibyte is))
one_byte n byte later read others left rest few smaller (alone r none e t) (waits ys begun is' nothing' all') =
    absurd (none (subst (λ l. BeginsSequence (Came (keys.Byte byte) ∷ l)) (sym is') (begun_begins (byte ∷ ys) begun)))
one_byte n byte later read others left rest few smaller (alone r none e t) (joins d b o multibyte is' e' t') = absurd (none (whole_begins (Came (keys.Byte byte) ∷ later) b d multibyte is'))
one_byte n byte later read others left rest few smaller (alone r none e t) (alone o none' e' t') = let both = smaller later r o left rest few t t' in (e ∙ ap (λ l. typed.Byte byte ∷ l) both.0 ∙ sym e', both.1)

one_way_of : (n : ℕ) (arrivals : List Arrival) (read others : List Typed) (left rest : List ℕ) → length arrivals ≤ n → AreTyped arrivals read left → AreTyped arrivals others rest → (read ≡ others) × (left ≡ rest)
unfolding ReadBy
one_way_of n [] read others left rest few first second =
    let a = read_by [] read left first in
    let b = read_by [] others rest second in
    (a.0 ∙ sym b.0, a.1 ∙ sym b.1)
one_way_of zero (x ∷ later) read others left rest few first second = absurd (omega arith)
one_way_of (suc n) (Idled ∷ later) read others left rest few first second =
    one_way_of n later read others left rest (omega arith) (read_by (Idled ∷ later) read left first) (read_by (Idled ∷ later) others rest second)
one_way_of (suc n) (Came (keys.Slot slot) ∷ later) read others left rest few first second =
    let a = read_by (Came (keys.Slot slot) ∷ later) read left first in
    let b = read_by (Came (keys.Slot slot) ∷ later) others rest second in
    let both = one_way_of n later a.0 b.0 left rest (omega arith) a.2 b.2 in
    (a.1 ∙ ap (λ l. typed.Key slot ∷ l) both.0 ∙ sym b.1, both.1)
one_way_of (suc n) (Came (keys.Byte byte) ∷ later) read others left rest few first second =
    one_byte n byte later read others left rest (omega arith) (one_way_of n) (read_by (Came (keys.Byte byte) ∷ later) read left first) (read_by (Came (keys.Byte byte) ∷ later) others rest second)

pub in_one_way : TypedInOneWay
in_one_way arrivals read others left rest first second = one_way_of (length arrivals) arrivals read others left rest (omega arith) first second
