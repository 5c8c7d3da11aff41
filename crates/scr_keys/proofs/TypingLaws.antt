-- What is typed by what arrives.
use Rattle.std.proofs.Common.{◌≡◌, ◌≢◌, ◌∙◌, ℕ, ◌≤◌, refl, ap, sym, subst, arith, length, map, List, [], ◌∷◌, ◌++◌, append_assoc}
use lib.Utf8.{encode}
use Rattle.std.proofs.lemmas.List.{append-nil}
use Rattle.std.proofs.str.Laws.{Follows}
use Rattle.scr_keys.specs.declared.keys.Key.TheVariants as keys
use Rattle.scr_keys.specs.declared.typing.Typed.{Typed}
use Rattle.scr_keys.specs.declared.typing.Typed.TheVariants as typed
use Rattle.scr_keys.specs.Code.Sequences.{BeginNone}
use Rattle.scr_keys.specs.Typing.{Alone, AreTyped, Arrival, BeginsSequence, Came, CanWait, Idled, IsBegun, IsMultibyte, Joined, Nothing, Paused, Pressed, Waiting, came}
use Rattle.scr_keys.proofs.SequenceLaws.{AllFollow, lead, not_inside}

pub came-append : (xs ys : List ℕ) → came (xs ++ ys) ≡ came xs ++ came ys
came-append [] ys = refl
came-append (x ∷ xs) ys = ap (λ l. Came (keys.Byte x) ∷ l) (came-append xs ys)

-- ---- where no sequence begins

-- what comes in both, as bytes
pub agree : (xs ys : List ℕ) (m r : List Arrival) → came xs ++ m ≡ came ys ++ r → (more : List ℕ) × (rest : List ℕ) × (xs ++ more ≡ ys ++ rest)
agree [] ys m r is = (ys, [], sym (append-nil ys))
agree (x ∷ xs) [] m r is = ([], x ∷ xs, append-nil (x ∷ xs))
agree (x ∷ xs) (y ∷ ys) m r is =
    let heads : x ≡ y = cc in
    let tails : came xs ++ m ≡ came ys ++ r = cc in
    let found = agree xs ys m r tails in
    (found.0, found.1, (λ i. heads i ∷ found.2 i))

pub none_begins : (bytes : List ℕ) (later : List Arrival) → BeginNone bytes → ¬ (BeginsSequence (came bytes ++ later))
none_begins bytes later none begins =
    let both = agree bytes (encode begins.character) (later ++ begins.next) begins.rest (sym (append_assoc (came bytes) later begins.next) ∙ begins.sequence) in
    none begins.character both.0 both.1 begins.multibyte both.2

abbrev pub IsNoByte : Arrival → Type 0
IsNoByte arrival = (byte : ℕ) → arrival ≢ Came (keys.Byte byte)

-- the bytes before what is no byte
inside : (xs ys : List ℕ) (a : Arrival) (m r : List Arrival) → IsNoByte a → came xs ++ a ∷ m ≡ came ys ++ r → (l : List ℕ) × (xs ≡ ys ++ l)
inside xs [] a m r other is = (xs, refl)
inside [] (y ∷ ys) a m r other is =
    let heads : a ≡ Came (keys.Byte y) = cc in
    absurd (other y heads)
inside (x ∷ xs) (y ∷ ys) a m r other is =
    let heads : x ≡ y = cc in
    let tails : came xs ++ a ∷ m ≡ came ys ++ r = cc in
    let found = inside xs ys a m r other tails in
    (found.0, (λ i. heads i ∷ found.1 i))

pub none_before : (bytes : List ℕ) (a : Arrival) (later : List Arrival) → IsBegun bytes → IsNoByte a → ¬ (BeginsSequence (came bytes ++ a ∷ later))
none_before bytes a later begun other begins =
    let found = inside bytes (encode begins.character) a (later ++ begins.next) begins.rest other (sym (append_assoc (came bytes) (a ∷ later) begins.next) ∙ begins.sequence) in
    not_inside bytes begun begins.character found.0 found.1

-- ---- bytes that are given one by one

follows_begins_none : (byte : ℕ) (later : List Arrival) → Follows byte → ¬ (BeginsSequence (Came (keys.Byte byte) ∷ later))
follows_begins_none byte later follows begins =
    let row = lead begins.character begins.multibyte in
    let all : Came (keys.Byte byte) ∷ (later ++ begins.next) ≡ Came (keys.Byte row.first) ∷ (came (row.second ∷ row.others) ++ begins.rest) = begins.sequence ∙ ap (λ l. came l ++ begins.rest) row.sequence in
    let first : byte ≡ row.first = cc in
    let low : 194 ≤ row.first = row.low in
    absurd (omega arith)

singles : (bytes : List ℕ) (later : List Arrival) (read : List Typed) (left : List ℕ) → AllFollow bytes → AreTyped later read left → AreTyped (came bytes ++ later) (map (λ b. typed.Byte b) bytes ++ read) left
singles [] later read left follow rest = rest
singles (x ∷ bytes) later read left follow rest =
    Alone x (came bytes ++ later) (map (λ b. typed.Byte b) bytes ++ read) left (follows_begins_none x (came bytes ++ later) follow.0) (singles bytes later read left follow.1 rest)

front_follows : (bytes more all : List ℕ) → bytes ++ more ≡ all → AllFollow all → AllFollow bytes
front_follows [] more all is follow = tt
front_follows (x ∷ bytes) more [] is follow = absurd (omega (arith, ap length is))
front_follows (x ∷ bytes) more (y ∷ all) is follow =
    let heads : x ≡ y = cc in
    let tails : bytes ++ more ≡ all = cc in
    (subst Follows (sym heads) follow.0, front_follows bytes more all tails follow.1)

-- what waits is given byte by byte, if no sequence begins there
pub given : (bytes : List ℕ) (later : List Arrival) (read : List Typed) (left : List ℕ) → CanWait bytes → (bytes ≢ [] → ¬ (BeginsSequence (came bytes ++ later))) → AreTyped later read left
    → AreTyped (came bytes ++ later) (map (λ b. typed.Byte b) bytes ++ read) left
given [] later read left waits none rest = rest
given (x ∷ bytes) later read left waits none rest =
    let row = lead waits.character waits.multibyte in
    let all : x ∷ (bytes ++ waits.rest) ≡ row.first ∷ row.second ∷ row.others = waits.sequence ∙ row.sequence in
    let tails : bytes ++ waits.rest ≡ row.second ∷ row.others = cc in
    Alone x (came bytes ++ later) (map (λ b. typed.Byte b) bytes ++ read) left (none waits.some) (singles bytes later read left (front_follows bytes waits.rest (row.second ∷ row.others) tails row.follow) rest)

-- ---- the reader's steps

pub typed_whole : (before : List ℕ) (byte c : ℕ) → IsMultibyte c → before ++ byte ∷ [] ≡ encode c → AreTyped (came before ++ Came (keys.Byte byte) ∷ []) (typed.Character c ∷ []) []
typed_whole before byte c multibyte is =
    subst (λ l. AreTyped l (typed.Character c ∷ []) []) (append-nil (came (encode c)) ∙ ap came (sym is) ∙ came-append before (byte ∷ [])) (Joined c [] [] [] multibyte Nothing)

pub typed_begun : (before : List ℕ) (byte : ℕ) → IsBegun (before ++ byte ∷ []) → AreTyped (came before ++ Came (keys.Byte byte) ∷ []) [] (before ++ byte ∷ [])
typed_begun before byte begun = subst (λ l. AreTyped l [] (before ++ byte ∷ [])) (came-append before (byte ∷ [])) (Waiting (before ++ byte ∷ []) begun)

pub typed_broken : (before : List ℕ) (byte : ℕ) (read : List Typed) (left : List ℕ) → CanWait before → BeginNone (before ++ byte ∷ []) → AreTyped (Came (keys.Byte byte) ∷ []) read left
    → AreTyped (came before ++ Came (keys.Byte byte) ∷ []) (map (λ b. typed.Byte b) before ++ read) left
typed_broken before byte read left waits none rest =
    given before (Came (keys.Byte byte) ∷ []) read left waits
    (λ some begins. none_begins (before ++ byte ∷ []) [] none (subst BeginsSequence (sym (append-nil (came (before ++ byte ∷ [])) ∙ came-append before (byte ∷ []))) begins))
    rest

pub typed_cut : (before : List ℕ) (a : Arrival) (read : List Typed) (left : List ℕ) → CanWait before → IsNoByte a → AreTyped (a ∷ []) read left → AreTyped (came before ++ a ∷ []) (map (λ b. typed.Byte b) before ++ read) left
typed_cut before a read left waits other rest = given before (a ∷ []) read left waits (λ some. by before waits some) rest
  where
    by : (l : List ℕ) → CanWait l → l ≢ [] → ¬ (BeginsSequence (came l ++ a ∷ []))
    by [] w some = absurd (some refl)
    by (x ∷ l) w some = none_before (x ∷ l) a [] w other

pub typed_idle : (before : List ℕ) → CanWait before → AreTyped (came before ++ Idled ∷ []) (map (λ b. typed.Byte b) before ++ []) []
typed_idle before waits = typed_cut before Idled [] [] waits (λ byte. no byte) (Paused [] [] [] Nothing)
  where
    no : (byte : ℕ) → Idled ≡ Came (keys.Byte byte) → ⊥
    no byte e = (cc)

pub typed_key : (before : List ℕ) (slot : ℕ) → CanWait before → AreTyped (came before ++ Came (keys.Slot slot) ∷ []) (map (λ b. typed.Byte b) before ++ typed.Key slot ∷ []) []
typed_key before slot waits = typed_cut before (Came (keys.Slot slot)) (typed.Key slot ∷ []) [] waits (λ byte. no byte) (Pressed slot [] [] [] Nothing)
  where
    no : (byte : ℕ) → Came (keys.Slot slot) ≡ Came (keys.Byte byte) → ⊥
    no byte e = (cc)

pub typed_first : (byte : ℕ) → IsBegun (byte ∷ []) → AreTyped (Came (keys.Byte byte) ∷ []) [] (byte ∷ [])
typed_first byte begun = Waiting (byte ∷ []) begun

pub typed_alone : (byte : ℕ) → BeginNone (byte ∷ []) → AreTyped (Came (keys.Byte byte) ∷ []) (typed.Byte byte ∷ []) []
typed_alone byte none = Alone byte [] [] [] (none_begins (byte ∷ []) [] none) Nothing
