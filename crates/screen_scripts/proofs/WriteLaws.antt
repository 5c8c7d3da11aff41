-- What a writer has taken of a text, and of a script's output.
use Rattle.std.proofs.Common.{◌≡◌, ℕ, ◌+◌, ◌-◌, sym, ◌∙◌, ap, subst, arith, List, ◌++◌, append_assoc, length, take, drop, Option, Some, None, []}
use Rattle.std.specs.Io.KnownBytes.{Appends, Keeps}
use Rattle.std.proofs.Math.Seq.{take-add}
use Rattle.std.proofs.lemmas.List.{append-nil, take-append-drop, length-drop, take_all}
use Rattle.screen_scripts.specs.Printing.{GrewByBeginning}

pub appends_more : (old between new : Option (List ℕ)) (x y : List ℕ) → Appends old between x → Appends between new y → Appends old new (x ++ y)
appends_more None between new x y h k = tt
appends_more (Some a) None new x y h k = absurd h
appends_more (Some a) (Some b) None x y h k = absurd k
appends_more (Some a) (Some b) (Some c) x y h k = k ∙ ap (λ t. t ++ y) h ∙ append_assoc a x y

pub appends_none : (old : Option (List ℕ)) → Appends old old []
appends_none None = tt
appends_none (Some a) = sym (append-nil a)

pub appends_kept : (old between new : Option (List ℕ)) (x : List ℕ) → Appends old between x → Keeps between new → Appends old new x
appends_kept None between new x h k = tt
appends_kept (Some a) None new x h k = absurd h
appends_kept (Some a) (Some b) None x h k = absurd k
appends_kept (Some a) (Some b) (Some c) x h k = k ∙ h

-- ---- pieces of a text

whole_rest : (i : ℕ) (text : List ℕ) → take (length text - i) (drop i text) ≡ drop i text
whole_rest i text = take_all (length text - i) (drop i text) (omega (arith, length-drop i text))

pub rest_length : (i : ℕ) (text : List ℕ) → length (take (length text - i) (drop i text)) ≡ length text - i
rest_length i text = ap length (whole_rest i text) ∙ length-drop i text

-- a further piece was taken
pub taken_more : (old between new : Option (List ℕ)) (text : List ℕ) (i n : ℕ) → Appends old between (take i text)
    → Appends between new (take n (take (length text - i) (drop i text))) → Appends old new (take (i + n) text)
taken_more old between new text i n a b =
    subst (λ t. Appends old new t) (ap (λ t. take i text ++ take n t) (whole_rest i text) ∙ sym (take-add i n text))
    (appends_more old between new (take i text) (take n (take (length text - i) (drop i text))) a b)

-- what was taken is a beginning
pub taken_is_beginning : (old new : Option (List ℕ)) (text : List ℕ) (i : ℕ) → Appends old new (take i text) → GrewByBeginning old new text
taken_is_beginning old new text i a = record { beginning = take i text; rest = drop i text; whole = sym (take-append-drop i text); written = a }
