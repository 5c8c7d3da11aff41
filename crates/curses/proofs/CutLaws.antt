-- What a writer has taken of a text, and how cuts join.
use Rattle.std.proofs.Common.{◌≡◌, ℕ, ◌+◌, ◌-◌, ◌≤◌, ◌<◌, ◌∷◌, get_or, ◌==◌, ◌&&◌, not, Bool, true, false, sym, refl, ◌∙◌, ap, subst, arith, List, [], ◌++◌, append_assoc, length, take, drop, Option, None, Some, Result, is_ok, if◌then◌else◌}
use Rattle.std.specs.Io.KnownBytes.{Appends, Keeps}
use Rattle.std.proofs.Math.Seq.{take-add}
use Rattle.std.proofs.lemmas.List.{take-append-drop, length-drop, take_all, append-nil, length-append, take_more}
use Rattle.std.proofs.lemmas.Grind.{flat_map-append}
use Rattle.scr_term.specs.declared.operations.operation.Op.{Op}
use Rattle.scr_term.specs.declared.operations.operation.Op.TheVariants.{Put}
use Rattle.scr_term.specs.Operations.Profiles.{ProfileView}
use Rattle.scr_term.specs.Operations.Texts.{all_bytes, bytes_of}
use Rattle.std.proofs.lemmas.Bool.Decides.{nat_tests}
use Rattle.std.specs.Option.{is_some}
use Rattle.curses.specs.Cuts.{IsCut}
use Rattle.curses.specs.Updates.{IsOfOneText}
use Rattle.curses.specs.Writers.{counted}

-- ---- known bytes

pub appends_more : (old between new : Option (List ℕ)) (x y : List ℕ) → Appends old between x → Appends between new y → Appends old new (x ++ y)
appends_more None between new x y h k = tt
appends_more (Some a) None new x y h k = absurd h
appends_more (Some a) (Some b) None x y h k = absurd k
appends_more (Some a) (Some b) (Some c) x y h k = k ∙ ap (λ t. t ++ y) h ∙ append_assoc a x y

pub appends_kept : (old between new : Option (List ℕ)) (x : List ℕ) → Appends old between x → Keeps between new → Appends old new x
appends_kept None between new x h k = tt
appends_kept (Some a) None new x h k = absurd h
appends_kept (Some a) (Some b) None x h k = absurd k
appends_kept (Some a) (Some b) (Some c) x h k = k ∙ h

-- ---- one text

whole_rest : (i : ℕ) (text : List ℕ) → take (length text - i) (drop i text) ≡ drop i text
whole_rest i text = take_all (length text - i) (drop i text) (omega (arith, length-drop i text))

pub rest_length : (i : ℕ) (text : List ℕ) → length (take (length text - i) (drop i text)) ≡ length text - i
rest_length i text = ap length (whole_rest i text) ∙ length-drop i text

-- a further piece was taken
pub taken_more : (old between new : Option (List ℕ)) (text : List ℕ) (i n : ℕ) → Appends old between (take i text)
    → Appends between new (take n (take (length text - i) (drop i text))) → Appends old new (take (i + n) text)
taken_more old between new text i n a b =
    subst (λ t. Appends old new t) (ap (λ t. take i text ++ take n t) (whole_rest i text) ∙ sym (take-add i n text))
    (appends_more old between new (take i text) (take n (take (length text - i) (drop i text))) a b)

-- a text of which so many bytes were taken is cut there
pub cut_of : (old new : Option (List ℕ)) (text : List ℕ) (n : ℕ) → n ≤ length text → Appends old new (take n text) → IsCut text [] old new n (drop n text)
cut_of old new text n h a = record {
  taken = take n text;
  writer = a;
  bytes = omega (arith, ap length (take-append-drop n text), length-append (take n text) (drop n text), length-drop n text);
  whole = append-nil text ∙ sym (take-append-drop n text);
}

-- a character is its own text
pub character_sent : (profile : ProfileView) (op : Op) (byte : ℕ) → op ≡ Put byte → bytes_of profile op ≡ byte ∷ []
unfolding bytes_of
character_sent profile op byte is = ap (bytes_of profile) is ∙ refl

-- a byte was appended to nothing
pub appended_alone : {A E : Type 0} → (result : Result A E) (old new : List ℕ) (byte : ℕ) → old ≡ [] → is_ok result ≡ true
    → new ≡ (if is_ok result then old ++ byte ∷ [] else old) → new ≡ byte ∷ []
appended_alone result old new byte nothing succeeds is =
    is ∙ ap (λ b. if b then old ++ byte ∷ [] else old) succeeds ∙ ap (λ t. t ++ byte ∷ []) nothing

-- ---- several texts

-- what was sent first, and then
pub cuts_join : (owed between rest x y : List ℕ) (old mid new : Option (List ℕ)) (n m : ℕ) → IsCut owed x old mid n between → IsCut between y mid new m rest
    → IsCut owed (x ++ y) old new (n + m) rest
cuts_join owed between rest x y old mid new n m a b = record {
  taken = a.taken ++ b.taken;
  writer = appends_more old mid new a.taken b.taken a.writer b.writer;
  bytes = omega (arith, a.bytes, b.bytes, length-append a.taken b.taken);
  whole = sym (append_assoc owed x y) ∙ ap (λ t. t ++ y) a.whole ∙ append_assoc a.taken between y ∙ ap (λ t. a.taken ++ t) b.whole ∙ sym (append_assoc a.taken b.taken rest);
}

-- the text of one more operation was sent
pub operations_more : (profile : ProfileView) (ops : List Op) (k : ℕ) (d : Op) (old mid new : Option (List ℕ)) (n m : ℕ) (rest : List ℕ) → k < length ops
    → IsCut [] (all_bytes profile (take k ops)) old mid n [] → IsCut [] (bytes_of profile (get_or ops k d)) mid new m rest → IsCut [] (all_bytes profile (take (k + 1) ops)) old new (n + m) rest
operations_more profile ops k d old mid new n m rest inside a b =
    subst (λ texts. IsCut [] texts old new (n + m) rest) (sym texts) (cuts_join [] [] rest (all_bytes profile (take k ops)) (bytes_of profile (get_or ops k d)) old mid new n m a b)
  where
    texts : all_bytes profile (take (k + 1) ops) ≡ all_bytes profile (take k ops) ++ bytes_of profile (get_or ops k d)
    texts = ap (all_bytes profile) (take_more ops k d inside) ∙ flat_map-append (bytes_of profile) (take k ops) (get_or ops k d ∷ [])
        ∙ ap (λ t. all_bytes profile (take k ops) ++ t) (append-nil (bytes_of profile (get_or ops k d)))

-- ---- the text that a failure cut

-- what is left of what was owed, and of a text, is no longer
pub rest_of_owed : (owed rest : List ℕ) (old new : Option (List ℕ)) (n : ℕ) → IsCut owed [] old new n rest → length rest ≤ length owed
rest_of_owed owed rest old new n h = omega (arith, ap length (sym (append-nil owed) ∙ h.whole), length-append h.taken rest)

pub rest_of_text : (text rest : List ℕ) (old new : Option (List ℕ)) (n : ℕ) → IsCut [] text old new n rest → length rest ≤ length text
rest_of_text text rest old new n h = omega (arith, ap length h.whole, length-append h.taken rest)

-- the last operation was cut
last_cut : (profile : ProfileView) (owed : List ℕ) (ops : List Op) (op : Op) (rest : List ℕ) → length rest ≤ length (bytes_of profile op) → IsOfOneText profile owed (ops ++ op ∷ []) rest
last_cut profile owed [] op rest few = few
last_cut profile owed (a ∷ []) op rest few = few
last_cut profile owed (a ∷ b ∷ ops) op rest few = last_cut profile owed (b ∷ ops) op rest few

pub operation_cut : (profile : ProfileView) (ops : List Op) (k : ℕ) (d : Op) (old new : Option (List ℕ)) (n : ℕ) (rest : List ℕ) → k < length ops
    → IsCut [] (bytes_of profile (get_or ops k d)) old new n rest → IsOfOneText profile [] (take (k + 1) ops) rest
operation_cut profile ops k d old new n rest inside cut =
    subst (λ begun. IsOfOneText profile [] begun rest) (sym (take_more ops k d inside))
    (last_cut profile [] (take k ops) (get_or ops k d) rest (rest_of_text (bytes_of profile (get_or ops k d)) rest old new n cut))

-- what was owed before was sent
pub cut_behind : (profile : ProfileView) (owed : List ℕ) (ops : List Op) (rest : List ℕ) → IsOfOneText profile [] ops rest → IsOfOneText profile owed ops rest
cut_behind profile owed [] rest few = omega (arith, few)
cut_behind profile owed (op ∷ []) rest few = few
cut_behind profile owed (op ∷ next ∷ ops) rest few = cut_behind profile owed (next ∷ ops) rest few

-- nothing is left
pub nothing_left : (profile : ProfileView) (owed : List ℕ) (ops : List Op) (rest : List ℕ) → rest ≡ [] → IsOfOneText profile owed ops rest
nothing_left profile owed [] rest none = omega (arith, ap length none)
nothing_left profile owed (op ∷ []) rest none = omega (arith, ap length none)
nothing_left profile owed (op ∷ next ∷ ops) rest none = nothing_left profile owed (next ∷ ops) rest none

-- ---- counts

-- a put that took something has not failed
pub took_some : (piece : List ℕ) (count old new : ℕ) → (count ≡ 0 → ⊥) → new ≡ counted (not (length piece == 0) && (count == 0)) old → new ≡ old
took_some piece count old new some is =
    let test : (count == 0) ≡ false = grind (arith, nat_tests) in
    is ∙ ap (λ b. counted b old) (ap (λ t. not (length piece == 0) && t) test ∙ never (not (length piece == 0)))
  where
    never : (b : Bool) → (b && false) ≡ false
    never true = refl
    never false = refl

-- a flush that took nothing
pub cut_kept : (owed texts rest : List ℕ) (old mid new : Option (List ℕ)) (n : ℕ) → IsCut owed texts old mid n rest → Keeps mid new → IsCut owed texts old new n rest
cut_kept owed texts rest old mid new n h keeps = record { taken = h.taken; writer = appends_kept old mid new h.taken h.writer keeps; bytes = h.bytes; whole = h.whole }

-- what waited was sent whole, and then other texts
pub cuts_join_whole : {X : Type 0} → (fault : Option X) (failed : Bool) (owed between rest y : List ℕ) (old mid new : Option (List ℕ)) (n m : ℕ) → failed ≡ is_some fault → failed ≡ false
    → (fault ≡ None → between ≡ []) → IsCut owed [] old mid n between → IsCut [] y mid new m rest → IsCut owed y old new (n + m) rest
cuts_join_whole (Some x) failed owed between rest y old mid new n m is test whole a b = absurd (impossible (sym is ∙ test))
  where
    impossible : true ≡ false → ⊥
    impossible e = (cc)
cuts_join_whole None failed owed between rest y old mid new n m is test whole a b =
    cuts_join owed [] rest [] y old mid new n m (subst (λ t. IsCut owed [] old mid n t) (whole refl) a) b

-- what waited is the text that is sent
pub cut_turned : (text rest : List ℕ) (old new : Option (List ℕ)) (n : ℕ) → IsCut text [] old new n rest → IsCut [] text old new n rest
cut_turned text rest old new n h = record { taken = h.taken; writer = h.writer; bytes = h.bytes; whole = sym (append-nil text) ∙ h.whole }
