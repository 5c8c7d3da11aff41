-- Texts that are added in parts.
use Rattle.std.proofs.Common.{◌≡◌, ℕ, ◌+◌, ◌∙◌, ap, refl, sym, List, [], ◌∷◌, ◌++◌, take, drop}
use Rattle.std.proofs.lemmas.List.{drop-drop, take-append-drop}
use Rattle.scr_windows.specs.declared.faults.Added.{Added}
use Rattle.scr_windows.specs.declared.faults.Added.TheVariants.{Done, Stayed}
use Rattle.scr_windows.specs.DeskViews.{DeskView, no_attributes}
use Rattle.scr_windows.specs.Calls.Adding.{code_added, either_stayed, text_added}

either_more : (a b c : Added) → either_stayed a (either_stayed b c) ≡ either_stayed (either_stayed a b) c
either_more Done b c = refl
either_more Stayed b c = refl

either_done : (a : Added) → either_stayed a Done ≡ a
either_done Done = refl
either_done Stayed = refl

-- a text is added after something else
abbrev pub then_added : DeskView × Added → ℕ → List ℕ → DeskView × Added
then_added first i rest = ((text_added first.0 i rest).0, either_stayed first.1 (text_added first.0 i rest).1)

text_split : (s rest : List ℕ) (d : DeskView) (i : ℕ) → text_added d i (s ++ rest) ≡ then_added (text_added d i s) i rest
text_split [] rest d i = refl
text_split (code ∷ s) rest d i =
    let first : DeskView × Added = code_added d i code no_attributes in
    let more : DeskView × Added = text_added first.0 i s in
    let last : DeskView × Added = text_added more.0 i rest in
    let e : text_added first.0 i (s ++ rest) ≡ then_added more i rest = text_split s rest first.0 i in
    let one : ◌≡◌ {A = DeskView × Added} ((text_added first.0 i (s ++ rest)).0, either_stayed first.1 (text_added first.0 i (s ++ rest)).1) (last.0, either_stayed first.1 (either_stayed more.1 last.1))
    = (λ j. ((e j).0, either_stayed first.1 (e j).1)) in
    let two : ◌≡◌ {A = DeskView × Added} (last.0, either_stayed first.1 (either_stayed more.1 last.1)) (last.0, either_stayed (either_stayed first.1 more.1) last.1)
    = (λ j. (last.0, either_more first.1 more.1 last.1 j)) in
    one ∙ two

-- what is added so far, and what the rest of the text adds, is what the text adds
pub added_part : (d new fn : DeskView) (i : ℕ) (all one : Added) (part rest whole text : List ℕ) → whole ≡ part ++ rest → ◌≡◌ {A = DeskView × Added} (new, one) (text_added d i part)
    → (text_added d i whole).0 ≡ (text_added fn i text).0 → either_stayed all (text_added d i whole).1 ≡ (text_added fn i text).1
    → ((text_added new i rest).0 ≡ (text_added fn i text).0) × (either_stayed (either_stayed all one) (text_added new i rest).1 ≡ (text_added fn i text).1)
added_part d new fn i all one part rest whole text cut is desk answer =
    let e : then_added (new, one) i rest ≡ text_added d i whole = ap (λ t. then_added t i rest) is ∙ sym (text_split part rest d i) ∙ ap (text_added d i) (sym cut) in
    (ap (λ (t : DeskView × Added). t.0) e ∙ desk, sym (either_more all one (text_added new i rest).1) ∙ ap (λ (t : DeskView × Added). either_stayed all t.1) e ∙ answer)

-- the same of a text that is read by places
pub added_more : (d new fn : DeskView) (i at count : ℕ) (all one : Added) (text : List ℕ) → ◌≡◌ {A = DeskView × Added} (new, one) (text_added d i (take count (drop at text)))
    → (text_added d i (drop at text)).0 ≡ (text_added fn i text).0 → either_stayed all (text_added d i (drop at text)).1 ≡ (text_added fn i text).1
    → ((text_added new i (drop (at + count) text)).0 ≡ (text_added fn i text).0) × (either_stayed (either_stayed all one) (text_added new i (drop (at + count) text)).1 ≡ (text_added fn i text).1)
added_more d new fn i at count all one text is desk answer =
    let cut : drop at text ≡ take count (drop at text) ++ drop (at + count) text = sym (take-append-drop count (drop at text)) ∙ ap (λ ys. take count (drop at text) ++ ys) (drop-drop count at text) in
    added_part d new fn i all one (take count (drop at text)) (drop (at + count) text) (drop at text) text cut is desk answer

-- nothing is left of it
pub text_done : (d fn : DeskView) (i : ℕ) (all : Added) (rest text : List ℕ) → rest ≡ [] → (text_added d i rest).0 ≡ (text_added fn i text).0 → either_stayed all (text_added d i rest).1 ≡ (text_added fn i text).1
    → ◌≡◌ {A = DeskView × Added} (d, all) (text_added fn i text)
text_done d fn i all rest text none desk answer =
    let end : d ≡ (text_added fn i text).0 = ap (λ ys. (text_added d i ys).0) (sym none) ∙ desk in
    let stayed : all ≡ (text_added fn i text).1 = sym (either_done all) ∙ ap (λ ys. either_stayed all (text_added d i ys).1) (sym none) ∙ answer in
    (λ j. (end j, stayed j))

-- a text of one code
pub added_one : (d : DeskView) (i code : ℕ) → text_added d i (code ∷ []) ≡ code_added d i code no_attributes
added_one d i code = let first : DeskView × Added = code_added d i code no_attributes in (λ j. (first.0, either_done first.1 j))
