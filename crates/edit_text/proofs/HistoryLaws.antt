-- One edit more.
use Rattle.std.proofs.Common.{◌≡◌, ℕ, ◌<◌, ◌≤◌, true, ◌&&◌, List, [], ◌∷◌, ◌++◌, length, sym, ◌∙◌, ap, arith, subst, ltb, leb}
use Rattle.std.specs.Prelude.{reverse}
use Rattle.std.specs.List.{AllByRecursion}
use Rattle.std.proofs.lemmas.List.{reverse-append}
use Rattle.std.proofs.lemmas.Bool.Decides.{nat_tests}
use Rattle.edit_text.specs.declared.places.TextPlace.{TextPlace}
use Rattle.edit_text.specs.declared.edits.Edit.{Edit}
use Rattle.edit_text.specs.Lines.{AreLines, line_at, is_inside}
use Rattle.edit_text.specs.Texts.{View, IsStep, IsText, edited, next}
use Rattle.edit_text.specs.Code.Edits.{CanUndoAll, Undoes, past_of, step_of}

-- what a text sees of its lines, edits and count
abbrev pub view_of : List (List ℕ) → List Edit → ℕ → View
view_of lines edits version = record { lines = lines; past = past_of (reverse edits) lines; version = version }

-- what holds of them
abbrev pub Holds : List (List ℕ) → List Edit → ℕ → Type 0
Holds lines edits version = IsText (view_of lines edits version) × CanUndoAll (reverse edits) lines

last_first : (es : List Edit) (e : Edit) → reverse (es ++ e ∷ []) ≡ e ∷ reverse es
last_first es e = reverse-append es (e ∷ [])

step_is : (e : Edit) (p : TextPlace) (old new : List (List ℕ)) → Undoes e p old new → step_of e new ≡ record { place = p; lines = old }
step_is e p old new u = λ i. record { place = u.at i; lines = u.back i }

past_is : (es : List Edit) (e : Edit) (p : TextPlace) (old new : List (List ℕ)) → Undoes e p old new → past_of (e ∷ es) new ≡ record { place = p; lines = old } ∷ past_of es old
past_is es e p old new u = λ i. step_is e p old new u i ∷ past_of es (u.back i)

past_more : (es more : List Edit) (e : Edit) (p : TextPlace) (old new : List (List ℕ)) → more ≡ es ++ e ∷ [] → Undoes e p old new → past_of (reverse more) new ≡ record { place = p; lines = old } ∷ past_of (reverse es) old
past_more es more e p old new m u = ap (λ list. past_of (reverse list) new) m ∙ ap (λ list. past_of list new) (last_first es e) ∙ past_is (reverse es) e p old new u

pub view_more : (es more : List Edit) (e : Edit) (p : TextPlace) (old new : List (List ℕ)) (v w : ℕ) → more ≡ es ++ e ∷ [] → Undoes e p old new → w ≡ next v → view_of new more w ≡ edited (view_of old es v) p new
view_more es more e p old new v w m u n = λ i. record { lines = new; past = past_more es more e p old new m u i; version = n i }

inside : (ls : List (List ℕ)) (p : TextPlace) → p.line < length ls → p.column ≤ length (line_at ls p.line) → is_inside ls p ≡ true
inside ls p l k = numbers p.line (length ls) p.column (length (line_at ls p.line)) l k
  where
    numbers : (n m a b : ℕ) → n < m → a ≤ b → (ltb n m && leb a b) ≡ true
    numbers n m a b l k = grind (arith, nat_tests)

pub holds_more : (es more : List Edit) (e : Edit) (p : TextPlace) (old new : List (List ℕ)) (v w : ℕ) → more ≡ es ++ e ∷ [] → Undoes e p old new → Holds old es v → AreLines new → p.line < length old → p.column ≤ length (line_at old p.line) → Holds new more w
holds_more es more e p old new v w m u h lines l k = (
  record { lines = lines; past = subst (AllByRecursion IsStep) (sym (past_more es more e p old new m u)) (record { lines = h.0.lines; place = inside old p l k }, h.0.past) },
  subst (λ list. CanUndoAll list new) (sym (ap reverse m ∙ last_first es e)) (u.can, subst (CanUndoAll (reverse es)) (sym u.back) h.1),
)

-- ---- an edit as a call makes it: the text was `before`, and room for one more edit was made first

there : (old : List (List ℕ)) (es : List Edit) (v : ℕ) (before : View) (p : TextPlace) → view_of old es v ≡ before → p.line < length before.lines → p.line < length old
there old es v before p seen l = subst (λ b. p.line < length b.lines) (sym seen) l

within : (old : List (List ℕ)) (es : List Edit) (v : ℕ) (before : View) (p : TextPlace) → view_of old es v ≡ before → p.column ≤ length (line_at before.lines p.line) → p.column ≤ length (line_at old p.line)
within old es v before p seen k = subst (λ b. p.column ≤ length (line_at b.lines p.line)) (sym seen) k

pub holds_made : (es was more : List Edit) (e : Edit) (p : TextPlace) (old new : List (List ℕ)) (v w : ℕ) (before : View) → view_of old es v ≡ before → was ≡ es → more ≡ was ++ e ∷ [] → p.line < length before.lines → p.column ≤ length (line_at before.lines p.line) → Holds old es v → (p.line < length old → p.column ≤ length (line_at old p.line) → Undoes e p old new) → (AreLines old → AreLines new) → Holds new more w
holds_made es was more e p old new v w before seen same m l k h u lines =
    let l' = there old es v before p seen l in
    let k' = within old es v before p seen k in
    holds_more es more e p old new v w (m ∙ ap (λ list. list ++ e ∷ []) same) (u l' k') h (lines h.0.lines) l' k'

pub view_made : (es was more : List Edit) (e : Edit) (p : TextPlace) (old new : List (List ℕ)) (v w : ℕ) (before : View) (f : List (List ℕ) → List (List ℕ)) → view_of old es v ≡ before → was ≡ es → more ≡ was ++ e ∷ [] → p.line < length before.lines → p.column ≤ length (line_at before.lines p.line) → (p.line < length old → p.column ≤ length (line_at old p.line) → Undoes e p old new) → w ≡ next v → new ≡ f old → view_of new more w ≡ edited before p (f before.lines)
view_made es was more e p old new v w before f seen same m l k u n new_is =
    view_more es more e p old new v w (m ∙ ap (λ list. list ++ e ∷ []) same) (u (there old es v before p seen l) (within old es v before p seen k)) n ∙ (λ i. edited (seen i) p ((new_is ∙ ap (λ b. f b.lines) seen) i))
