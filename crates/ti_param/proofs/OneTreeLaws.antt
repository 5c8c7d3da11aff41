-- A list of directives and marks spells at most one tree.
use Rattle.std.proofs.Common.{◌≡◌, ℕ, suc, List, [], ◌∷◌, refl, sym, ap, ◌∙◌}
use Rattle.ti_param.specs.declared.tokens.Token.{Token}
use Rattle.ti_param.specs.declared.tokens.Token.TheVariants.{If, Then, Else, EndIf}
use Rattle.ti_param.specs.declared.tokens.Token.TheVariants as tokens
use Rattle.ti_param.specs.Tree.{Tree, End, Alone, When}
use Rattle.ti_param.specs.Parsed.{Closed, Second, Both, Tail, before_token, tail_of}
use Rattle.ti_param.specs.Code.Trees.{join, join-end}
use Rattle.ti_param.specs.Grammar.{Segment, Branches, nothing, one, alone, choice, no_else, with_else, else_if}

mutual
  segment_grown : (n : ℕ) (t : Tree) (ts us : List Token) (g : Tail) → Segment n t ts us → tail_of us ≡ g → tail_of ts ≡ record { tree = join t g.tree; open_ones = g.open_ones }
  segment_grown n t ts us g nothing e = e
  segment_grown n t ts us g (one d s) e = ap (before_token (tokens.Do d)) (segment_grown _ _ _ us g s e)
  segment_grown n t ts us g (alone {n = m} {a = a} {r = r} s p) e =
      ap (before_token If) (segment_grown m a _ _ (record { tree = End; open_ones = Closed (join r g.tree) ∷ g.open_ones }) s (ap (before_token EndIf) (segment_grown (suc m) r _ us g p e)))
      ∙ ap (λ x. record { tree = Alone x (join r g.tree); open_ones = g.open_ones }) (join-end a)
  segment_grown n t ts us g (choice {n = m} {a = a} {b = b} {c = c} {r = r} s w p) e =
      ap (before_token If) (segment_grown m a _ _ (record { tree = End; open_ones = Both b c (join r g.tree) ∷ g.open_ones }) s (branches_grown m b c _ _ (record { tree = join r g.tree; open_ones = g.open_ones }) w (segment_grown (suc m) r _ us g p e)))
      ∙ ap (λ x. record { tree = When x b c (join r g.tree); open_ones = g.open_ones }) (join-end a)

  branches_grown : (n : ℕ) (x y : Tree) (ts us : List Token) (g : Tail) → Branches n x y ts us → tail_of us ≡ g → before_token Then (tail_of ts) ≡ record { tree = End; open_ones = Both x y g.tree ∷ g.open_ones }
  branches_grown n x y ts us g (no_else s) e =
      ap (before_token Then) (segment_grown n x ts _ (record { tree = End; open_ones = Closed g.tree ∷ g.open_ones }) s (ap (before_token EndIf) e))
      ∙ ap (λ t. record { tree = End; open_ones = Both t End g.tree ∷ g.open_ones }) (join-end x)
  branches_grown n x y ts us g (with_else s p) e =
      let second = segment_grown n y _ _ (record { tree = End; open_ones = Closed g.tree ∷ g.open_ones }) p (ap (before_token EndIf) e) in
      ap (before_token Then) (segment_grown n x ts _ (record { tree = End; open_ones = Second (join y End) g.tree ∷ g.open_ones }) s (ap (before_token Else) second))
      ∙ ap (λ t. record { tree = End; open_ones = Both t (join y End) g.tree ∷ g.open_ones }) (join-end x)
      ∙ ap (λ t. record { tree = End; open_ones = Both x t g.tree ∷ g.open_ones }) (join-end y)
  branches_grown n x y ts us g (else_if {a = a} {x = v} {y = w} s t m) e =
      let ways = branches_grown n v w _ us g m e in
      let test = segment_grown n a _ _ (record { tree = End; open_ones = Both v w g.tree ∷ g.open_ones }) t ways in
      ap (before_token Then) (segment_grown n x ts _ (record { tree = End; open_ones = Second (When (join a End) v w End) g.tree ∷ g.open_ones }) s (ap (before_token Else) test))
      ∙ ap (λ t. record { tree = End; open_ones = Both t (When (join a End) v w End) g.tree ∷ g.open_ones }) (join-end x)
      ∙ ap (λ t. record { tree = End; open_ones = Both x (When t v w End) g.tree ∷ g.open_ones }) (join-end a)

pub tail_is : (n : ℕ) (t : Tree) (ts : List Token) → Segment n t ts [] → (tail_of ts).tree ≡ t
tail_is n t ts s = ap (λ g. g.tree) (segment_grown n t ts [] (tail_of []) s refl) ∙ join-end t

pub one_tree_of : (t u : Tree) (ts : List Token) → Segment 32 t ts [] → Segment 32 u ts [] → t ≡ u
one_tree_of t u ts s r = sym (tail_is 32 t ts s) ∙ tail_is 32 u ts r
