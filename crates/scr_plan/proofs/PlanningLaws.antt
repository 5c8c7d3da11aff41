-- A repaint that is made row by row is that of all places that differ.
use Rattle.std.proofs.Common.{◌≡◌, ℕ, ◌+◌, Bool, sym, ◌∙◌, ap, append_assoc, List, ◌++◌, filter}
use Rattle.std.specs.List.{flat_map}
use Rattle.scr_term.specs.declared.operations.operation.Op.{Op}
use Rattle.scr_plan.specs.Scratch.{places, row_places}
use Rattle.scr_plan.proofs.PartLaws.{row_more}

-- ---- row by row

-- one row more, of which all was painted that differs
pub row_added : (first : List Op) (f : ℕ × ℕ → List Op) (d : ℕ × ℕ → Bool) (row columns : ℕ) (items new : List Op)
    → items ≡ first ++ flat_map f (filter d (places row columns))
    → new ≡ items ++ flat_map f (filter d (row_places columns row))
    → new ≡ first ++ flat_map f (filter d (places (row + 1) columns))
row_added first f d row columns items new made painted =
    painted
    ∙ ap (λ ops. ops ++ flat_map f (filter d (row_places columns row))) made
    ∙ append_assoc first (flat_map f (filter d (places row columns))) (flat_map f (filter d (row_places columns row)))
    ∙ ap (λ ops. first ++ ops) (sym (row_more f d row columns))
