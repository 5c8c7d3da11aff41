use Rattle.std.proofs.Common.{ℕ, ◌∙◌, ◌<◌, List, sym, ap, subst, Option}
use Rattle.std.specs.Prelude.{MatchOption}
use Rattle.scr_windows.specs.DeskViews.{WindowView, AreAscending}
use Rattle.scr_windows.proofs.DeskLaws.{desk_ascends}
use Rattle.scr_windows.proofs.SyncLaws.{parent_before_in, parent_found}
use Rattle.scr_windows.proofs.desks.Desk.parent_of.Goals as goal

pub returns-in-Some-clause-parent : goal.returns-in-Some-clause-parent
returns-in-Some-clause-parent c =
    parent_found _ _ c.self.view_is c.args.index _ c.frame.result c.in-Some.number _ c.requires c.deref.ensures.value (c.frame.ensures ∙ ap (λ w. w.frame) c.window_at.ensures.window) c.in-Some.is c.index_of_number.ensures

pub returns-in-Some-clause-before : goal.returns-in-Some-clause-before
returns-in-Some-clause-before c =
    let is = parent_found _ _ c.self.view_is c.args.index _ c.frame.result c.in-Some.number _ c.requires c.deref.ensures.value (c.frame.ensures ∙ ap (λ w. w.frame) c.window_at.ensures.window) c.in-Some.is c.index_of_number.ensures in
    let P : Option ℕ → Type 0 = λ o. MatchOption o (Unit {0}) (λ parent. parent < c.args.index) in
    subst P (sym is) (parent_before_in _ _ c.self.view_is c.args.index c.self.invariant c.requires)

pub index_of_number-requires : goal.index_of_number-requires
index_of_number-requires c = let P : List WindowView → Type 0 = λ ws. AreAscending ws in subst P (sym c.deref.ensures.value) (desk_ascends _ c.self.invariant)
