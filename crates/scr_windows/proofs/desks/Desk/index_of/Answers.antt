use Rattle.std.proofs.Common.{◌==◌, List, arith, sym, ap, subst, length}
use Rattle.std.proofs.lemmas.List.Quantifiers.{position-Some}
use Rattle.scr_windows.specs.DeskViews.{DeskView, WindowView, AreAscending, IsThere, no_window}
use Rattle.scr_windows.proofs.DeskLaws.{placed}
use Rattle.scr_windows.proofs.DeskLaws.{desk_ascends}
use Rattle.scr_windows.proofs.desks.Desk.index_of.Goals as goal

pub returns-in-Some-clause-placed : goal.returns-in-Some-clause-placed
returns-in-Some-clause-placed c =
    let P : DeskView → Type 0 = λ v. IsThere v c.in-Some.index in
    let found = position-Some (λ (w : WindowView). w.frame.number == c.args.win.0) _ c.in-Some.index no_window (sym c.in-Some.ensures) in
    subst P c.self.view_is (placed _ c.in-Some.index c.self.invariant (omega (arith, found.0, ap length c.deref.ensures.value)))

pub index_of_number-requires : goal.index_of_number-requires
index_of_number-requires c = let P : List WindowView → Type 0 = λ ws. AreAscending ws in subst P (sym c.deref.ensures.value) (desk_ascends _ c.self.invariant)
