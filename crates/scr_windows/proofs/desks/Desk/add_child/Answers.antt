use Rattle.std.proofs.Common.{◌<◌, ◌∷◌, [], arith, refl, length}
use Rattle.std.proofs.lemmas.Slice.{pushed}
use Rattle.scr_windows.proofs.ChildLaws.{child_added}
use Rattle.scr_windows.proofs.desks.Desk.add_child.Goals as goal

pub invariant_of-self-2 : goal.invariant_of-self-2
invariant_of-self-2 c =
    let few : length c.self.inside.windows.items < 1000 = omega (arith, c.self.inside.windows.ok.0) in
    child_added _ _ c.self.view_is c.args.index _ c.in_ok-window.window _ _ _ c.args.area c.args.origin c.self.invariant c.requires.here c.requires.inside c.index-parent.ensures c.frame-above.ensures c.state-state.ensures c.in_ok-window.ensures
    (pushed (c.in_ok-window.window ∷ []) refl c.in_ok-push.was c.push.ensures.items) few (omega arith)
