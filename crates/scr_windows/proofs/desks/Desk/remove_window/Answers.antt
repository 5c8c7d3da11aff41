use Rattle.std.proofs.Common.{rules}
use Rattle.std.proofs.lemmas.Fn.{filter_same}
use Rattle.scr_windows.proofs.RemovingLaws.{window_removed, window_removed_path}
use Rattle.scr_windows.proofs.desks.Desk.remove_window.Goals as goal

pub invariant_of-self : goal.invariant_of-self
invariant_of-self c = window_removed _ _ c.self.view_is c.args.number _ c.self.invariant c.requires (filter_same _ _ _ (λ x b f' k. search rules) _ _ c.retain.ensures.filtered)

pub returns : goal.returns
returns c = window_removed_path _ _ c.self.view_is c.args.number _ (filter_same _ _ _ (λ x b f' k. search rules) _ _ c.retain.ensures.filtered)
