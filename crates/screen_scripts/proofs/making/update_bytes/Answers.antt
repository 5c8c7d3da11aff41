use Rattle.std.proofs.Common.{◌≡◌, ◌∙◌, ℕ, [], List, Option, Some, ap, refl}
use Rattle.screen_scripts.proofs.MakingLaws.{updates}
use Rattle.screen_scripts.proofs.making.update_bytes.Goals as goal

pub returns-in-Ok : goal.returns-in-Ok
returns-in-Ok c =
    let empty : c.new-device.result.writer.items ≡ [] = ap (λ d. d.writer.items) c.new-device.ensures ∙ c.new.ensures.items in
    updates c.ecma48_laws.ensures c.memory_runs.ensures c.args.screen.now c.doupdate.new.self _ _ c.in-Ok.field-0 _ c.requires c.in-Ok.ensures.ok
    (ap {A = List ℕ} {B = Option (List ℕ)} (λ t. Some t) empty) refl
