-- What tells something is text.
use Rattle.std.proofs.Common.{◌≡◌, subst, rules}
use Rattle.std.specs.Str.{IsUtf8}
use Rattle.terminal.specs.Sizes.{Tells}
use Rattle.terminal.proofs.SizeLaws.{end_in_text, stop_in_text, tells_in_text}
use Rattle.terminal.proofs.sizes.told_by.Goals as goal

pub returns-in-Ok : goal.returns-in-Ok
returns-in-Ok c =
    let same : c.in-Ok.line.now ≡ c.args.text.now = search rules in
    subst (λ text. Tells text c.told_in.result) same c.told_in.ensures

pub returns-in-Err : goal.returns-in-Err
returns-in-Err c =
    let bad : IsUtf8 c.args.text.now → ⊥ = search rules in
    (λ is. bad (end_in_text c.args.text.now is), λ is. bad (stop_in_text c.args.text.now is), λ size tells. bad (tells_in_text c.args.text.now size tells))
