use Rattle.std.proofs.Common.{◌≡◌, ◌∙◌, IsOk, IsUtf8, ap, subst, sym}
use Rattle.std.proofs.lemmas.Bool.{false≢true}
use Rattle.std.proofs.lemmas.Str.{IsUtf8-had}
use Rattle.screen_scripts.specs.Showing.{stage_of}
use Rattle.screen_scripts.proofs.MakingLaws.{string_added, string_refused}
use Rattle.screen_scripts.proofs.obeying.add_string.Goals as goal

pub returns-in-Ok-clause-ok : goal.returns-in-Ok-clause-ok
returns-in-Ok-clause-ok c =
    let is : c.in-Ok.text.bytes.items ≡ c.args.text = ap (λ bytes. bytes.items) c.in-Ok.ensures.ok ∙ c.text.view_is in
    string_added c.args.screen.now c.make.new.screen c.args.window c.args.text c.in-Ok.text c.in_ok-make-in-Ok.field-0 (subst IsUtf8 is (IsUtf8-had c.in-Ok.text.bytes.items c.in-Ok.text.ok)) is c.in_ok-make-in-Ok.ensures

pub returns-clause-bad : goal.returns-clause-bad
returns-clause-bad c = λ _.
    string_refused (stage_of c.args.screen.now) c.args.window c.args.text
    (λ valid. false≢true (subst IsOk c.in-Err.is (c.from_utf8.ensures.succeeds (subst IsUtf8 (sym c.text.view_is) valid))))
