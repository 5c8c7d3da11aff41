use Rattle.std.proofs.Common.{◌≡◌, ◌∙◌, sym, ap, cond, subst, Bool}
use Rattle.ti_binary.specs.Files.{Reads}
use Rattle.ti_binary.specs.declared.widths.Width.{Width}
use Rattle.ti_binary.specs.declared.widths.Width.TheVariants.{Legacy, Wide}
use Rattle.ti_database.specs.Search.{width_of}
use Rattle.ti_database.proofs.reading.read_entry.Goals as goal

pub returns-in-Ok-clause-ok : goal.returns-in-Ok-clause-ok
returns-in-Ok-clause-ok c =
    let bytes = c.args.bytes.now in
    let width : Wide ≡ width_of bytes = sym (ap (λ (b : Bool). cond b Wide Legacy) (sym c.is_wide.ensures ∙ c.if-is_wide.true)) in
    (c.in-Ok.decoded.skipped, subst (λ (w : Width). Reads w bytes c.in-Ok.decoded.entry c.in-Ok.decoded.skipped) width c.in-Ok.ensures.ok)
