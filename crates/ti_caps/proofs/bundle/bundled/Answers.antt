use Rattle.std.proofs.Common.{◌∙◌, ap}
use Rattle.ti_caps.specs.Description.{bare}
use Rattle.ti_caps.proofs.BundledLaws.{texts_pass, bundled_is}
use Rattle.ti_caps.proofs.bundle.bundled.Goals as goal

pub set_texts-requires : goal.set_texts-requires
set_texts-requires c = texts_pass (λ p. (p.0.0, p.1.now)) c.texts.result.now c.texts.ensures

pub returns-clause-entry : goal.returns-clause-entry
returns-clause-entry c =
    bundled_is _ c.texts.ensures _ _ _ _ (c.in_ok-entry.ensures.ok ∙ ap bare c.as_bytes.ensures.value) c.in_ok-set_flags.ensures.ok c.in_ok-set_numbers.ensures.ok
    c.in_ok-set_texts.ensures.ok
