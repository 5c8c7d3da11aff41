use Rattle.std.proofs.Common.{refl}
use Rattle.ti_caps.specs.Bundled.{bundled_texts}
use Rattle.ti_caps.proofs.bundle.texts.Goals as goal

pub returns : goal.returns
unfolding bundled_texts
returns c = refl
