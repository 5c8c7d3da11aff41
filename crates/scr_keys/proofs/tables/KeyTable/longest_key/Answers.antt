use Rattle.std.proofs.Common.{◌∙◌, ap, arith}
use Rattle.scr_keys.specs.Code.Maps.{longest_like}
use Rattle.scr_keys.proofs.KeyLaws.{longest_of_min}
use Rattle.scr_keys.proofs.tables.KeyTable.longest_key.Goals as goal

pub loop-len-init : goal.loop-len-init
loop-len-init c = record {
  inside = omega (arith, c.min-len.ensures);
  same = longest_of_min c.args.self.now c.args.bytes.now c.min-len.result c.longest_like.result c.min-len.ensures (c.longest_like.ensures ∙ ap (λ k. longest_like k c.args.bytes.now) c.self.view_is);
}
