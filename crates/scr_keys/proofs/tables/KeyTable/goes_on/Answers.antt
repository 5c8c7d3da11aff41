use Rattle.std.proofs.Common.{◌∙◌, ap}
use Rattle.scr_keys.specs.Code.Maps.{longest_like}
use Rattle.scr_keys.proofs.FirstLaws.{goes_no_further}
use Rattle.scr_keys.proofs.tables.KeyTable.goes_on.Goals as goal

pub returns-else-bytes-longest_like : goal.returns-else-bytes-longest_like
returns-else-bytes-longest_like c =
    goes_no_further c.args.self.now c.args.bytes.now c.longest_like.result (c.longest_like.ensures ∙ ap (λ k. longest_like k c.args.bytes.now) c.self.view_is) c.if-bytes-longest_like.false
