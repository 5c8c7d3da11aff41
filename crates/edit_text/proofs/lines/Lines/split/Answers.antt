use Rattle.std.proofs.Common.{◌∙◌}
use Rattle.edit_text.proofs.InverseLaws.{split_read}
use Rattle.edit_text.proofs.lines.Lines.split.Goals as goal

pub returns-clause-ok : goal.returns-clause-ok
returns-clause-ok c =
    rw (c.in_ok-insert.ensures.items, c.in_ok-rest.ensures.ok, c.in_ok-rest.ensures.rest)
    (split_read c.args.self.now c.reserve.new.self.items c.args.place c.index_mut.result.now (c.reserve.ensures.items ∙ c.self.view_is) c.requires.line c.index_mut.ensures.value)
