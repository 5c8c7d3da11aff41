use Rattle.std.proofs.Common.{◌∙◌, ap, ◌+◌, ◌++◌, set, suc}
use Rattle.std.specs.List.{remove}
use Rattle.std.proofs.lemmas.List.{with_items_is}
use Rattle.edit_text.specs.Lines.{line_at}
use Rattle.edit_text.proofs.InverseLaws.{join_is}
use Rattle.edit_text.proofs.lines.Lines.join.Goals as goal

pub returns-clause-ok : goal.returns-clause-ok
returns-clause-ok c =
    let whole = c.deref_mut.ensures.value ∙ c.self.view_is in
    c.remove.ensures.items ∙ ap (λ ls. remove ls (c.args.line + 1)) (with_items_is c.self.inside.0 c.append_next.new.lines (c.append_next.auto.lines ∙ c.deref_mut.ensures.len) ∙ c.in_ok-append_next.ensures.ok ∙ ap (λ ls. set ls c.args.line (line_at ls c.args.line ++ line_at ls (suc c.args.line))) whole) ∙ join_is c.args.self.now c.args.line c.requires
