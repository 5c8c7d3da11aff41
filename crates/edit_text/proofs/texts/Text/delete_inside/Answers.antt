use Rattle.std.proofs.Common.{sym, subst}
use Rattle.edit_text.specs.Lines.{AreLines, deleted}
use Rattle.edit_text.proofs.KeptLaws.{lines_deleted}
use Rattle.edit_text.proofs.HistoryLaws.{holds_made, view_made}
use Rattle.edit_text.proofs.texts.Text.delete_inside.Goals as goal

pub invariant_of-self-2 : goal.invariant_of-self-2
invariant_of-self-2 c =
    let place = c.args.place in
    holds_made _ _ _ c.in_ok-edit.edit place c.self.inside.lines _ c.self.inside.version _ c.args.self.now c.self.view_is c.reserve.ensures.items c.push_reserved.ensures.items c.requires.line c.requires.column c.self.invariant
    (λ l k. c.in_ok-edit.ensures.edit)
    (λ h. subst AreLines (sym c.in_ok-edit.ensures.ok) (lines_deleted c.self.inside.lines place c.args.part h))

pub returns-clause-ok : goal.returns-clause-ok
returns-clause-ok c =
    let place = c.args.place in
    view_made _ _ _ c.in_ok-edit.edit place c.self.inside.lines _ c.self.inside.version _ c.args.self.now (λ lines. deleted lines place c.args.part) c.self.view_is c.reserve.ensures.items c.push_reserved.ensures.items c.requires.line c.requires.column
    (λ l k. c.in_ok-edit.ensures.edit)
    c.saturating_add-self-inside.ensures c.in_ok-edit.ensures.ok
