use Rattle.std.proofs.Common.{sym, subst}
use Rattle.edit_text.specs.Lines.{AreLines, split_at}
use Rattle.edit_text.specs.declared.edits.Edit.TheVariants.{Split}
use Rattle.edit_text.specs.Code.Edits.{Undoes}
use Rattle.edit_text.proofs.InverseLaws.{split_undoes}
use Rattle.edit_text.proofs.KeptLaws.{lines_split}
use Rattle.edit_text.proofs.HistoryLaws.{holds_made, view_made}
use Rattle.edit_text.proofs.texts.Text.split_inside.Goals as goal

pub invariant_of-self-2 : goal.invariant_of-self-2
invariant_of-self-2 c =
    let place = c.args.place in
    holds_made _ _ _ (Split place) place c.self.inside.lines _ c.self.inside.version _ c.args.self.now c.self.view_is c.reserve.ensures.items c.push_reserved.ensures.items c.requires.line c.requires.column c.self.invariant
    (λ l k. subst (Undoes (Split place) place c.self.inside.lines) (sym c.in_ok-split.ensures.ok) (split_undoes c.self.inside.lines place l))
    (λ h. subst AreLines (sym c.in_ok-split.ensures.ok) (lines_split c.self.inside.lines place h))

pub returns-clause-ok : goal.returns-clause-ok
returns-clause-ok c =
    let place = c.args.place in
    view_made _ _ _ (Split place) place c.self.inside.lines _ c.self.inside.version _ c.args.self.now (λ lines. split_at lines place) c.self.view_is c.reserve.ensures.items c.push_reserved.ensures.items c.requires.line c.requires.column
    (λ l k. subst (Undoes (Split place) place c.self.inside.lines) (sym c.in_ok-split.ensures.ok) (split_undoes c.self.inside.lines place l))
    c.saturating_add-self-inside.ensures c.in_ok-split.ensures.ok
