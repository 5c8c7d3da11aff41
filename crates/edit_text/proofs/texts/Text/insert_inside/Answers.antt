use Rattle.std.proofs.Common.{sym, subst}
use Rattle.edit_text.specs.Lines.{AreLines, inserted}
use Rattle.edit_text.specs.declared.edits.Edit.TheVariants.{Inserted}
use Rattle.edit_text.specs.Code.Edits.{Undoes}
use Rattle.edit_text.specs.Parts.{spelled}
use Rattle.edit_text.proofs.InverseLaws.{insertion_undoes}
use Rattle.edit_text.proofs.KeptLaws.{lines_inserted}
use Rattle.edit_text.proofs.HistoryLaws.{holds_made, view_made}
use Rattle.edit_text.proofs.texts.Text.insert_inside.Goals as goal

pub invariant_of-self-2 : goal.invariant_of-self-2
invariant_of-self-2 c =
    let place = c.args.place in
    holds_made _ _ _ (Inserted place c.args.part) place c.self.inside.lines _ c.self.inside.version _ c.args.self.now c.self.view_is c.reserve.ensures.items c.push_reserved.ensures.items c.requires.line c.requires.column c.self.invariant
    (λ l k. subst (Undoes (Inserted place c.args.part) place c.self.inside.lines) (sym c.in_ok-insert.ensures.ok) (insertion_undoes c.self.inside.lines place c.args.part l k))
    (λ h. subst AreLines (sym c.in_ok-insert.ensures.ok) (lines_inserted c.self.inside.lines place (spelled c.args.part) h c.requires.part))

pub returns-clause-ok : goal.returns-clause-ok
returns-clause-ok c =
    let place = c.args.place in
    view_made _ _ _ (Inserted place c.args.part) place c.self.inside.lines _ c.self.inside.version _ c.args.self.now (λ lines. inserted lines place (spelled c.args.part)) c.self.view_is c.reserve.ensures.items c.push_reserved.ensures.items c.requires.line c.requires.column
    (λ l k. subst (Undoes (Inserted place c.args.part) place c.self.inside.lines) (sym c.in_ok-insert.ensures.ok) (insertion_undoes c.self.inside.lines place c.args.part l k))
    c.saturating_add-self-inside.ensures c.in_ok-insert.ensures.ok
