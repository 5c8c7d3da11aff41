use Rattle.std.proofs.Common.{◌∙◌, ◌++◌, ◌∷◌, [], ap, sym}
use Rattle.std.specs.Prelude.{◌≡◌}
use Rattle.ti_source.specs.declared.note.Note.{Note}
use Rattle.ti_source.proofs.IndexLaws.{take-at}
use Rattle.ti_source.proofs.notes.Notes.to_vec.Goals as goal

pub loop-i-preserved : goal.loop-i-preserved
loop-i-preserved c =
    let note : Note = record { line = c.at-note.result.line; cause = c.at-note.result.cause; name = c.at-note.result.name.now } in
    let same : c.in_ok-from_slice.field-0.items ≡ c.at-note.result.name.now = c.in_ok-from_slice.ensures.items in
    let pushed : c.push.new.self.items ≡ c.loop-i.notes.items ++ note ∷ [] = rw same at c.in_ok-push.ensures.items in
    pushed ∙ ap (λ ns. ns ++ note ∷ []) c.loop-i.invariant ∙ sym (take-at c.args.self.now c.loop-i.i note c.at-note.ensures)
