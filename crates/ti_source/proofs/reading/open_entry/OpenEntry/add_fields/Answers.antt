use Rattle.std.proofs.Common.{◌∙◌, ◌∷◌, [], Err, ap, option_map, refl, sym}
use Rattle.std.proofs.lemmas.Result.{err_from_is_err_and}
use Rattle.ti_source.specs.Reading.Field.{fields, later_fields}
use Rattle.ti_source.specs.Reading.Sources.{NumberedField, meaning, numbered_fields}
use Rattle.ti_source.specs.Code.Seen.{seen_form}
use Rattle.ti_source.proofs.OpenEntryLaws.{so_far-start, so_far-goes, so_far-fails, so_far-ends}
use Rattle.ti_source.proofs.reading.open_entry.OpenEntry.add_fields.Goals as goal

pub loop-more-init : goal.loop-more-init
loop-more-init c = so_far-start (numbered_fields c.args.line (fields c.args.text.now)) c.args.self.now

pub returns-in_err-add : goal.returns-in_err-add
returns-in_err-add c =
    let p = err_from_is_err_and c.from_residual.result c.from_residual.ensures.1 in
    let here : NumberedField = record { line = c.args.line; form = seen_form c.form_of.result } in
    let first = ap (numbered_fields c.args.line) c.split_field.ensures.cut ∙ ap (λ f. (record { line = c.args.line; form = f }) ∷ numbered_fields c.args.line (later_fields (option_map (λ s. s.now) c.split_field.result.1))) (sym c.form_of.ensures) in
    so_far-fails (numbered_fields c.args.line (fields c.args.text.now)) _ _ here c.args.self.now c.loop-more.self _ _ c.in_err-add.field-0.0 c.loop-more.invariant first (p.1 ∙ ap Err p.2) (rw (p.1, p.2) (c.in_err-add.ensures (meaning here.form) c.meaning_of.ensures))

pub loop-more-preserved : goal.loop-more-preserved
loop-more-preserved c =
    let here : NumberedField = record { line = c.args.line; form = seen_form c.form_of.result } in
    let more = ap (numbered_fields c.args.line) (c.split_field.ensures.cut ∙ ap (λ o. c.split_field.result.0.now ∷ later_fields (option_map (λ s. s.now) o)) c.in-Some.is)
    ∙ ap (λ f. (record { line = c.args.line; form = f }) ∷ numbered_fields c.args.line (fields c.in-Some.more.now)) (sym c.form_of.ensures) in
    so_far-goes (numbered_fields c.args.line (fields c.args.text.now)) _ _ here c.args.self.now c.loop-more.self c.add.new.self c.loop-more.invariant more (c.in_ok-add.ensures (meaning here.form) c.meaning_of.ensures)

pub returns-in-None : goal.returns-in-None
returns-in-None c =
    let here : NumberedField = record { line = c.args.line; form = seen_form c.form_of.result } in
    let more = ap (numbered_fields c.args.line) (c.split_field.ensures.cut ∙ ap (λ o. c.split_field.result.0.now ∷ later_fields (option_map (λ s. s.now) o)) c.in-None.is)
    ∙ ap (λ f. (record { line = c.args.line; form = f }) ∷ []) (sym c.form_of.ensures) in
    so_far-ends (numbered_fields c.args.line (fields c.args.text.now)) [] c.args.self.now c.add.new.self (so_far-goes (numbered_fields c.args.line (fields c.args.text.now)) _ _ here c.args.self.now c.loop-more.self c.add.new.self c.loop-more.invariant more (c.in_ok-add.ensures (meaning here.form) c.meaning_of.ensures)) refl
