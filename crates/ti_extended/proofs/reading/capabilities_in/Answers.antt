use Rattle.std.proofs.Common.{◌≡◌, false, inl, inr, sym, ◌∙◌, rules, Err}
use Rattle.ti_extended.specs.Sections.{capabilities_in, is_sound_or_empty}
use Rattle.ti_extended.proofs.ReadingLaws.{found_is, names_err, names_sound, not_good, on_ok_from, sound, unsound}
use Rattle.ti_extended.proofs.reading.capabilities_in.Goals as goal

pub returns-in_err-names-clause-err : goal.returns-in_err-names-clause-err
returns-in_err-names-clause-err c =
    let cut = c.cut-parts.ensures in
    let parts = c.cut-parts.result in
    let e : c.from_residual-in_err-names.result ≡ Err c.in_err-names.field-0.0 = search rules in
    rw e (inr (inl (unsound c.args.width c.args.section.now (sym c.is_empty.ensures ∙ c.if-is_empty.false)
    (names_err c.args.width c.args.section.now parts.table.now parts.texts.now parts.names.now parts.text_count parts.name_count cut.table cut.texts cut.names cut.text_count.0 cut.name_count.0 c.in_err-names.ensures.err))))

pub returns-clause-sound : goal.returns-clause-sound
returns-clause-sound c =
    let cut = c.cut-parts.ensures in
    let parts = c.cut-parts.result in
    let good = names_sound c.args.width c.args.section.now parts.table.now parts.texts.now parts.names.now c.in_ok-names.names.now parts.text_count parts.name_count cut.table cut.texts cut.names cut.text_count.0 cut.name_count.0
    c.in_ok-names.ensures.value c.in_ok-names.ensures.texts c.in_ok-names.ensures.names in
    on_ok_from c.new.result (sound c.args.width c.args.section.now c.in_ok-check_room.ensures.header c.in_ok-check_room.ensures.room good.0 good.1)

pub returns-clause-err : goal.returns-clause-err
returns-clause-err c =
    let cut = c.cut-parts.ensures in
    let parts = c.cut-parts.result in
    let found = c.in_ok-found.found in
    not_good (is_sound_or_empty c.args.width c.args.section.now ≡ false) c.new.result (record { names = found.names.items; numbers = found.numbers.items; texts = found.texts.items }) (capabilities_in c.args.width c.args.section.now) c.new.ensures.err
    (found_is c.args.width c.args.section.now parts.flags.now parts.numbers.now parts.texts.now parts.names.now parts.table.now c.in_ok-names.names.now parts.number_count parts.text_count parts.name_count
    (record { names = found.names.items; numbers = found.numbers.items; texts = found.texts.items })
    cut.flags cut.numbers cut.texts cut.names cut.table cut.number_count.0 cut.text_count.0 cut.name_count.0 c.in_ok-names.ensures.value
    c.in_ok-found.ensures.names c.in_ok-found.ensures.numbers c.in_ok-found.ensures.texts)
