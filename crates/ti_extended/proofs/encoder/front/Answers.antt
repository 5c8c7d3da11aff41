use Rattle.std.proofs.Common.{◌≡◌, ◌∙◌, sym, ap, arith, length, subst}
use Rattle.ti_caps.specs.Description.{IsDescription}
use Rattle.ti_binary.specs.Canonical.{canonical}
use Rattle.ti_extended.specs.Whole.{are_capabilities}
use Rattle.ti_binary.specs.declared.encoder.EncFault.TheVariants.{TooLarge}
use Rattle.ti_extended.proofs.FrontLaws.{IsStandard, ok_err, standard_is}
use Rattle.ti_extended.proofs.WholeFileLaws.{is_front}
use Rattle.ti_extended.proofs.encoder.front.Goals as goal

pub widened-requires-clause-room : goal.widened-requires-clause-room
widened-requires-clause-room c =
    let w = c.args.whole.now in
    let d : IsDescription w.entry = subst IsDescription c.entry.ensures.entry c.names-own.ensures.described in
    let is : c.deref.result.now ≡ canonical w.entry =
    c.deref.ensures.value ∙ c.standard.view_is ∙ c.in_ok-standard.ensures.ok ∙ ap canonical c.entry-2.ensures.entry in
    let s : IsStandard w c.deref.result.now = standard_is c.long_names_read_back.ensures w c.entry-2.result.now c.deref.result.now d c.entry-2.ensures.entry is (λ h. ok_err c.in_ok-standard.field-0 TooLarge (c.in_ok-standard.ensures.large.1 h)) in
    s.room

pub widened-requires-clause-numbers : goal.widened-requires-clause-numbers
widened-requires-clause-numbers c =
    let w = c.args.whole.now in
    let d : IsDescription w.entry = subst IsDescription c.entry.ensures.entry c.names-own.ensures.described in
    let is : c.deref.result.now ≡ canonical w.entry =
    c.deref.ensures.value ∙ c.standard.view_is ∙ c.in_ok-standard.ensures.ok ∙ ap canonical c.entry-2.ensures.entry in
    let s : IsStandard w c.deref.result.now = standard_is c.long_names_read_back.ensures w c.entry-2.result.now c.deref.result.now d c.entry-2.ensures.entry is (λ h. ok_err c.in_ok-standard.field-0 TooLarge (c.in_ok-standard.ensures.large.1 h)) in
    omega (arith, s.few, ap length c.numbers.ensures.numbers, c.numbers.ensures.many)

pub returns-in_ok-widened-clause-standard : goal.returns-in_ok-widened-clause-standard
returns-in_ok-widened-clause-standard c =
    let w = c.args.whole.now in
    let d : IsDescription w.entry = subst IsDescription c.entry.ensures.entry c.names-own.ensures.described in
    let is : c.deref.result.now ≡ canonical w.entry =
    c.deref.ensures.value ∙ c.standard.view_is ∙ c.in_ok-standard.ensures.ok ∙ ap canonical c.entry-2.ensures.entry in
    let s : IsStandard w c.deref.result.now = standard_is c.long_names_read_back.ensures w c.entry-2.result.now c.deref.result.now d c.entry-2.ensures.entry is (λ h. ok_err c.in_ok-standard.field-0 TooLarge (c.in_ok-standard.ensures.large.1 h)) in
    s.small

pub returns-in_ok-widened-clause-small : goal.returns-in_ok-widened-clause-small
returns-in_ok-widened-clause-small c =
    let w = c.args.whole.now in
    let d : IsDescription w.entry = subst IsDescription c.entry.ensures.entry c.names-own.ensures.described in
    let is : c.deref.result.now ≡ canonical w.entry =
    c.deref.ensures.value ∙ c.standard.view_is ∙ c.in_ok-standard.ensures.ok ∙ ap canonical c.entry-2.ensures.entry in
    let s : IsStandard w c.deref.result.now = standard_is c.long_names_read_back.ensures w c.entry-2.result.now c.deref.result.now d c.entry-2.ensures.entry is (λ h. ok_err c.in_ok-standard.field-0 TooLarge (c.in_ok-standard.ensures.large.1 h)) in
    (is_front w c.long_names_read_back.ensures d c.entry.ensures.whole (ap are_capabilities (sym c.extended.ensures.extended) ∙ c.names-more.ensures.good) s.small).short
