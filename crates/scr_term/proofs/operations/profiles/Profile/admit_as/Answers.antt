use Rattle.std.proofs.Common.{◌∙◌, ◌++◌, Some, inr, ap, map, subst, sym, option_map}
use Rattle.std.proofs.lemmas.Result.{err_from_is_err_and}
use Rattle.ti_caps.specs.declared.table.Kind.TheVariants.{Text}
use Rattle.scr_term.specs.declared.operations.profile_faults.ProfileFault.TheVariants.{LongString}
use Rattle.scr_term.specs.Operations.Admission.{IsRefused, admitted_on, named_text, spare_program}
use Rattle.scr_term.specs.Operations.Capabilities.{each_spare}
use Rattle.scr_term.proofs.AdmissionLaws.{refused_unsuitable, refused_margin, refused_missing, refused_size, refused_bad, refused_long, none_refused, long_first}
use Rattle.scr_term.proofs.operations.profiles.Profile.admit_as.Goals as goal

pub returns-in_err-is_suitable-clause-err : goal.returns-in_err-is_suitable-clause-err
returns-in_err-is_suitable-clause-err c =
    let entry = c.args.entry.now in
    let size = c.args.size in
    let p = err_from_is_err_and c.from_residual.result c.from_residual.ensures.1 in
    rw p.1 (subst (IsRefused entry size) (sym p.2) (refused_unsuitable entry size c.in_err-is_suitable.field-0.0 c.in_err-is_suitable.ensures.judged))

pub returns-in_err-keeps_its_margin-clause-err : goal.returns-in_err-keeps_its_margin-clause-err
returns-in_err-keeps_its_margin-clause-err c =
    let entry = c.args.entry.now in
    let size = c.args.size in
    let p = err_from_is_err_and c.from_residual-in_err-keeps_its_margin.result c.from_residual-in_err-keeps_its_margin.ensures.1 in
    rw p.1 (subst (IsRefused entry size) (sym p.2) (refused_margin entry size c.in_err-keeps_its_margin.field-0.0 c.in_ok-is_suitable.ensures.judged c.in_err-keeps_its_margin.ensures.judged))

pub returns-in_err-has_needed_texts-clause-err : goal.returns-in_err-has_needed_texts-clause-err
returns-in_err-has_needed_texts-clause-err c =
    let entry = c.args.entry.now in
    let size = c.args.size in
    let p = err_from_is_err_and c.from_residual-in_err-has_needed_texts.result c.from_residual-in_err-has_needed_texts.ensures.1 in
    rw p.1 (subst (IsRefused entry size) (sym p.2) (refused_missing entry size c.in_err-has_needed_texts.field-0.0 c.in_ok-is_suitable.ensures.judged c.in_ok-keeps_its_margin.ensures.judged c.in_err-has_needed_texts.ensures.judged))

pub returns-in_err-size-clause-err : goal.returns-in_err-size-clause-err
returns-in_err-size-clause-err c =
    let entry = c.args.entry.now in
    let size = c.args.size in
    let p = err_from_is_err_and c.from_residual-in_err-size.result c.from_residual-in_err-size.ensures.1 in
    rw p.1 (subst (IsRefused entry size) (sym p.2) (refused_size entry size c.in_err-size.field-0.0 c.in_ok-is_suitable.ensures.judged c.in_ok-keeps_its_margin.ensures.judged c.in_ok-has_needed_texts.ensures.judged c.in_err-size.ensures.judged))

pub returns-in_err-programs-clause-err : goal.returns-in_err-programs-clause-err
returns-in_err-programs-clause-err c =
    let entry = c.args.entry.now in
    let size = c.args.size in
    let p = err_from_is_err_and c.from_residual-in_err-programs.result c.from_residual-in_err-programs.ensures.1 in
    rw p.1 (subst (IsRefused entry size) (sym p.2) (refused_bad entry size c.in_err-programs.field-0.0 c.in_ok-is_suitable.ensures.judged c.in_ok-keeps_its_margin.ensures.judged c.in_ok-has_needed_texts.ensures.judged c.in_ok-size.ensures.judged c.in_err-programs.ensures.judged))

pub returns-in-Some-clause-err : goal.returns-in-Some-clause-err
returns-in-Some-clause-err c =
    let entry = c.args.entry.now in
    let long = long_first entry c.deref.result.now c.first_long.result (c.deref.ensures.value ∙ c.in-Ok.ensures ∙ ap (λ l. l ++ map (spare_program entry) each_spare) c.in_ok-programs.ensures.programs) c.first_long.ensures in
    refused_long entry c.args.size _ c.in_ok-is_suitable.ensures.judged c.in_ok-keeps_its_margin.ensures.judged c.in_ok-has_needed_texts.ensures.judged c.in_ok-size.ensures.judged c.in_ok-programs.ensures.judged (inr (sym long ∙ ap (option_map (λ x. LongString (named_text x))) c.in-Some.is ∙ ap (λ s. Some (LongString (Text, s))) (sym c.slot.ensures)))

pub returns-clause-ok : goal.returns-clause-ok
returns-clause-ok c =
    let entry = c.args.entry.now in
    let long = long_first entry c.deref.result.now c.first_long.result (c.deref.ensures.value ∙ c.in-Ok.ensures ∙ ap (λ l. l ++ map (spare_program entry) each_spare) c.in_ok-programs.ensures.programs) c.first_long.ensures in
    record {
      suits = none_refused entry c.args.size c.in_ok-is_suitable.ensures.judged c.in_ok-keeps_its_margin.ensures.judged c.in_ok-has_needed_texts.ensures.judged c.in_ok-size.ensures.judged c.in_ok-programs.ensures.judged (sym long ∙ ap (option_map (λ x. LongString (named_text x))) c.in_default-first_long.is);
      made = subst (λ s. admitted_on c.args.charset entry s c.priced.result) (sym c.in_ok-size.ensures.size) (c.priced.ensures ∙ c.profile.ensures);
    }
