use Rattle.std.proofs.Common.{◌≡◌, ◌⊎◌, Some, rules, subst, sym, option_map}
use Rattle.std.proofs.lemmas.Result.{err_from_is_err_and}
use Rattle.scr_term.specs.declared.operations.capability.Capability.TheVariants.{Cr}
use Rattle.scr_term.specs.declared.operations.profile_faults.ProfileFault.TheVariants.{BadString, NoMemory}
use Rattle.scr_term.specs.Operations.Admission.{first_where, is_bad_string, named_text}
use Rattle.scr_term.proofs.AdmissionLaws.{programs_more, first_more, first_bad}
use Rattle.scr_term.proofs.operations.admission.programs.Goals as goal

pub returns-in_err-program-clause-judged : goal.returns-in_err-program-clause-judged
returns-in_err-program-clause-judged c =
    let entry = c.args.entry.now in
    let capabilities = c.args.capabilities.now in
    let p = err_from_is_err_and c.from_residual.result c.from_residual.ensures.1 in
    let why = first_bad entry capabilities c.loop-capability.capability-index Cr _ c.loop-capability-test.true c.in_err-program.ensures.judged c.loop-capability.invariant.1 in
    rw p.1 (subst (λ fault. (fault ≡ NoMemory) ⊎ (option_map (λ x. BadString (named_text x)) (first_where (is_bad_string entry) capabilities) ≡ Some fault)) (sym p.2) why)

pub loop-capability-preserved : goal.loop-capability-preserved
loop-capability-preserved c =
    let entry = c.args.entry.now in
    let capabilities = c.args.capabilities.now in
    let index = c.loop-capability.capability-index in
    (programs_more entry capabilities index Cr c.loop-capability.programs.items c.add.new.programs.items c.in_ok-program.program c.loop-capability-test.true c.in_ok-program.ensures.program (search rules) c.loop-capability.invariant.0, first_more entry capabilities index Cr c.loop-capability-test.true c.in_ok-program.ensures.judged c.loop-capability.invariant.1)
