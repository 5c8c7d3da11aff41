-- How the texts of operations join.
use Rattle.std.proofs.Common.{refl, subst, [], ◌∷◌}
use Rattle.scr_term.specs.Operations.Admission.{IsEcma48}
use Rattle.scr_term.specs.Operations.Profiles.{ProfileView, IsProfile}
use Rattle.scr_term.specs.Operations.States.{negative_state}
use Rattle.scr_term.specs.Operations.Steps.{step, runs}
use Rattle.scr_term.specs.Operations.Texts.{bytes_of, all_bytes}
use Rattle.scr_term.specs.Ecma.Meanings.{Leads}
use Rattle.scr_term.specs.Operations.Laws.{BytesActAsTheirOperation, BytesActAsTheirOperations}
use Rattle.scr_term.proofs.ChoiceLaws.{same_some, then_some}
use Rattle.scr_term.proofs.LeadsLaws.{leads-append}
use Rattle.scr_term.proofs.StepLaws.{steps_keep_states}

-- of operations one after another, by the law of one
pub runs_act : BytesActAsTheirOperation → ((profile : ProfileView) → IsEcma48 profile → IsProfile profile) → BytesActAsTheirOperations
runs_act law is_profile profile p old new s [] h =
    subst (λ z. Leads profile.charset profile.rows profile.columns (negative_state old) [] (negative_state z)) (same_some old new h)
    (record { units = []; division = record { whole = refl; each = tt }; meaning = refl })
runs_act law is_profile profile p old new s (op ∷ ops) h =
    let first = then_some (step profile old op) (λ next. runs profile next ops) new h in
    let kept = steps_keep_states profile (is_profile profile p) old first.0 s op first.1 in
    leads-append profile.charset profile.rows profile.columns (negative_state old) (negative_state first.0) (negative_state new) (bytes_of profile op) (all_bytes profile ops)
    (law profile p old first.0 s op first.1)
    (runs_act law is_profile profile p first.0 new kept ops first.2)
