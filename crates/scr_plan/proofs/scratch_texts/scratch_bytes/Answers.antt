use Rattle.std.proofs.Common.{◌≡◌, true, subst, sym, ◌∙◌}
use Rattle.std.specs.List.{All}
use Rattle.scr_term.specs.Operations.Texts.{has}
use Rattle.scr_plan.proofs.ScratchLaws.{scratch_had}
use Rattle.scr_plan.proofs.scratch_texts.scratch_bytes.Goals as goal

pub rendered-requires : goal.rendered-requires
rendered-requires c =
    subst (λ ops. All (λ op. has c.args.profile.now op ≡ true) ops) (sym (c.deref.ensures.value ∙ c.ops.view_is ∙ c.in_ok-ops.ensures))
    (scratch_had c.scratch_shows.ensures c.run_laws.ensures c.blank_laws.ensures _ c.size-profile.ensures.profile c.args.picture.now c.size-picture.ensures.picture c.requires)
