use Rattle.std.proofs.Common.{ap, rules, ◌∙◌, ◌++◌, ◌∷◌, []}
use Rattle.scr_term.specs.Operations.States.{spot_after}
use Rattle.scr_plan.proofs.JoiningLaws.{put_goes}
use Rattle.scr_plan.proofs.drafts.Draft.put.Goals as goal

pub returns-clause-all : goal.returns-clause-all
returns-clause-all c =
    put_goes c.run_laws.ensures _ c.size-size.ensures.profile (c.profiles_have.ensures _ c.size-size.ensures.profile) c.args.code c.requires.has c.args.self.now _ c.args.row c.args.column c.requires.here
    (λ kept. c.in_ok-keep.ensures.ops kept ∙ ap (λ op. c.args.self.now.ops.items ++ op ∷ []) c.written_by.ensures) c.in_ok-keep.ensures.left (search rules) c.in_ok-keep.ensures.keeps (c.spot_after-self.ensures ∙ ap (λ n. spot_after n c.args.row c.args.column) c.size-size.ensures.columns) c.in_ok-keep.ensures.pen
