use Rattle.std.proofs.Common.{◌≡◌, rules, subst, sym}
use Rattle.scr_cells.specs.PictureViews.{IsSize}
use Rattle.screen_scripts.specs.declared.commands.Command.{Command}
use Rattle.screen_scripts.specs.Showing.{IsFirst, Opens}
use Rattle.screen_scripts.proofs.StageLaws.{opens}
use Rattle.screen_scripts.proofs.stages.open_stage.Goals as goal

pub returns-clause-ok : goal.returns-clause-ok
returns-clause-ok c =
    let rows : c.in_ok-size.size.rows ≡ c.in-Size.rows = search rules in
    let columns : c.in_ok-size.size.columns ≡ c.in-Size.columns = search rules in
    let stage = c.in_ok-blank_stage.field-0 in
    let first : IsFirst c.args.charset c.in-Size.rows c.in-Size.columns stage = subst (λ n. IsFirst c.args.charset c.in-Size.rows n stage) columns (subst (λ n. IsFirst c.args.charset n c.in_ok-size.size.columns stage) rows c.in_ok-blank_stage.ensures.first) in
    let size : IsSize c.in-Size.rows c.in-Size.columns = subst (λ n. IsSize c.in-Size.rows n) columns (subst (λ n. IsSize n c.in_ok-size.size.columns) rows c.in_ok-size.size.in_range) in
    subst (λ (command : Command). Opens c.args.charset command stage) (sym c.in-Size.is) (opens c.args.charset c.in-Size.rows c.in-Size.columns stage size c.in_ok-blank_stage.ensures.ready first)
