use Rattle.std.proofs.Common.{ap, arith, option_map, subst, sym, ◌∙◌, ◌-◌, filter}
use Rattle.std.specs.List.{flat_map}
use Rattle.scr_plan.specs.Code.Joinings.{Continues}
use Rattle.scr_plan.specs.Code.Painters.{part_places, row_differs, row_paints}
use Rattle.scr_plan.proofs.JoinedRowLaws.{behind_by, left_by, unlike_goes}
use Rattle.scr_plan.proofs.drafts.Draft.count_unlike.Goals as goal

pub returns-clause-all : goal.returns-clause-all
returns-clause-all c =
    let picture = c.args.scene.now.picture.now in
    let before = option_map (λ looks. looks.now) c.args.line.now.before in
    let next = c.unlike_end-next.result in
    subst (λ new. Continues c.args.scene.now.profile.now c.args.self.now new (flat_map (row_paints c.args.scene.now.painter picture before) (filter (row_differs c.args.scene.now.painter picture before) (part_places c.args.column (next - c.args.column) c.args.line.now.row))))
    (sym c.count_each.ensures)
    (unlike_goes c.run_laws.ensures c.profiles_have.ensures _ c.size-size.ensures.profile c.args.scene.now.painter c.requires.scene.painter picture c.size-picture.ensures.picture (sym c.requires.scene.fits.columns) before c.args.line.now.row c.args.column next
    c.unlike_end-next.ensures.more (omega (arith, c.unlike_end-next.ensures.end, c.requires.end)) c.args.self.now c.join_begin_unless.new.self c.args.left c.args.pen c.requires.left c.requires.pen c.requires.counts c.in_ok-join_begin_unless.ensures.spot
    c.in_ok-join_begin_unless.ensures.all (c.unlike_end-next.ensures.unlike c.requires.unlike) c.unlike_end-next.ensures.alike)

pub returns-clause-left : goal.returns-clause-left
returns-clause-left c =
    left_by c.args.scene.now.painter c.args.scene.now.picture.now (option_map (λ looks. looks.now) c.args.line.now.before) c.args.line.now.row c.args.column c.unlike_end-next.result c.unlike_end-next.ensures.more c.args.pen c.requires.pen
    (c.unlike_end-next.ensures.unlike c.requires.unlike) c.unlike_end-next.ensures.alike

pub returns-clause-after : goal.returns-clause-after
returns-clause-after c =
    let next = c.unlike_end-next.result in
    let same = c.count_each.ensures in (
      ap (λ j. j.pen) same ∙ c.in_ok-join_begin_unless.ensures.pen,
      λ wide. ap (λ j. j.spot) same ∙ behind_by c.args.scene.now.profile.now.columns c.args.line.now.row c.args.column next c.unlike_end-next.ensures.more (omega (arith, wide, c.requires.scene.fits.columns)),
    )
