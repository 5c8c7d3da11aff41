use Rattle.std.proofs.Common.{arith, get_or, option_map, rules, subst, sym, true, false, ap, Some, ◌≡◌, ◌∙◌, ◌<◌}
use Rattle.scr_term.specs.Operations.Texts.{has, put_of}
use Rattle.scr_cells.specs.CellViews.{blank_cell}
use Rattle.scr_cells.specs.Characters.{IsCharacter, seen_character}
use Rattle.scr_cells.specs.Grids.{grid_at}
use Rattle.scr_plan.proofs.JoinLaws.{differs_by, one_and_more, painted, passed, place_shown}
use Rattle.scr_plan.proofs.JoinedRowLaws.{character_is, painted_goes, passed_goes}
use Rattle.scr_plan.proofs.PlaceLaws.{seen_had}
use Rattle.scr_plan.proofs.drafts.Draft.join_next.Goals as goal

pub returns-then-is_shown_in-clause-all : goal.returns-then-is_shown_in-clause-all
returns-then-is_shown_in-clause-all c =
    let before = option_map (λ looks. looks.now) c.args.line.now.before in
    let shown : c.is_shown_in.result ≡ true = search rules in
    let more : c.args.column < c.unlike_from-next.result = omega (arith, c.unlike_from-next.ensures.from) in
    passed_goes c.args.scene.now.profile.now c.args.scene.now.painter c.args.scene.now.picture.now before c.args.line.now.row c.args.column c.unlike_from-next.result c.args.self.now more
    (one_and_more c.args.scene.now.painter c.args.scene.now.picture.now before c.args.line.now.row c.args.column c.unlike_from-next.result
    (place_shown c.args.scene.now.painter c.args.scene.now.picture.now c.args.line.now.row before c.args.column c.args.line.now.cells.now c.seen_in-code.result.0 c.seen_in-code.result.1 c.requires.line.cells c.seen_in-code.ensures.code c.seen_in-code.ensures.pen
    (sym c.is_shown_in.ensures ∙ shown)) c.unlike_from-next.ensures.same)

pub returns-then-is_shown_in-clause-left : goal.returns-then-is_shown_in-clause-left
returns-then-is_shown_in-clause-left c =
    let before = option_map (λ looks. looks.now) c.args.line.now.before in
    let shown : c.is_shown_in.result ≡ true = search rules in
    let more : c.args.column < c.unlike_from-next.result = omega (arith, c.unlike_from-next.ensures.from) in
    sym (passed c.args.scene.now.painter c.args.scene.now.picture.now before c.args.line.now.row c.args.column c.unlike_from-next.result more
    (one_and_more c.args.scene.now.painter c.args.scene.now.picture.now before c.args.line.now.row c.args.column c.unlike_from-next.result
    (place_shown c.args.scene.now.painter c.args.scene.now.picture.now c.args.line.now.row before c.args.column c.args.line.now.cells.now c.seen_in-code.result.0 c.seen_in-code.result.1 c.requires.line.cells c.seen_in-code.ensures.code c.seen_in-code.ensures.pen
    (sym c.is_shown_in.ensures ∙ shown)) c.unlike_from-next.ensures.same)).1

pub join_write-requires-clause-character : goal.join_write-requires-clause-character
join_write-requires-clause-character c =
    let charset = c.args.scene.now.painter.charset in
    let is : c.seen_in-code.result.0 ≡ seen_character charset (grid_at blank_cell c.args.scene.now.picture.now.lines c.args.line.now.row c.args.column).character
    = c.seen_in-code.ensures.code ∙ ap (λ cells. seen_character charset (get_or cells c.args.column blank_cell).character) c.requires.line.cells in
    subst IsCharacter (sym is) (c.character_laws.ensures.seen charset _ (character_is _ c.size-size.ensures.picture c.args.line.now.row c.args.column))

pub join_write-requires-clause-has : goal.join_write-requires-clause-has
join_write-requires-clause-has c =
    let charset = c.args.scene.now.painter.charset in
    let profile = c.args.scene.now.profile.now in
    let is : c.seen_in-code.result.0 ≡ seen_character charset (grid_at blank_cell c.args.scene.now.picture.now.lines c.args.line.now.row c.args.column).character
    = c.seen_in-code.ensures.code ∙ ap (λ cells. seen_character charset (get_or cells c.args.column blank_cell).character) c.requires.line.cells in
    ap (λ n. has profile (put_of n)) is
    ∙ ap (λ p. has profile (put_of (seen_character p.charset (grid_at blank_cell c.args.scene.now.picture.now.lines c.args.line.now.row c.args.column).character))) c.requires.scene.painter
    ∙ seen_had profile (c.profiles_have.ensures profile c.size-profile.ensures.profile) _ (character_is _ c.size-size.ensures.picture c.args.line.now.row c.args.column)

pub returns-then-self-clause-left : goal.returns-then-self-clause-left
returns-then-self-clause-left c =
    let before = option_map (λ looks. looks.now) c.args.line.now.before in
    let unlike : c.is_shown_in.result ≡ false = search rules in
    ap (λ pen. Some pen) (ap (λ look. look.pen) (differs_by c.args.scene.now.painter c.args.scene.now.picture.now c.args.line.now.row before c.args.column c.args.line.now.cells.now c.seen_in-code.result.0 c.seen_in-code.result.1 c.requires.line.cells c.seen_in-code.ensures.code c.seen_in-code.ensures.pen))
    ∙ sym (painted c.args.scene.now.painter c.args.scene.now.picture.now before c.args.line.now.row c.args.column
    (place_shown c.args.scene.now.painter c.args.scene.now.picture.now c.args.line.now.row before c.args.column c.args.line.now.cells.now c.seen_in-code.result.0 c.seen_in-code.result.1 c.requires.line.cells c.seen_in-code.ensures.code c.seen_in-code.ensures.pen
    (sym c.is_shown_in.ensures ∙ unlike)))

pub returns-then-self-clause-all : goal.returns-then-self-clause-all
returns-then-self-clause-all c =
    let before = option_map (λ looks. looks.now) c.args.line.now.before in
    let unlike : c.is_shown_in.result ≡ false = search rules in
    painted_goes c.args.scene.now.profile.now c.args.scene.now.painter c.args.scene.now.picture.now before c.args.line.now.row c.args.column c.args.self.now c.join_write.new.self c.args.left (record { character = c.seen_in-code.result.0; pen = c.seen_in-code.result.1 })
    (place_shown c.args.scene.now.painter c.args.scene.now.picture.now c.args.line.now.row before c.args.column c.args.line.now.cells.now c.seen_in-code.result.0 c.seen_in-code.result.1 c.requires.line.cells c.seen_in-code.ensures.code c.seen_in-code.ensures.pen
    (sym c.is_shown_in.ensures ∙ unlike)) c.requires.left
    (differs_by c.args.scene.now.painter c.args.scene.now.picture.now c.args.line.now.row before c.args.column c.args.line.now.cells.now c.seen_in-code.result.0 c.seen_in-code.result.1 c.requires.line.cells c.seen_in-code.ensures.code c.seen_in-code.ensures.pen)
    c.in_ok-join_write.ensures.all

pub count_unlike-requires-clause-unlike : goal.count_unlike-requires-clause-unlike
count_unlike-requires-clause-unlike c =
    let before = option_map (λ looks. looks.now) c.args.line.now.before in
    let unlike : c.is_shown_in.result ≡ false = search rules in
    place_shown c.args.scene.now.painter c.args.scene.now.picture.now c.args.line.now.row before c.args.column c.args.line.now.cells.now c.seen_in-code.result.0 c.seen_in-code.result.1 c.requires.line.cells c.seen_in-code.ensures.code c.seen_in-code.ensures.pen
    (sym c.is_shown_in.ensures ∙ unlike)

pub count_unlike-requires-clause-pen : goal.count_unlike-requires-clause-pen
count_unlike-requires-clause-pen c =
    let before = option_map (λ looks. looks.now) c.args.line.now.before in
    ap (λ look. look.pen) (differs_by c.args.scene.now.painter c.args.scene.now.picture.now c.args.line.now.row before c.args.column c.args.line.now.cells.now c.seen_in-code.result.0 c.seen_in-code.result.1 c.requires.line.cells c.seen_in-code.ensures.code c.seen_in-code.ensures.pen)
