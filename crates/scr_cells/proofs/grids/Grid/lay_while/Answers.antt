use Rattle.std.proofs.Common.{◌+◌, ◌-◌, ◌∙◌, ap, arith, drop, length, min, sym, take}
use Rattle.std.proofs.lemmas.List.{length-take-le, take_min}
use Rattle.scr_cells.specs.Grids.{GridView, line_with_run}
use Rattle.scr_cells.specs.MadeRuns.{made_while}
use Rattle.scr_cells.proofs.MadeRunLaws.{lent_first_are_put, made_fits}
use Rattle.scr_cells.proofs.grids.Grid.lay_while.Goals as goal

pub returns-clause-count : goal.returns-clause-count
returns-clause-count g c = λ f h.
    let wide = ap (λ (v : GridView _). v.columns) c.self.view_is in
    c.lay_made.ensures.count f h
    ∙ ap (λ n. length (made_while f (take n c.args.sources.now))) (c.min-count.ensures ∙ ap (λ n. min (n - c.args.from) (length c.args.sources.now)) wide)
    ∙ ap (λ xs. length (made_while f xs)) (take_min (c.args.self.now.columns - c.args.from) c.args.sources.now)

pub returns-clause-laid : goal.returns-clause-laid
returns-clause-laid g c = λ f h.
    let start = c.place-start.result in
    let xs = c.args.sources.now in
    let wide = ap (λ (v : GridView _). v.columns) c.self.view_is in
    let same = ap (λ n. take n xs) (c.min-count.ensures ∙ ap (λ n. min (n - c.args.from) (length xs)) wide) ∙ take_min (c.args.self.now.columns - c.args.from) xs in
    let run = made_while f (take (c.args.self.now.columns - c.args.from) xs) in
    let part = take (start + c.min-count.result - start) (drop start c.deref_mut.result.now) in
    let new = c.lay_made.ensures.laid f h ∙ ap (λ sources. line_with_run part 0 (made_while f sources)) same in
    let few = made_fits f (take (c.args.self.now.columns - c.args.from) xs) in
    let many = sym (ap length same) ∙ length-take-le c.min-count.result xs (omega (arith, c.min-count.ensures)) in
    lent_first_are_put _ _ c.self.inside.items _ c.lay_made.new.elements run _ c.args.row c.args.from start (start + c.min-count.result - start) c.self.view_is c.self.invariant c.requires.row
    (omega (arith, wide, c.min-count.ensures)) (omega (arith, few, many)) c.deref_mut.ensures.value new c.place-start.ensures
