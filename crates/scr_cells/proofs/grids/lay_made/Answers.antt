use Rattle.std.proofs.Common.{◌∙◌, arith, sym}
use Rattle.std.proofs.lemmas.List.{length-set}
use Rattle.scr_cells.proofs.MadeRunLaws.{all_made, made_fits, one_made, stopped}
use Rattle.scr_cells.proofs.grids.lay_made.Goals as goal

pub loop-place-preserved : goal.loop-place-preserved
loop-place-preserved g c =
    let place = c.loop-place.place in
    let xs = c.args.sources.now in
    record {
      len = length-set c.loop-place.elements place c.in-Some.element ∙ c.loop-place.invariant.len;
      made = λ f h.
          one_made f xs place c.args.elements.now c.loop-place.elements c.index-sources-place.result c.in-Some.element c.loop-place-test.true (omega (arith, c.loop-place-test.true, c.requires.many))
          c.index-sources-place.is (sym c.in-Some.is ∙ h _ _ c.make.ensures) (c.loop-place.invariant.made f h);
    }

pub returns-in_default-clause-count : goal.returns-in_default-clause-count
returns-in_default-clause-count g c = λ f h.
    (stopped f c.args.sources.now c.loop-place.place c.args.elements.now c.loop-place.elements c.index-sources-place.result c.loop-place-test.true c.index-sources-place.is
    (sym c.in_default.is ∙ h _ _ c.make.ensures) (c.loop-place.invariant.made f h)).0

pub returns-in_default-clause-laid : goal.returns-in_default-clause-laid
returns-in_default-clause-laid g c = λ f h.
    (stopped f c.args.sources.now c.loop-place.place c.args.elements.now c.loop-place.elements c.index-sources-place.result c.loop-place-test.true c.index-sources-place.is
    (sym c.in_default.is ∙ h _ _ c.make.ensures) (c.loop-place.invariant.made f h)).1

pub returns-clause-count : goal.returns-clause-count
returns-clause-count g c = λ f h.
    let all = (all_made f c.args.sources.now c.loop-place.place c.args.elements.now c.loop-place.elements (omega arith) (c.loop-place.invariant.made f h)).0 in
    let few = made_fits f c.args.sources.now in
    omega (arith, all, few)

pub returns-clause-laid : goal.returns-clause-laid
returns-clause-laid g c = λ f h. (all_made f c.args.sources.now c.loop-place.place c.args.elements.now c.loop-place.elements (omega arith) (c.loop-place.invariant.made f h)).1
