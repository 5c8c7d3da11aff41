use Rattle.std.proofs.Common.{◌≡◌, ◌∙◌, ◌<◌, ◌+◌, ◌++◌, ◌∷◌, [], refl, ap, sym, arith, drop, length, map, take}
use Rattle.std.proofs.lemmas.List.{drop-drop, drop-set-lt, map_push, take-append-drop, take_more, take_more_set}
use Rattle.huttavel_c.specs.Replies.{given_cell}
use Rattle.huttavel_c.proofs.calls.copying.copy_cells.Goals as goal

pub loop-place-init : goal.loop-place-init
loop-place-init c = record { done = refl; left = refl }

pub loop-place-preserved : goal.loop-place-preserved
loop-place-preserved c =
    let i = c.loop-place.place in
    let line = c.args.line.now in
    let cells = c.loop-place.cells in
    let cell = c.index-line-place.result in
    let in_line : i < length line = omega (arith, c.loop-place-test.true, c.min-count.ensures) in
    let in_cells : i < length cells = omega (arith, c.loop-place-test.true, c.min-count.ensures, c.loop-place.auto.cells) in
    record {
      done =
          take_more_set cells i c.given.result in_cells
          ∙ ap (λ xs. xs ++ c.given.result ∷ []) c.loop-place.invariant.done
          ∙ ap (λ x. map given_cell (take i line) ++ x ∷ []) (c.given.ensures ∙ ap given_cell c.index-line-place.is)
          ∙ sym (ap (map given_cell) (take_more line i cell in_line) ∙ map_push given_cell (take i line) _);
      left =
          drop-set-lt (i + 1) cells i c.given.result (omega arith)
          ∙ sym (drop-drop 1 i cells) ∙ ap (drop 1) c.loop-place.invariant.left ∙ drop-drop 1 i c.args.cells.now;
    }

pub returns-clause-cells : goal.returns-clause-cells
returns-clause-cells c =
    let i = c.loop-place.place in
    let n = c.min-count.result in
    let all : i ≡ n = omega (arith, c.loop-place-test.false, c.loop-place.auto.place-end) in
    sym (take-append-drop i c.loop-place.cells)
    ∙ (λ k. c.loop-place.invariant.done k ++ c.loop-place.invariant.left k)
    ∙ ap (λ m. map given_cell (take m c.args.line.now) ++ drop m c.args.cells.now) all
