use Rattle.std.proofs.Common.{◌==◌, ◌+◌, ◌∷◌, take, ap, ◌∙◌, arith}
use Rattle.std.specs.List.{slice_split}
use Rattle.screen_calls.proofs.CutLaws.{split_none, split_at, rest_of}
use Rattle.screen_calls.proofs.cuts.cut_at.Goals as goal

pub returns-then-b-byte-clause-parts : goal.returns-then-b-byte-clause-parts
returns-then-b-byte-clause-parts c =
    let text = c.args.text.now in
    let place = c.loop-place.place in
    split_at c.args.byte text place (omega arith) c.if-b-byte.true c.loop-place.invariant
    ∙ ap (λ t. take place text ∷ slice_split (λ b. b == c.args.byte) t) (rest_of text (place + 1))

pub returns-clause-parts : goal.returns-clause-parts
returns-clause-parts c = split_none c.args.byte c.args.text.now (λ k lt. c.loop-place.invariant k (omega arith))
