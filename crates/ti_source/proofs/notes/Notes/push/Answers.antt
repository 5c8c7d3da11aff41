use Rattle.std.proofs.Common.{◌≡◌, ◌∙◌, ◌+◌, ◌++◌, ◌∷◌, [], length, ap, rules, arith}
use Rattle.std.proofs.lemmas.List.{length-append}
use Rattle.ti_source.proofs.NoteLaws.{in_order-push, notes-push}
use Rattle.ti_source.proofs.notes.Notes.push.Goals as goal

pub invariant_of-self-else-is_err : goal.invariant_of-self-else-is_err
invariant_of-self-else-is_err c =
    let pushed : c.push.new.self.items ≡ c.self.inside.places.items ++ (record { line = c.args.line; cause = c.args.cause; end = c.in_ok-end.end }) ∷ [] = search rules in
    let names = c.self.inside.names.items in
    let sized : c.self.inside.names.len ≡ length names = search rules in
    let end : c.in_ok-end.end ≡ length names + length c.args.name.now = search rules in
    let all : length c.extend_from_slice.new.self.items ≡ length names + length c.args.name.now = ap length c.in_ok-extend_from_slice.ensures.items ∙ length-append names c.args.name.now in
    rw (all, ← end, pushed) (in_order-push 0 (length names) c.self.inside.places.items _ c.self.invariant (omega (arith, end)))

pub returns : goal.returns
returns c =
    let pushed : c.push.new.self.items ≡ c.self.inside.places.items ++ (record { line = c.args.line; cause = c.args.cause; end = c.in_ok-end.end }) ∷ [] = search rules in
    let names = c.self.inside.names.items in
    let sized : c.self.inside.names.len ≡ length names = search rules in
    let end : c.in_ok-end.end ≡ length names + length c.args.name.now = search rules in
    rw (pushed, c.in_ok-extend_from_slice.ensures.items, ← c.self.view_is) (notes-push 0 names c.args.name.now c.self.inside.places.items _ c.self.invariant end)
