use Rattle.std.proofs.Common.{◌≡◌, ◌∙◌, ◌+◌, length, ap, rules, arith}
use Rattle.std.proofs.lemmas.List.{length-append}
use Rattle.ti_source.proofs.PartLaws.{ends-push, parts-push}
use Rattle.ti_source.proofs.packed_lists.PackedLists.with.Goals as goal

pub invariant_of-result : goal.invariant_of-result
invariant_of-result g c =
    let items = c.self.inside.items.items in
    let part = c.args.part.items in
    let end : c.in_ok-end.end ≡ length items + length part = search rules in
    let all : length c.append.new.self.items ≡ length items + length part = ap length c.in_ok-append.ensures.items ∙ length-append items part in
    rw (all, ← end, c.in_ok-push.ensures.items) (ends-push 0 (length items) c.self.inside.ends.items c.in_ok-end.end c.self.invariant (omega (arith, end)))

pub returns : goal.returns
returns g c =
    let items = c.self.inside.items.items in
    let part = c.args.part.items in
    let end : c.in_ok-end.end ≡ length items + length part = search rules in
    rw (c.in_ok-push.ensures.items, c.in_ok-append.ensures.items, ← c.self.view_is) (parts-push 0 items part c.self.inside.ends.items c.in_ok-end.end c.self.invariant end)
