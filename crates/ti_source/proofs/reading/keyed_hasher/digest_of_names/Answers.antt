use Rattle.std.proofs.Common.{rules, ◌≡◌, [], ◌∷◌, refl, sym}
use Rattle.ti_source.proofs.KeyLaws.{goes-in, goes-on, is-all}
use Rattle.ti_source.proofs.reading.keyed_hasher.digest_of_names.Goals as goal

pub loop-line-init : goal.loop-line-init
loop-line-init c =
    ([], c.new-digest.ensures, rw (c.into_iter-line-iterator.ensures.into_iter_gives, c.lines_with_terminator-line-items.ensures.value) refl)

pub loop-line-preserved-then-begins_entry : goal.loop-line-preserved-then-begins_entry
loop-line-preserved-then-begins_entry c =
    let (done, holds, all) = c.loop-line.invariant in
    let first : c.loop-line.line-iterator ≡ c.in-Some.line.now ∷ c.next.new.self = search rules in
    (_, c.update.ensures done holds, goes-in c.loop-line.line-iterator c.next.new.self c.in-Some.line.now done _ first (sym c.if-begins_entry.ensures) all)

pub loop-line-preserved : goal.loop-line-preserved
loop-line-preserved c =
    let (done, holds, all) = c.loop-line.invariant in
    let first : c.loop-line.line-iterator ≡ c.in-Some.line.now ∷ c.next.new.self = search rules in
    (done, holds, goes-on c.loop-line.line-iterator c.next.new.self c.in-Some.line.now done _ first (sym c.if-begins_entry.ensures) all)

pub returns : goal.returns
returns c =
    let (done, holds, all) = c.loop-line.invariant in
    let none : c.loop-line.line-iterator ≡ [] = search rules in
    rw (← is-all c.loop-line.line-iterator done _ none all) (c.finalize.ensures done holds)
