use Rattle.std.proofs.Common.{◌≡◌, ◌∙◌, ◌≤◌, ◌&&◌, false, true, ap, sym, arith, ◌∷◌, [], length, take, drop}
use Rattle.std.proofs.lemmas.List.{length-append, length-drop, take-append-le}
use Rattle.scr_keys.specs.Keys.{first_of, goes_on}
use Rattle.scr_keys.proofs.DecideLaws.{decide_full, decide_left, decide_more, ends, whole_rest}
use Rattle.scr_keys.proofs.KeyLaws.{count_some}
use Rattle.scr_keys.proofs.readers.decide.Goals as goal

pub returns-then-len-room-clause-full : goal.returns-then-len-room-clause-full
returns-then-len-room-clause-full c = λ _.
    let rest = whole_rest c.loop-start.start c.args.bytes.now in
    let waits : (c.args.more && goes_on c.args.table.now (drop c.loop-start.start c.args.bytes.now)) ≡ false = sym (c.waits.ensures ∙ ap (λ x. c.args.more && goes_on c.args.table.now x) rest) ∙ c.if-not-waits.true in
    let count : 1 ≤ (first_of c.args.table.now (drop c.loop-start.start c.args.bytes.now)).1 = count_some c.args.table.now (drop c.loop-start.start c.args.bytes.now) (omega (arith, c.loop-start-test.true, length-drop c.loop-start.start c.args.bytes.now)) in
    decide_full c.args.more c.args.table.now c.args.bytes.now c.loop-start.start c.loop-start.queue.items c.args.queue.now.items _ c.loop-start-test.true waits count
    (omega (arith, c.if-len-room.true, c.len.ensures, c.longest-room.ensures.value)) c.loop-start.invariant.keys

pub loop-start-preserved : goal.loop-start-preserved
loop-start-preserved c =
    let rest = whole_rest c.loop-start.start c.args.bytes.now in
    let waits : (c.args.more && goes_on c.args.table.now (drop c.loop-start.start c.args.bytes.now)) ≡ false = sym (c.waits.ensures ∙ ap (λ x. c.args.more && goes_on c.args.table.now x) rest) ∙ c.if-not-waits.true in
    let first = c.first_key-key.ensures.first ∙ ap (first_of c.args.table.now) rest in
    record {
      inside = omega (arith, c.first_key-key.ensures.few, ap length rest, length-drop c.loop-start.start c.args.bytes.now, c.loop-start-test.true);
      keys = decide_more c.args.more c.args.table.now c.args.bytes.now c.loop-start.start c.loop-start.queue.items c.args.queue.now.items c.push_reserved.new.self.items c.first_key-key.result c.loop-start-test.true waits first
          c.first_key-key.ensures.some c.push_reserved.ensures.items c.loop-start.invariant.keys;
      left = decide_left c.args.more c.args.table.now c.args.bytes.now c.loop-start.start c.first_key-key.result c.loop-start-test.true waits first c.first_key-key.ensures.some c.loop-start.invariant.left;
      kept = ap (take (length c.args.queue.now.items)) c.push_reserved.ensures.items ∙ take-append-le (length c.args.queue.now.items) c.loop-start.queue.items _ c.loop-start.invariant.longer ∙ c.loop-start.invariant.kept;
      longer = omega (arith, c.loop-start.invariant.longer, ap length c.push_reserved.ensures.items, length-append c.loop-start.queue.items (c.first_key-key.result.0 ∷ []));
      few = omega (arith, ap length c.push_reserved.ensures.items, length-append c.loop-start.queue.items (c.first_key-key.result.0 ∷ []), c.if-len-room.false, c.len.ensures, c.longest-room.ensures.value);
      capacity = c.push_reserved.ensures.capacity ∙ c.loop-start.invariant.capacity;
    }

pub returns-else-not-waits-clause-left : goal.returns-else-not-waits-clause-left
returns-else-not-waits-clause-left c =
    let rest = whole_rest c.loop-start.start c.args.bytes.now in
    let waits : (c.args.more && goes_on c.args.table.now (drop c.loop-start.start c.args.bytes.now)) ≡ true = sym (c.waits.ensures ∙ ap (λ x. c.args.more && goes_on c.args.table.now x) rest) ∙ c.if-not-waits.false in
    sym ((ends c.args.more c.args.table.now (drop c.loop-start.start c.args.bytes.now) (λ _. waits)).1) ∙ c.loop-start.invariant.left
