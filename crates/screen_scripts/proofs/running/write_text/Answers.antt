use Rattle.std.proofs.Common.{◌+◌, arith}
use Rattle.screen_scripts.proofs.WriteLaws.{appends_kept}
use Rattle.screen_scripts.proofs.WriteLaws.{taken_more, rest_length, taken_is_beginning}
use Rattle.screen_scripts.proofs.running.write_text.Goals as goal

pub returns-in-Ok-eq0-clause-beginning : goal.returns-in-Ok-eq0-clause-beginning
returns-in-Ok-eq0-clause-beginning g c =
    let old = g.W.Write.contents c.args.out.now in
    let new = g.W.Write.contents c.write.new.self in
    taken_is_beginning old new c.args.text.now (c.loop-taken.taken + c.in-Ok-eq0.field-0)
    (taken_more old (g.W.Write.contents c.loop-taken.out) new c.args.text.now c.loop-taken.taken c.in-Ok-eq0.field-0 c.loop-taken.invariant.written c.in-Ok-eq0.ensures.bytes)

pub loop-taken-preserved : goal.loop-taken-preserved
loop-taken-preserved g c = record {
  inside = omega (arith, rest_length c.loop-taken.taken c.args.text.now, c.in-Ok.ensures.bound, c.loop-taken.invariant.inside);
  written = taken_more (g.W.Write.contents c.args.out.now) (g.W.Write.contents c.loop-taken.out) (g.W.Write.contents c.write.new.self) c.args.text.now c.loop-taken.taken c.in-Ok.count
      c.loop-taken.invariant.written c.in-Ok.ensures.bytes;
}

pub returns-in-Err-clause-beginning : goal.returns-in-Err-clause-beginning
returns-in-Err-clause-beginning g c =
    taken_is_beginning (g.W.Write.contents c.args.out.now) (g.W.Write.contents c.write.new.self) c.args.text.now c.loop-taken.taken
    (appends_kept (g.W.Write.contents c.args.out.now) (g.W.Write.contents c.loop-taken.out) (g.W.Write.contents c.write.new.self) _ c.loop-taken.invariant.written c.in-Err.ensures.bytes)
