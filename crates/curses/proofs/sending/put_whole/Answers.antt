use Rattle.std.proofs.Common.{◌∙◌, arith}
use Rattle.curses.proofs.CutLaws.{rest_length, taken_more, took_some}
use Rattle.curses.proofs.sending.put_whole.Goals as goal

pub loop-bytes-preserved : goal.loop-bytes-preserved
loop-bytes-preserved g c = record {
  inside = omega (arith, rest_length c.loop-bytes.bytes c.args.text.now, c.in-Ok.ensures.bound, c.loop-bytes.invariant.inside);
  writer = taken_more (g.W.Counted.told c.args.out.now).taken (g.W.Counted.told c.loop-bytes.out).taken (g.W.Counted.told c.put.new.self).taken c.args.text.now c.loop-bytes.bytes c.in-Ok.count
      c.loop-bytes.invariant.writer c.in-Ok.ensures.bytes;
  failed_puts = took_some _ c.in-Ok.count _ _ c.in-Ok.count-test.1 c.in-Ok.ensures.puts ∙ c.loop-bytes.invariant.failed_puts;
  finishes = c.in-Ok.ensures.finishes ∙ c.loop-bytes.invariant.finishes;
}
