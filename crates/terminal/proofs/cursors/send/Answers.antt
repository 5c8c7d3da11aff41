use Rattle.std.proofs.Common.{◌∙◌, arith}
use Rattle.terminal.proofs.CursorLaws.{rest_length, taken_more, took_some}
use Rattle.terminal.proofs.cursors.send.Goals as goal

pub loop-sent-preserved : goal.loop-sent-preserved
loop-sent-preserved g c = record {
  inside = omega (arith, rest_length c.loop-sent.sent c.args.text.now, c.in-Ok.ensures.bound, c.loop-sent.invariant.inside);
  taken = taken_more (g.W.Counted.told c.args.out.now).taken (g.W.Counted.told c.loop-sent.out).taken (g.W.Counted.told c.put.new.self).taken c.args.text.now c.loop-sent.sent c.in-Ok.count
      c.loop-sent.invariant.taken c.in-Ok.ensures.bytes;
  puts = took_some _ c.in-Ok.count _ _ c.in-Ok.count-test.1 c.in-Ok.ensures.puts ∙ c.loop-sent.invariant.puts;
  finishes = c.in-Ok.ensures.finishes ∙ c.loop-sent.invariant.finishes;
}
