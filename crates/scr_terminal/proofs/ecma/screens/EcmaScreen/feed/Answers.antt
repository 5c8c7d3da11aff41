use Rattle.std.proofs.Common.{get_or, refl, rules}
use Rattle.scr_terminal.proofs.EcmaFedLaws.{fed_more}
use Rattle.scr_terminal.proofs.ecma.screens.EcmaScreen.feed.Goals as goal

pub loop-byte-preserved : goal.loop-byte-preserved
loop-byte-preserved c =
    fed_more c.args.self.now c.loop-byte.self c.feed_byte.new.self c.args.piece.now c.loop-byte.byte-index (get_or c.args.piece.now c.loop-byte.byte-index 0)
    c.loop-byte-test.true refl c.loop-byte.invariant c.feed_byte.ensures

pub loop-byte-init : goal.loop-byte-init
loop-byte-init c = search rules
