use Rattle.std.proofs.Common.{refl, rules, subst, sym}
use Rattle.screen_sessions.specs.Making.{IsMade}
use Rattle.screen_sessions.proofs.MakingLaws.{both_made, lines_made, virtual_made, window_made, windows_made}
use Rattle.screen_sessions.proofs.sessions.make_call.Goals as goal

pub returns-in-Noutrefresh-clause-made : goal.returns-in-Noutrefresh-clause-made
returns-in-Noutrefresh-clause-made g c =
    subst (λ call. IsMade c.args.screen.now c.noutrefresh.new.self call c.done_answer.result (g.W.Counted.told c.args.out.now) (g.W.Counted.told c.args.out.now)) (sym c.in-Noutrefresh.is)
    (both_made c.args.screen.now c.noutrefresh.new.self _ c.noutrefresh.result c.done_answer.result (g.W.Counted.told c.args.out.now) _ refl refl refl c.noutrefresh.ensures c.done_answer.ensures.value)

pub returns-in-PadNoutrefresh-clause-made : goal.returns-in-PadNoutrefresh-clause-made
returns-in-PadNoutrefresh-clause-made g c =
    subst (λ call. IsMade c.args.screen.now c.pad_noutrefresh.new.self call c.done_answer-in-PadNoutrefresh.result (g.W.Counted.told c.args.out.now) (g.W.Counted.told c.args.out.now)) (sym c.in-PadNoutrefresh.is)
    (both_made c.args.screen.now c.pad_noutrefresh.new.self _ c.pad_noutrefresh.result c.done_answer-in-PadNoutrefresh.result (g.W.Counted.told c.args.out.now) _ refl refl refl c.pad_noutrefresh.ensures c.done_answer-in-PadNoutrefresh.ensures.value)

pub returns-in-SetPair-clause-made : goal.returns-in-SetPair-clause-made
returns-in-SetPair-clause-made g c =
    subst (λ call. IsMade c.args.screen.now c.set_pair.new.self call c.done_answer-in-SetPair.result (g.W.Counted.told c.args.out.now) (g.W.Counted.told c.args.out.now)) (sym c.in-SetPair.is)
    (virtual_made c.args.screen.now c.set_pair.new.self _ c.set_pair.result c.done_answer-in-SetPair.result (g.W.Counted.told c.args.out.now) _ refl refl refl c.set_pair.ensures c.done_answer-in-SetPair.ensures.value)

pub returns-in-SetPairOf-clause-made : goal.returns-in-SetPairOf-clause-made
returns-in-SetPairOf-clause-made g c =
    subst (λ call. IsMade c.args.screen.now c.set_pair_of.new.self call c.done_answer-in-SetPairOf.result (g.W.Counted.told c.args.out.now) (g.W.Counted.told c.args.out.now)) (sym c.in-SetPairOf.is)
    (virtual_made c.args.screen.now c.set_pair_of.new.self _ c.set_pair_of.result c.done_answer-in-SetPairOf.result (g.W.Counted.told c.args.out.now) _ refl refl refl c.set_pair_of.ensures c.done_answer-in-SetPairOf.ensures.value)

pub returns-in_default-clause-made : goal.returns-in_default-clause-made
returns-in_default-clause-made g c =
    windows_made c.args.screen.now c.make_window_call.new.screen c.args.call.now c.make_window_call.result (g.W.Counted.told c.args.out.now)
    (record { called = search rules; updates = search rules; marks = search rules }) c.make_window_call.ensures.told c.make_window_call.ensures.made

pub returns-in-RedrawWindow-clause-made : goal.returns-in-RedrawWindow-clause-made
returns-in-RedrawWindow-clause-made g c =
    subst (λ call. IsMade c.args.screen.now c.redraw_window.new.self call c.done_answer-in-RedrawWindow.result (g.W.Counted.told c.args.out.now) (g.W.Counted.told c.args.out.now)) (sym c.in-RedrawWindow.is)
    (window_made c.memory_laws.ensures c.args.screen.now c.redraw_window.new.self _ c.redraw_window.result c.done_answer-in-RedrawWindow.result (g.W.Counted.told c.args.out.now) c.redraw_window.ensures c.done_answer-in-RedrawWindow.ensures.value)

pub returns-in-RedrawLines-clause-made : goal.returns-in-RedrawLines-clause-made
returns-in-RedrawLines-clause-made g c =
    subst (λ call. IsMade c.args.screen.now c.redraw_lines.new.self call c.done_answer-in-RedrawLines.result (g.W.Counted.told c.args.out.now) (g.W.Counted.told c.args.out.now)) (sym c.in-RedrawLines.is)
    (lines_made c.memory_laws.ensures c.args.screen.now c.redraw_lines.new.self _ _ _ c.redraw_lines.result c.done_answer-in-RedrawLines.result (g.W.Counted.told c.args.out.now) c.redraw_lines.ensures c.done_answer-in-RedrawLines.ensures.value)
