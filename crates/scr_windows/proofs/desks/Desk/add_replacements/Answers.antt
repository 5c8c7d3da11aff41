use Rattle.std.proofs.Common.{◌+◌, ◌-◌, ◌∷◌, [], ◌∙◌, sym, ap, inr}
use Rattle.std.specs.Prelude.{replicate}
use Rattle.scr_windows.specs.declared.faults.Added.{Added}
use Rattle.scr_windows.specs.Calls.Adding.{either_stayed, text_added}
use Rattle.scr_windows.proofs.AddedLaws.{added_one, added_part, text_done}
use Rattle.scr_windows.proofs.FittedLaws.{replacement_is_character, replacements_cut, replacements_done}
use Rattle.scr_windows.proofs.desks.Desk.add_replacements.Goals as goal

pub add_at-one-requires-clause-character : goal.add_at-one-requires-clause-character
add_at-one-requires-clause-character c = inr replacement_is_character

pub loop-preserved : goal.loop-preserved
loop-preserved c =
    let part = c.add_at-one.ensures.added ∙ sym (added_one c.loop.self c.args.index 0xFFFD) in
    let more = added_part c.loop.self c.add_at-one.new.self c.args.self.now c.args.index c.loop.all c.add_at-one.result (0xFFFD ∷ []) (replicate (c.args.count - (c.loop.counter + 1)) 0xFFFD) (replicate (c.args.count - c.loop.counter) 0xFFFD) (replicate c.args.count 0xFFFD)
    (replacements_cut c.args.count c.loop.counter c.loop-test.true) part c.loop.invariant.desk c.loop.invariant.answer in
    record {
      here = c.add_at-one.ensures.there;
      desk = more.0;
      answer = ap (λ (all : Added). either_stayed all (text_added c.add_at-one.new.self c.args.index (replicate (c.args.count - (c.loop.counter + 1)) 0xFFFD)).1) c.either-all.ensures ∙ more.1;
    }

pub returns-clause-added : goal.returns-clause-added
returns-clause-added c = text_done c.loop.self c.args.self.now c.args.index c.loop.all (replicate (c.args.count - c.loop.counter) 0xFFFD) (replicate c.args.count 0xFFFD) (replacements_done c.args.count c.loop.counter c.loop-test.false) c.loop.invariant.desk c.loop.invariant.answer
