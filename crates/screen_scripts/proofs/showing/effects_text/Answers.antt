use Rattle.std.proofs.Common.{◌≡◌, ◌∙◌, ◌++◌, ap, not, subst, sym}
use Rattle.screen_scripts.specs.Showing.{IsOutputBetween, IsReadyStage, events_of, notes_lines}
use Rattle.screen_scripts.proofs.OutputLaws.{ahead_none, ahead_some, printed_none, printed_some, sent_by}
use Rattle.screen_scripts.proofs.showing.effects_text.Goals as goal
use Rattle.screen_scripts.proofs.showing.effects_text.Goals.{in-Some+in_ok-show, in_default}

pub returns-then-raw-clause-text : goal.returns-then-raw-clause-text
returns-then-raw-clause-text c = λ before virtual sending.
    sent_by (λ bytes. bytes.items) c.args.raw c.args.stage.now.screen.profile before c.args.stage.now.screen.memory virtual c.args.effects.notes.items c.args.effects.update c.new.result
    c.unwrap_or.result c.if-raw.true sending.sent c.new.ensures.items c.unwrap_or.ensures

pub show-requires : goal.show-requires
show-requires c = ahead_some (λ bytes. bytes.items) (not c.args.raw) c.args.stage.now c.args.effects.update _ _ (ap not c.if-raw.false) c.in-Some.is c.deref-in-Some.ensures.value c.requires

pub returns-clause-text : goal.returns-clause-text
returns-clause-text c = λ before virtual sending.
    let profile = c.args.stage.now.screen.profile in
    let new = c.args.stage.now.screen.memory in
    let picture = c.args.stage.now.screen.virtual.picture in
    let noted : c.print_notes.new.text.items ≡ notes_lines c.args.effects.notes.items =
    c.in_ok-print_notes.ensures ∙ ap (λ t. t ++ notes_lines c.deref.result.now) c.new-text.ensures.items ∙ ap notes_lines c.deref.ensures.value in
    elim c.match-update-2.branch [
      | in-Some+in_ok-show w ↦ subst (λ t. IsOutputBetween c.args.raw profile before new (events_of c.args.effects virtual) t.items) (sym w.text-is)
          (printed_some c.args.raw profile before new virtual picture c.args.effects.notes.items c.args.effects.update _ c.print_notes.new.text.items w.show.new.text.items c.if-raw.false
          sending.shown w.in-Some.is noted w.in_ok-show.ensures.text)
      | in_default w ↦ subst (λ t. IsOutputBetween c.args.raw profile before new (events_of c.args.effects virtual) t.items) (sym w.text-is)
          (printed_none c.args.raw profile before new virtual c.args.effects.notes.items c.args.effects.update c.print_notes.new.text.items c.if-raw.false w.in_default.is noted)
    ]

pub returns-clause-ready : goal.returns-clause-ready
returns-clause-ready c = elim c.match-update-2.branch [
  | in-Some+in_ok-show w ↦ subst (IsReadyStage (not c.args.raw)) (sym w.stage-is)
      (subst (λ fed. IsReadyStage fed w.show.new.stage) (sym (ap not c.if-raw.false)) w.show.ensures.ready)
  | in_default w ↦ subst (IsReadyStage (not c.args.raw)) (sym w.stage-is) (ahead_none (λ bytes. bytes.items) (not c.args.raw) c.args.stage.now c.args.effects.update w.in_default.is c.requires)
]
