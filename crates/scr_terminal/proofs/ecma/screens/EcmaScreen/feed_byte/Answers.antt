use Rattle.std.proofs.Common.{◌∷◌, ◌++◌, [], sym, ap, subst, ◌∙◌, arith}
use Rattle.scr_term.specs.Ecma.Units.{IsWaiting}
use Rattle.scr_terminal.specs.Ecma.Screens.{ScreenView}
use Rattle.scr_terminal.specs.declared.ecma.readings.Reading.TheVariants.{Spelled, Held, Other}
use Rattle.scr_terminal.proofs.EcmaReadingLaws.{room_for}
use Rattle.scr_terminal.proofs.EcmaFedLaws.{took_graphic, took_spelled, took_held, held_view, took_other, reading_of}
use Rattle.scr_terminal.proofs.ecma.screens.EcmaScreen.feed_byte.Goals as goal

pub push-requires : goal.push-requires
push-requires c =
    let waits = subst (λ p. IsWaiting c.self.inside.charset (p ++ c.args.byte ∷ [])) c.as_slice-part.ensures.value c.in-Held.ensures in
    (omega arith, room_for c.self.inside.charset c.self.inside.waiting.items c.args.byte waits)

pub returns-in-Graphic : goal.returns-in-Graphic
returns-in-Graphic c =
    took_graphic c.args.self.now c.write.new.self c.args.byte c.as_slice-part.result.now
    (sym (ap (λ (s : ScreenView). s.undefined) c.self.view_is) ∙ c.if-self.false)
    (c.as_slice-part.ensures.value ∙ ap (λ (s : ScreenView). s.waiting) c.self.view_is)
    c.in-Graphic.ensures c.write.ensures

pub returns-in-Spelled : goal.returns-in-Spelled
returns-in-Spelled c =
    took_spelled c.args.self.now c.take_character.new.self c.args.byte c.in-Spelled.character c.as_slice-part.result.now
    (sym (ap (λ (s : ScreenView). s.undefined) c.self.view_is) ∙ c.if-self.false)
    (c.as_slice-part.ensures.value ∙ ap (λ (s : ScreenView). s.waiting) c.self.view_is)
    (reading_of c.args.self.now c.self.inside.charset c.as_slice-part.result.now c.args.byte (Spelled c.in-Spelled.character)
    (ap (λ (s : ScreenView). s.charset) c.self.view_is) c.in-Spelled.ensures)
    c.take_character.ensures

pub returns-in-Held : goal.returns-in-Held
returns-in-Held c =
    let terminal = c.self.inside.terminal in
    let pushed : ScreenView = record {
      rows = terminal.rows;
      columns = terminal.columns;
      charset = c.self.inside.charset;
      state = terminal.state;
      waiting = c.push.new.self.items;
      undefined = c.self.inside.undefined;
    } in
    took_held c.args.self.now pushed c.args.byte c.as_slice-part.result.now
    (sym (ap (λ (s : ScreenView). s.undefined) c.self.view_is) ∙ c.if-self.false)
    (c.as_slice-part.ensures.value ∙ ap (λ (s : ScreenView). s.waiting) c.self.view_is)
    (reading_of c.args.self.now c.self.inside.charset c.as_slice-part.result.now c.args.byte Held (ap (λ (s : ScreenView). s.charset) c.self.view_is) c.in-Held.ensures)
    (held_view terminal.rows terminal.columns c.self.inside.charset terminal.state c.self.inside.waiting.items c.push.new.self.items c.args.byte c.self.inside.undefined c.args.self.now c.push.ensures.items c.self.view_is)

pub returns-in-Other : goal.returns-in-Other
returns-in-Other c =
    took_other c.args.self.now c.apply.new.self c.args.byte c.as_slice-part.result.now
    (sym (ap (λ (s : ScreenView). s.undefined) c.self.view_is) ∙ c.if-self.false)
    (c.as_slice-part.ensures.value ∙ ap (λ (s : ScreenView). s.waiting) c.self.view_is)
    (reading_of c.args.self.now c.self.inside.charset c.as_slice-part.result.now c.args.byte Other (ap (λ (s : ScreenView). s.charset) c.self.view_is) c.in-Other.ensures) c.apply.ensures
