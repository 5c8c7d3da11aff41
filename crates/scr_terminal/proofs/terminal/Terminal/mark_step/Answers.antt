use Rattle.std.proofs.Common.{◌≡◌, ◌∙◌, true, ap, subst, sym}
use Rattle.scr_cells.specs.Characters.{IsCharacter}
use Rattle.scr_term.specs.declared.operations.operation.Op.TheVariants.{Put, Repeat, Write}
use Rattle.scr_term.specs.Operations.Texts.{has}
use Rattle.scr_terminal.proofs.WritingLaws.{put_is_character, repeat_is_ascii, repeat_is_few, write_is_character}
use Rattle.scr_terminal.proofs.terminal.Terminal.mark_step.Goals as goal

pub mark_written-is_defined-requires-clause-character : goal.mark_written-is_defined-requires-clause-character
mark_written-is_defined-requires-clause-character c =
    let had : has c.args.profile.now (Put c.in-Put.byte) ≡ true = ap (has c.args.profile.now) (sym c.in-Put.is) ∙ sym c.has.ensures ∙ c.if-not-has.false in
    subst IsCharacter (sym c.from.ensures) (put_is_character c.args.profile.now c.in-Put.byte had)

pub mark_written-is_defined-requires-in-Write-clause-character : goal.mark_written-is_defined-requires-in-Write-clause-character
mark_written-is_defined-requires-in-Write-clause-character c =
    let had : has c.args.profile.now (Write c.in-Write.character) ≡ true = ap (has c.args.profile.now) (sym c.in-Write.is) ∙ sym c.has.ensures ∙ c.if-not-has.false in
    write_is_character c.args.profile.now c.in-Write.character had

pub mark_repeated-is_defined-requires-clause-character : goal.mark_repeated-is_defined-requires-clause-character
mark_repeated-is_defined-requires-clause-character c =
    let had : has c.args.profile.now (Repeat c.in-Repeat.byte c.in-Repeat.count) ≡ true = ap (has c.args.profile.now) (sym c.in-Repeat.is) ∙ sym c.has.ensures ∙ c.if-not-has.false in
    repeat_is_ascii c.args.profile.now c.in-Repeat.byte c.in-Repeat.count had

pub mark_repeated-is_defined-requires-clause-few : goal.mark_repeated-is_defined-requires-clause-few
mark_repeated-is_defined-requires-clause-few c =
    let had : has c.args.profile.now (Repeat c.in-Repeat.byte c.in-Repeat.count) ≡ true = ap (has c.args.profile.now) (sym c.in-Repeat.is) ∙ sym c.has.ensures ∙ c.if-not-has.false in
    repeat_is_few c.args.profile.now c.in-Repeat.byte c.in-Repeat.count had
