use Rattle.std.proofs.Common.{◌∙◌, ℕ, MatchOption, sym, subst}
use Rattle.edit_text.specs.Parts.{BeginsWith}
use Rattle.edit_text.proofs.PartLaws.{begins_decoded, none_decoded, other_decoded}
use Rattle.edit_text.proofs.parts.first_character.Goals as goal

pub returns-in_err-character : goal.returns-in_err-character
returns-in_err-character c =
    subst (λ r. MatchOption r ((character : ℕ) → ¬ BeginsWith c.args.bytes.now character) (BeginsWith c.args.bytes.now)) (sym c.from_residual.ensures) (none_decoded c.args.bytes.now (sym c.decode-character.ensures.char ∙ c.in_err-character.was))

pub returns-then-is_beyond_ascii : goal.returns-then-is_beyond_ascii
returns-then-is_beyond_ascii c = begins_decoded c.args.bytes.now c.in_ok-character.character (sym c.decode-character.ensures.char ∙ c.in_ok-character.was) (sym c.is_beyond_ascii.ensures ∙ c.if-is_beyond_ascii.true)

pub returns-else-is_beyond_ascii : goal.returns-else-is_beyond_ascii
returns-else-is_beyond_ascii c = other_decoded c.args.bytes.now c.in_ok-character.character (sym c.decode-character.ensures.char ∙ c.in_ok-character.was) (sym c.is_beyond_ascii.ensures ∙ c.if-is_beyond_ascii.false)
