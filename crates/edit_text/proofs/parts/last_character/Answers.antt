use Rattle.std.proofs.Common.{◌∙◌, ◌-◌, arith, length, sym}
use Rattle.std.proofs.lemmas.Bool.Decides.{nat_tests}
use Rattle.edit_text.proofs.PartLaws.{ends_with, none_ends_none, other_ends_none, rest_begins, rest_begins_none}
use Rattle.edit_text.proofs.parts.last_character.Goals as goal

pub returns-in_default : goal.returns-in_default
returns-in_default c = none_ends_none c.args.bytes.now c.args.count (rest_begins_none c.args.bytes.now (length c.args.bytes.now - c.args.count) c.in_default.ensures)

pub returns-then-len_utf8-count : goal.returns-then-len_utf8-count
returns-then-len_utf8-count c =
    let begins = rest_begins c.args.bytes.now (length c.args.bytes.now - c.args.count) c.in-Some.character c.in-Some.ensures in
    ends_with c.args.bytes.now c.args.count c.in-Some.character (grind (arith, nat_tests, c.if-bytes-count.false)) begins (sym c.len_utf8.ensures.len ∙ c.if-len_utf8-count.true)

pub returns-else-len_utf8-count : goal.returns-else-len_utf8-count
returns-else-len_utf8-count c =
    let begins = rest_begins c.args.bytes.now (length c.args.bytes.now - c.args.count) c.in-Some.character c.in-Some.ensures in
    other_ends_none c.args.bytes.now c.args.count c.in-Some.character begins (λ e. c.if-len_utf8-count.false (c.len_utf8.ensures.len ∙ e))
