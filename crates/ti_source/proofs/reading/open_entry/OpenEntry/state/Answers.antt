use Rattle.std.proofs.Common.{◌≡◌, ◌∙◌, ◌++◌, true, false, Ok, rules, sym, ap}
use Rattle.std.specs.List.{list_any}
use Rattle.ti_source.specs.declared.note.Cause.TheVariants.{TooGreat}
use Rattle.ti_source.specs.Reading.Sources.{concerns, is_given, is_great, limited, note_on}
use Rattle.ti_source.specs.Code.OpenEntry.{OpenEntry}
use Rattle.ti_source.specs.Code.Seen.{seen_value}
use Rattle.ti_source.proofs.OpenEntryLaws.{capped-same, great-adds, repeated-adds, stated-is, value-adds, with_value}
use Rattle.ti_source.proofs.reading.open_entry.OpenEntry.state.Goals as goal

pub returns-then-is_stated : goal.returns-then-is_stated
returns-then-is_stated c what seen names notes before is =
    let stated : list_any (concerns c.args.kind c.args.slot.0) c.args.self.now.entry.statements ≡ true = search rules in
    let given : is_given c.args.kind c.args.slot.0 before ≡ true = sym (stated-is names notes before c.args.self.now c.args.kind c.args.slot.0 is) ∙ stated in
    rw (repeated-adds before c.args.line c.args.name.now c.args.kind c.args.slot.0 what c.args.self.now given) c.note.ensures

pub returns-then-is_great : goal.returns-then-is_great
returns-then-is_great c what seen names notes before is =
    let stated : list_any (concerns c.args.kind c.args.slot.0) c.args.self.now.entry.statements ≡ false = search rules in
    let given : is_given c.args.kind c.args.slot.0 before ≡ false = sym (stated-is names notes before c.args.self.now c.args.kind c.args.slot.0 is) ∙ stated in
    let great : is_great what ≡ true = sym ((capped-same what).1) ∙ sym (ap is_great seen) ∙ sym c.is_great.ensures ∙ c.if-is_great.true in
    let put : with_value c.args.kind c.args.slot.0 (limited (seen_value c.args.value)) c.args.self.now ≡ c.put_value.new.self = search rules in
    let kept : with_value c.args.kind c.args.slot.0 (limited what) c.args.self.now ≡ c.put_value.new.self =
    ap (λ v. with_value c.args.kind c.args.slot.0 v c.args.self.now) (sym (ap limited seen ∙ (capped-same what).0)) ∙ put in
    let all = great-adds before c.args.line c.args.name.now c.args.kind c.args.slot.0 what c.args.self.now given great ∙ ap (λ (e : OpenEntry). record e { notes = e.notes ++ note_on c.args.line TooGreat c.args.name.now }) kept in
    rw all c.note-then-is_great.ensures

pub returns : goal.returns
returns c what seen names notes before is =
    let stated : list_any (concerns c.args.kind c.args.slot.0) c.args.self.now.entry.statements ≡ false = search rules in
    let given : is_given c.args.kind c.args.slot.0 before ≡ false = sym (stated-is names notes before c.args.self.now c.args.kind c.args.slot.0 is) ∙ stated in
    let small : is_great what ≡ false = sym ((capped-same what).1) ∙ sym (ap is_great seen) ∙ sym c.is_great.ensures ∙ c.if-is_great.false in
    let put : with_value c.args.kind c.args.slot.0 (limited (seen_value c.args.value)) c.args.self.now ≡ c.put_value.new.self = search rules in
    ap Ok (value-adds before c.args.line c.args.name.now c.args.kind c.args.slot.0 what c.args.self.now given small
    ∙ ap (λ v. with_value c.args.kind c.args.slot.0 v c.args.self.now) (sym (ap limited seen ∙ (capped-same what).0)) ∙ put)
