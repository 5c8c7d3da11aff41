use Rattle.std.proofs.Common.{◌∙◌, ap, subst, sym}
use Rattle.scr_term.specs.Operations.Profiles.{ProfileView}
use Rattle.scr_term.specs.Code.Admission.{ArePlanned, longest, longest_character}
use Rattle.scr_term.proofs.AdmissionLaws.{colours_are, kept, made_profile, shown_is, texts_planned}
use Rattle.scr_term.proofs.operations.making.profile.Goals as goal

pub longest-longest-requires-clause-planned : goal.longest-longest-requires-clause-planned
longest-longest-requires-clause-planned c = subst ArePlanned (sym (c.deref-3.ensures.value ∙ c.requires.programs)) (texts_planned c.args.entry.now c.requires.texts)

pub invariant_of-result : goal.invariant_of-result
invariant_of-result c =
    let profile : ProfileView = record { rows = c.args.size.rows; columns = c.args.size.columns; programs = c.args.programs.items; msgr = c.flag.result; palette = c.has_palette-palette.result; charset = c.args.charset } in
    kept c.text_is_bounded.ensures c.args.charset c.args.entry.now c.args.size.rows c.args.size.columns profile _ _ _
    (made_profile c.args.charset c.args.entry.now _ _ _ _ _ c.requires.programs c.flag.ensures c.has_palette-palette.ensures) c.requires.texts c.args.size.in_range
    (c.shown_set-shown.ensures ∙ shown_is profile c.deref.result.now c.deref.ensures.value)
    (c.has_colours-colours.ensures ∙ colours_are profile c.deref-2.result.now c.deref-2.ensures.value)
    (c.longest-longest.ensures ∙ ap (λ n. longest n c.has_colours-colours.result c.deref-3.result.now) c.longest_character.ensures.value ∙ ap (longest (longest_character c.args.charset) c.has_colours-colours.result) c.deref-3.ensures.value)

pub returns : goal.returns
returns c = made_profile c.args.charset c.args.entry.now _ _ _ _ _ c.requires.programs c.flag.ensures c.has_palette-palette.ensures
