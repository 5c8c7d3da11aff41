use Rattle.std.proofs.Common.{◌≡◌, ℕ, ◌+◌, Bool, List, Option, ◌++◌, ◌∙◌, arith, is_some, length, map}
use Rattle.std.proofs.lemmas.List.{length-map}
use Rattle.ti_binary.specs.Files.{flag_said, numbers_in, text_said, words_in}
use Rattle.ti_extended.specs.Sections.{kept, name_said, whole_said}
use Rattle.ti_extended.proofs.ReadingLaws.{numbers_length_in, there_is, there_length, words_length_in}
use Rattle.ti_extended.proofs.reading.found_in.Goals as goal

pub kept_names-requires : goal.kept_names-requires
kept_names-requires c =
    let parts = c.args.parts.now in
    let flags : List Bool = map flag_said parts.flags.now in
    let numbers : List (Option ℕ) = map (whole_said c.args.width) (numbers_in c.args.width parts.numbers.now parts.number_count) in
    let texts : List (Option (List ℕ)) = map (text_said parts.table.now) (words_in parts.texts.now parts.text_count) in
    let there : c.deref.result.now ≡ flags ++ (map is_some numbers ++ map is_some texts) =
    c.deref.ensures.value ∙ there_is c.new-there.result.items c.add_flags.new.there.items c.numbers_in.new.there.items c.texts_in.new.there.items flags (map is_some numbers) (map is_some texts)
    c.new-there.ensures.items c.in_ok-add_flags.ensures c.in_ok-numbers.ensures.there c.in_ok-texts.ensures.there in
    let many : length flags + length (map is_some numbers) + length (map is_some texts) ≡ parts.name_count =
    omega (
      arith,
      c.requires.counts,
      length-map parts.flags.now flag_said,
      length-map numbers is_some,
      length-map texts is_some,
      numbers_length_in (whole_said c.args.width) c.args.width parts.numbers.now parts.number_count,
      words_length_in (text_said parts.table.now) parts.texts.now parts.text_count,
    ) in
    let count : length c.deref.result.now ≡ parts.name_count = there_length c.deref.result.now flags (map is_some numbers) (map is_some texts) parts.name_count there many in
    omega (arith, count, c.requires.names)

pub returns-clause-names : goal.returns-clause-names
returns-clause-names c =
    let parts = c.args.parts.now in
    let flags : List Bool = map flag_said parts.flags.now in
    let numbers : List (Option ℕ) = map (whole_said c.args.width) (numbers_in c.args.width parts.numbers.now parts.number_count) in
    let texts : List (Option (List ℕ)) = map (text_said parts.table.now) (words_in parts.texts.now parts.text_count) in
    let there : c.deref.result.now ≡ flags ++ (map is_some numbers ++ map is_some texts) =
    c.deref.ensures.value ∙ there_is c.new-there.result.items c.add_flags.new.there.items c.numbers_in.new.there.items c.texts_in.new.there.items flags (map is_some numbers) (map is_some texts)
    c.new-there.ensures.items c.in_ok-add_flags.ensures c.in_ok-numbers.ensures.there c.in_ok-texts.ensures.there in
    let many : length flags + length (map is_some numbers) + length (map is_some texts) ≡ parts.name_count =
    omega (
      arith,
      c.requires.counts,
      length-map parts.flags.now flag_said,
      length-map numbers is_some,
      length-map texts is_some,
      numbers_length_in (whole_said c.args.width) c.args.width parts.numbers.now parts.number_count,
      words_length_in (text_said parts.table.now) parts.texts.now parts.text_count,
    ) in
    let count : length c.deref.result.now ≡ parts.name_count = there_length c.deref.result.now flags (map is_some numbers) (map is_some texts) parts.name_count there many in
    c.in_ok-names.ensures ∙ (λ k. kept (there k) (map (name_said c.args.names.now) (words_in parts.names.now (count k))))
