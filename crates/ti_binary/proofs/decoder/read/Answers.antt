use Rattle.std.proofs.Common.{◌≡◌, sym, ◌∙◌, ap, false, List, ℕ, drop, map, None}
use Rattle.std.specs.List.{list_any, before_first}
use Rattle.ti_caps.specs.Names.{are_names}
use Rattle.ti_caps.specs.Description.{Description}
use Rattle.ti_binary.specs.Files.{clamped_count, end_place, flag_said, is_nul, is_outside, is_unended, number_said, numbers_in, padded, text_said, words_in}
use Rattle.ti_binary.proofs.FileLaws.{were_read}
use Rattle.ti_binary.proofs.decoder.read.Goals as goal

pub set_texts-requires-clause-bare : goal.set_texts-requires-clause-bare
set_texts-requires-clause-bare c =
    ap (λ (e : Description). e.texts) c.set_numbers-clamped.ensures.set
    ∙ ap (λ (e : Description). e.texts) c.set_flags.ensures
    ∙ ap (λ (e : Description). e.texts) c.in-Ok.ensures.ok

pub returns-clause-clamped : goal.returns-clause-clamped
returns-clause-clamped c =
    let cut = c.cut-parts.ensures in
    c.set_numbers-clamped.ensures.clamped
    ∙ (λ i. clamped_count c.args.width (cut.numbers i) (cut.number_count.0 i))

pub returns-clause-ok : goal.returns-clause-ok
returns-clause-ok c =
    let bytes = c.args.bytes.now in
    let width = c.args.width in
    let cut = c.cut-parts.ensures in
    let last = c.in_ok-set_texts.ensures.ok in
    let names : c.set_texts.new.entry.names ≡ c.in_ok-names.names.now =
    ap (λ (e : Description). e.names) last
    ∙ ap (λ (e : Description). e.names) c.set_numbers-clamped.ensures.set
    ∙ ap (λ (e : Description). e.names) c.set_flags.ensures
    ∙ ap (λ (e : Description). e.names) c.in-Ok.ensures.ok in (
      drop (end_place width bytes) bytes,
      were_read width bytes c.set_texts.new.entry (record {
        header = c.in_ok-check_header.ensures.room;
        short = c.in_ok-check_header.ensures.short;
        is_magic = c.in_ok-check_header.ensures.magic;
        fits = c.in_ok-check_room.ensures.fits;
        names_end = ap (list_any is_nul) (sym cut.names) ∙ c.in_ok-names.ensures.ended;
        names_say = names ∙ c.in_ok-names.ensures.names ∙ ap (before_first is_nul) cut.names;
        named = ap are_names names ∙ c.in_ok-names.ensures.named;
        flags_say =
            ap (λ (e : Description). e.flags) last
            ∙ ap (λ (e : Description). e.flags) c.set_numbers-clamped.ensures.set
            ∙ ap (λ (e : Description). e.flags) c.set_flags.ensures
            ∙ ap (λ (section : List ℕ). padded 64 false (map flag_said section)) cut.flags;
        numbers_say =
            ap (λ (e : Description). e.numbers) last
            ∙ ap (λ (e : Description). e.numbers) c.set_numbers-clamped.ensures.set
            ∙ (λ i. padded 64 None (map (number_said width) (numbers_in width (cut.numbers i) (cut.number_count.0 i))));
        inside =
            (λ i. list_any (is_outside (sym cut.table i)) (words_in (sym cut.offsets i) (sym cut.offset_count.0 i)))
            ∙ c.in_ok-check_offsets.ensures.inside;
        texts_end =
            (λ i. list_any (is_unended (sym cut.table i)) (words_in (sym cut.offsets i) (sym cut.offset_count.0 i)))
            ∙ c.in_ok-check_offsets.ensures.ended;
        texts_say =
            ap (λ (e : Description). e.texts) last
            ∙ (λ i. padded 512 None (map (text_said (cut.table i)) (words_in (cut.offsets i) (cut.offset_count.0 i))));
      }),
      cut.rest,
    )
