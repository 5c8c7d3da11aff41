use Rattle.std.proofs.Common.{◌∙◌, rules}
use Rattle.std.specs.Str.{bytes_eq}
use Rattle.indexmap.proofs.CallerLemmas.{insert_entry-new}
use Rattle.ti_source.proofs.NamedLaws.{put-new, put-none}
use Rattle.ti_source.proofs.reading.entries.put_name.Goals as goal

pub returns : goal.returns
returns c = λ q.
    put-new (λ k. k.items) c.args.indices.now.entries c.insert.new.self.entries c.in_ok-from_slice.field-0 c.args.name.now c.args.index q
    (search rules) (search rules) (c.in_ok-insert.ensures.entries ∙ insert_entry-new (λ x y. bytes_eq x.items y.items) c.args.indices.now c.in_ok-from_slice.field-0 c.args.index (put-none (λ k. k.items) c.args.indices.now.entries c.args.name.now c.in_ok-from_slice.field-0.items (search rules) (search rules)))
