use Rattle.std.proofs.Common.{map, rules}
use Rattle.ti_binary.specs.Canonical.{renamed}
use Rattle.ti_compile.proofs.CompiledEntryLaws.{compiled-of}
use Rattle.ti_compile.proofs.compiled_entry.compiled_entry.Goals as goal

pub returns-clause-ok : goal.returns-clause-ok
returns-clause-ok c =
    (c.in_ok-bytes.ensures.good, compiled-of (renamed c.args.entry.now c.args.names.now) _ (map (λ name. name.now) c.deref.result.now) (search rules) (search rules) (search rules) (search rules))
