use Rattle.std.proofs.Common.{[], refl}
use Rattle.ti_source.specs.Resolving.Uses.{Resolve}
use Rattle.ti_compile.proofs.entry_compiler.EntryCompiler.new.Goals as goal

pub invariant_of-result : goal.invariant_of-result
invariant_of-result c = (c.new.ensures, ([], record { resolved = Resolve.nothing; good = refl }), tt)
