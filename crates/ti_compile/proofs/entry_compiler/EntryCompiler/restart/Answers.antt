use Rattle.std.proofs.Common.{[], refl}
use Rattle.ti_source.specs.Resolving.Uses.{Resolve}
use Rattle.ti_compile.proofs.entry_compiler.EntryCompiler.restart.Goals as goal

pub invariant_of-self : goal.invariant_of-self
invariant_of-self c = (c.self.invariant.0, ([], record { resolved = Resolve.nothing; good = refl }), c.self.invariant.2)
