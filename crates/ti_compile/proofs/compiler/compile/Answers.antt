use Rattle.ti_compile.proofs.OnceLaws.{good-answer}
use Rattle.ti_compile.proofs.compiler.compile.Goals as goal

pub returns-clause-good : goal.returns-clause-good
returns-clause-good c = good-answer c.compiled_sources_have_no_fault.ensures c.args.source.now _ c.compiled_by.ensures.err
