use Rattle.std.proofs.lemmas.Result.{IfOk-weaker, IfErr-weaker}
use Rattle.std.specs.Prelude.{Some}
use Rattle.scr_cells.specs.declared.charsets.Charset.TheVariants.{Ascii}
use Rattle.scr_term.proofs.BundledLaws.{ecma48_is}
use Rattle.scr_term.proofs.BundledSuitsLaws.{ecma48_columns, ecma48_rows, memory_alone}
use Rattle.scr_term.proofs.operations.profiles.Profile.ecma48.Goals as goal

pub returns-clause-entry : goal.returns-clause-entry
returns-clause-entry c = IfOk-weaker c.admit.result _ _ (λ profile is. ecma48_is Ascii c.in-Ok.entry c.in-Ok.ensures.entry profile (Some c.args.size) is) c.admit.ensures.ok

pub returns-clause-rows : goal.returns-clause-rows
returns-clause-rows c = IfOk-weaker c.admit.result _ _ (ecma48_rows c.in-Ok.entry c.args.size) c.admit.ensures.ok

pub returns-clause-columns : goal.returns-clause-columns
returns-clause-columns c = IfOk-weaker c.admit.result _ _ (ecma48_columns c.in-Ok.entry c.args.size) c.admit.ensures.ok

pub returns-clause-memory : goal.returns-clause-memory
returns-clause-memory c = IfErr-weaker c.admit.result _ _ (memory_alone c.in-Ok.entry c.args.size c.in-Ok.ensures.entry) c.admit.ensures.err

pub returns-clause-admitted : goal.returns-clause-admitted
returns-clause-admitted c = IfOk-weaker c.admit.result _ _ (λ profile is. (c.in-Ok.entry, (c.in-Ok.ensures.entry, is))) c.admit.ensures.ok
