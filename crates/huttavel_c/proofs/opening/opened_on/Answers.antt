use Rattle.std.proofs.Common.{inr, Option, Result, Ok, Err, IfErr}
use Rattle.scr_cells.specs.declared.sizes.Size.{Size}
use Rattle.scr_term.specs.Operations.Admission.{IsSuitable}
use Rattle.ti_caps.specs.Description.{Description}
use Rattle.curses.specs.Adapted.{IsOpenedAdapted, adapted}
use Rattle.curses.specs.ScreenStates.{ScreenState}
use Rattle.curses.specs.declared.opening.Opening.{Opening}
use Rattle.curses.specs.declared.faults.OpenFault.TheVariants.{NoMemory}
use Rattle.huttavel_c.specs.Opening.{IsNoMemory, IsUnopenedOn}
use Rattle.huttavel_c.specs.declared.answers.Reply.{Reply}
use Rattle.huttavel_c.proofs.opening.opened_on.Goals as goal

-- a screen could be opened, and memory ran out then
without_memory : {A : Type 0} → (asked : Opening) (entry : Description) (size : Option Size) (screen : ScreenState) (boxed : Result A Reply)
    → IsOpenedAdapted asked (adapted entry) size screen → IsSuitable (adapted entry).entry → IfErr boxed IsNoMemory → IfErr boxed (IsUnopenedOn entry size)
without_memory asked entry size screen (Ok x) opened suits is = tt
without_memory asked entry size screen (Err reply) opened suits is = (NoMemory, inr (opened.size, opened.sized, tt), (λ _. suits), is)

pub returns-in-Ok-clause-err : goal.returns-in-Ok-clause-err
returns-in-Ok-clause-err c =
    without_memory _ c.args.entry c.args.size c.in-Ok.screen c.boxed.result c.in-Ok.ensures.ok c.in-Ok.ensures.suitable c.boxed.ensures.err
