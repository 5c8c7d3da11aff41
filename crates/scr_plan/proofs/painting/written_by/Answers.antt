use Rattle.std.proofs.Common.{◌≡◌, ◌∙◌, ℕ, false, Option, Some, None, SomeIff, ap, arith, nat_lt, sym}
use Rattle.std.proofs.lemmas.Bool.Decides.{nat_tests}
use Rattle.std.specs.Char.{IsScalar}
use Rattle.std.specs.Option.{unwrap_or}
use Rattle.scr_term.specs.declared.operations.operation.Op.TheVariants.{Write}
use Rattle.scr_plan.proofs.PlaceLaws.{put_other}
use Rattle.scr_plan.proofs.painting.written_by.Goals as goal

-- what an option that has a value holds
held : (found : Option ℕ) (P : Type 0) (code other : ℕ) → P → SomeIff found P code → unwrap_or found other ≡ code
held None P code other holds none = absurd (none holds)
held (Some x) P code other holds some = some.1

pub returns : goal.returns
returns c =
    let code = c.args.code in
    let many : nat_lt code 128 ≡ false = grind (arith, nat_tests, c.if-code-lt128.false) in
    ap (λ n. Write n) (c.unwrap_or.ensures ∙ held c.from_u32.result (IsScalar code) code 32 (c.character_laws.ensures.scalar code c.requires) c.from_u32.ensures.value) ∙ sym (put_other code many)
