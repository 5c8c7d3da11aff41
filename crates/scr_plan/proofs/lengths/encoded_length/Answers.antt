use Rattle.std.proofs.Common.{◌≡◌, ◌∙◌, ap, arith, sym, true, false, cond, nat_lt}
use Rattle.std.proofs.lemmas.Bool.Decides.{nat_tests}
use Rattle.std.proofs.lemmas.Str.{length-encode}
use Rattle.scr_plan.proofs.lengths.encoded_length.Goals as goal

pub returns-then-code-lt128-clause-value : goal.returns-then-code-lt128-clause-value
returns-then-code-lt128-clause-value c =
    let code = c.args.code in
    let first : nat_lt code 128 ≡ true = grind (arith, nat_tests, c.if-code-lt128.true) in
    sym (length-encode code ∙ ap (λ t. cond t 1 (cond (nat_lt code 2048) 2 (cond (nat_lt code 65536) 3 4))) first)

pub returns-then-code-lt2048-clause-value : goal.returns-then-code-lt2048-clause-value
returns-then-code-lt2048-clause-value c =
    let code = c.args.code in
    let first : nat_lt code 128 ≡ false = grind (arith, nat_tests, c.if-code-lt128.false) in
    let second : nat_lt code 2048 ≡ true = grind (arith, nat_tests, c.if-code-lt2048.true) in
    sym (length-encode code ∙ ap (λ t. cond t 1 (cond (nat_lt code 2048) 2 (cond (nat_lt code 65536) 3 4))) first ∙ ap (λ t. cond t 2 (cond (nat_lt code 65536) 3 4)) second)

pub returns-else-code-lt2048-clause-value : goal.returns-else-code-lt2048-clause-value
returns-else-code-lt2048-clause-value c =
    let code = c.args.code in
    let first : nat_lt code 128 ≡ false = grind (arith, nat_tests, c.if-code-lt128.false) in
    let second : nat_lt code 2048 ≡ false = grind (arith, nat_tests, c.if-code-lt2048.false) in
    let third : nat_lt code 65536 ≡ true = grind (arith, nat_tests, c.requires) in
    sym (length-encode code ∙ ap (λ t. cond t 1 (cond (nat_lt code 2048) 2 (cond (nat_lt code 65536) 3 4))) first ∙ ap (λ t. cond t 2 (cond (nat_lt code 65536) 3 4)) second ∙ ap (λ t. cond t 3 4) third)
