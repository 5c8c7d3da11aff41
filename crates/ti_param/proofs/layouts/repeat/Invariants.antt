use Rattle.std.proofs.Common.{◌≡◌, ◌+◌, ◌≤◌, ◌++◌, replicate, vec_len, vec_capacity}
use Rattle.ti_param.proofs.layouts.repeat.Given as goal

abbrev pub invariant-loop : goal.invariant-loop
invariant-loop l =
    (l.out.items ≡ l.fn.out.items ++ replicate l.counter l.byte) × (vec_len l.out ≡ vec_len l.fn.out + l.counter) × (vec_capacity l.fn.out ≤ vec_capacity l.out)
