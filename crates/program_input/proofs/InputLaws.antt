-- A beginning with room for more is all there is.
use Rattle.std.proofs.Common.{ℕ, ◌≡◌, ◌≤◌, ◌+◌, List, length, take, arith, sym, ◌∙◌, Option, Some, None, IfSome}
use Rattle.std.proofs.lemmas.List.{length-take, take_all}

pub beginning_is_all : (most : ℕ) (known : Option (List ℕ)) (read : List ℕ) → IfSome known (λ all. read ≡ take (most + 1) all) → length read ≤ most
    → IfSome known (λ all. all ≡ read)
beginning_is_all most None read h few = tt
beginning_is_all most (Some all) read h few =
    let shorter : length (take (most + 1) all) ≤ most = rw (← h) few in
    let room : length all ≤ most + 1 = whole_length shorter in
    sym (take_all (most + 1) all room) ∙ sym h
  where
    whole_length : length (take (most + 1) all) ≤ most → length all ≤ most + 1
    whole_length s = let e : length (take (most + 1) all) ≡ _ = length-take (most + 1) all in grind arith
