use Rattle.std.proofs.Common.{◌≡◌, ℕ, ◌≤◌, not, Bool, List, Some, None, length, cond, ltb, unwrap_or, refl, rules, arith}
use Rattle.std.specs.List.{position_or_len}
use Rattle.std.proofs.lemmas.List.Sums.{prefix_len-le-length}
use Rattle.std.proofs.lemmas.Iterator.Search.{position_from_yields_List}
use Rattle.std.proofs.lemmas.Iterator.{YieldsList-from_slice}
use Rattle.std.proofs.lemmas.Bool.Decides.{nat_tests}
use Rattle.ti_binary.specs.Files.{is_nul}
use Rattle.ti_binary.proofs.texts.before_nul.Goals as goal

-- no index is past the end
position_or_len-le : (p : ℕ → Bool) (xs : List ℕ) → position_or_len p xs ≤ length xs
position_or_len-le p xs = prefix_len-le-length (λ x. not (p x)) xs

or_length : (n m : ℕ) → n ≤ m → unwrap_or (cond (ltb n m) (Some n) None) m ≡ n
or_length n m h = grind (arith, nat_tests)

pub returns : goal.returns
returns c =
    let offset = position_from_yields_List is_nul _ _ _ c.position.ensures.ran (YieldsList-from_slice c.args.bytes.now cc) (λ x b q h. search rules) in
    rw (c.unwrap_or-end.ensures, offset, or_length (position_or_len is_nul c.args.bytes.now) (length c.args.bytes.now) (position_or_len-le is_nul c.args.bytes.now)) refl
