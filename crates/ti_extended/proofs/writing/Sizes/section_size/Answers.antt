use Rattle.std.proofs.Common.{◌≡◌, ℕ, ◌+◌, ◌*◌, ◌%◌, ap, arith}
use Rattle.ti_extended.proofs.WritingLaws.{names_few, size_by, size_large, size_small}
use Rattle.ti_extended.proofs.writing.Sizes.section_size.Goals as goal

pub returns-then-self-gt16384-clause-large : goal.returns-then-self-gt16384-clause-large
returns-then-self-gt16384-clause-large c = λ e a le. absurd (omega (arith, names_few c.args.width e c.args.self.now a le, c.if-self-gt16384.true))

pub returns-clause-small : goal.returns-clause-small
returns-clause-small c =
    let s = c.args.self.now in
    let n : ℕ = 10 + s.flags + s.flags % 2 + c.size_of.result + 2 * s.texts + 2 * s.names + s.text_bytes + s.name_bytes in
    let is : n ≡ size_by c.args.width s = ap (λ k. 10 + s.flags + s.flags % 2 + k + 2 * s.texts + 2 * s.names + s.text_bytes + s.name_bytes) c.size_of.ensures.size in
    λ e a le. size_small c.args.width e s n a is le

pub returns-clause-large : goal.returns-clause-large
returns-clause-large c =
    let s = c.args.self.now in
    let n : ℕ = 10 + s.flags + s.flags % 2 + c.size_of.result + 2 * s.texts + 2 * s.names + s.text_bytes + s.name_bytes in
    let is : n ≡ size_by c.args.width s = ap (λ k. 10 + s.flags + s.flags % 2 + k + 2 * s.texts + 2 * s.names + s.text_bytes + s.name_bytes) c.size_of.ensures.size in
    λ e a le. size_large c.args.width e s n a is le
