use Rattle.std.proofs.Common.{◌≡◌, ◌+◌, ◌<◌, ◌∙◌, ap, arith, ℕ, Bool, List, Option, None, map, set, cond}
use Rattle.ti_caps.specs.Description.{Description}
use Rattle.ti_binary.specs.Files.{is_clamped, nth_number, number_said, numbers_in, padded}
use Rattle.ti_binary.proofs.FilledLaws.{on_ok, padded_more}
use Rattle.ti_binary.proofs.WordLaws.{at_most_one, count_more, one_if, said_length, said_more, size_grows}
use Rattle.ti_binary.proofs.filler.set_numbers.Goals as goal

pub number-number-requires : goal.number-number-requires
number-number-requires c = rw c.from.ensures (omega (arith, size_grows c.args.width (c.loop-slot.slot + 1) c.args.count (omega (arith, c.loop-slot-test.true)), c.requires.room))

pub loop-slot-preserved : goal.loop-slot-preserved
loop-slot-preserved c =
    let numbers = c.args.numbers.now in
    let width = c.args.width in
    let i = c.loop-slot.slot in
    let inside : i < 64 = omega (arith, c.loop-slot-test.true, c.requires.few) in
    let read : ℕ → ℕ = λ n. nth_number width numbers n in
    let here : Option ℕ = number_said width (read i) in
    let number : c.number-number.result ≡ read i = c.number-number.ensures ∙ ap read c.from.ensures in
    let said : c.said.result ≡ here = c.said.ensures.value ∙ ap (number_said width) number in
    let one : c.from-clamped.result ≡ cond (is_clamped width (read i)) 1 0 =
    c.from-clamped.ensures ∙ one_if c.is_clamped.result ∙ ap (λ (b : Bool). cond {A = ℕ} b 1 0) (c.is_clamped.ensures ∙ ap (is_clamped width) number) in
    record {
      set =
          on_ok c.set_number.result c.set_number.ensures.ok (c.set_number.ensures.fits inside)
          ∙ ap (λ (o : Option ℕ). record c.loop-slot.entry { numbers = set c.loop-slot.entry.numbers i o }) said
          ∙ ap (λ (e : Description). record e { numbers = set e.numbers i here }) c.loop-slot.invariant.set
          ∙ ap (λ (ns : List (Option ℕ)). record c.args.entry.now { numbers = ns })
          (padded_more 64 None here (map (number_said width) (numbers_in width numbers i)) i (said_length (number_said width) read i) inside ∙ ap (padded 64 None) (said_more (number_said width) read i));
      counted = omega (arith, c.loop-slot.invariant.counted, one, count_more (is_clamped width) read i);
      few = omega (arith, c.loop-slot.invariant.few, one, at_most_one (is_clamped width (read i)));
    }
