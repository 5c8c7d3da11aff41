use Rattle.std.proofs.Common.{◌≡◌, ◌+◌, ◌<◌, false, sym, ◌∙◌, ap, arith, ℕ, Bool, List, [], ◌∷◌, ◌++◌, length, map, take, get_or, set}
use Rattle.std.proofs.lemmas.List.{take_more, map-append, length-map, length-take-le}
use Rattle.ti_caps.specs.Description.{Description}
use Rattle.ti_binary.specs.Files.{flag_said, padded}
use Rattle.ti_binary.proofs.FilledLaws.{on_ok, padded_more}
use Rattle.ti_binary.proofs.filler.set_flags.Goals as goal

flags_more : (flags : List ℕ) (i : ℕ) → i < length flags → map flag_said (take i flags) ++ flag_said (get_or flags i 0) ∷ [] ≡ map flag_said (take (i + 1) flags)
flags_more flags i lt = sym (ap (map flag_said) (take_more flags i 0 lt) ∙ map-append flag_said (take i flags) (get_or flags i 0 ∷ []))

pub loop-slot-preserved : goal.loop-slot-preserved
loop-slot-preserved c =
    let flags = c.args.flags.now in
    let i = c.loop-slot.slot in
    let said : List Bool = map flag_said (take i flags) in
    let n : length said ≡ i = length-map (take i flags) flag_said ∙ length-take-le i flags (omega (arith, c.loop-slot-test.true)) in
    on_ok c.set_flag.result c.set_flag.ensures.ok (c.set_flag.ensures.fits (omega (arith, c.loop-slot-test.true, c.requires.few)))
    ∙ ap (λ (fs : Description). record fs { flags = set fs.flags i (flag_said (get_or flags i 0)) }) c.loop-slot.invariant
    ∙ ap (λ (fs : List Bool). record c.args.entry.now { flags = fs }) (padded_more 64 false (flag_said (get_or flags i 0)) said i n (omega (arith, c.loop-slot-test.true, c.requires.few)) ∙ ap (padded 64 false) (flags_more flags i c.loop-slot-test.true))
