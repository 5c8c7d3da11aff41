use Rattle.std.proofs.Common.{◌≡◌, ◌<◌, ◌+◌, sym, ◌∙◌, subst, arith, take, length, false}
use Rattle.ti_binary.specs.Canonical.{up_to_last}
use Rattle.ti_binary.proofs.KeptLaws.{kept_same, kept_all}
use Rattle.ti_binary.proofs.counts.flag_count.Goals.{then-flag, else-flag}
use Rattle.ti_binary.proofs.counts.flag_count.Goals as goal

pub loop-slot-preserved : goal.loop-slot-preserved
loop-slot-preserved c =
    let xs = c.args.entry.now.flags in
    let i = c.loop-slot.slot in
    let inside : i < length xs = omega (arith, c.loop-slot-test.true, c.requires.described.flags) in
    elim c.if-flag.branch [
      | then-flag w ↦ record {
        few = omega (arith, w.count-is);
        kept = subst (λ n. take n xs ≡ up_to_last (λ present. present) (take (i + 1) xs)) (sym w.count-is) (kept_all (λ present. present) xs i false inside (sym c.flag.ensures ∙ w.if-flag.true));
      }
      | else-flag w ↦ record {
        few = omega (arith, w.count-is, c.loop-slot.invariant.few);
        kept = subst (λ n. take n xs ≡ up_to_last (λ present. present) (take (i + 1) xs)) (sym w.count-is)
            (kept_same (λ present. present) xs i c.loop-slot.count false inside c.loop-slot.invariant.kept (sym c.flag.ensures ∙ w.if-flag.false));
      }
    ]
