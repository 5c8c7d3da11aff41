use Rattle.std.proofs.Common.{◌≡◌, map, drop}
use Rattle.ti_caps.specs.Settings.{texts_set}
use Rattle.ti_caps.proofs.bundle.set_texts.Given as goal

-- with the rest set too, the entry is what it will be
abbrev pub invariant-loop-slot : goal.invariant-loop-slot
invariant-loop-slot l =
    record l.entry { texts = texts_set l.entry.texts (map (λ p. (p.0.0, p.1.now)) (drop l.slot-index l.texts)) }
    ≡ record l.fn.entry { texts = texts_set l.fn.entry.texts (map (λ p. (p.0.0, p.1.now)) l.texts) }
