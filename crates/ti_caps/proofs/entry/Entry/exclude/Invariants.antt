use Rattle.std.proofs.Common.{◌≡◌, map, drop}
use Rattle.ti_caps.specs.Adapted.{excluded_texts, texts_without}
use Rattle.ti_caps.proofs.entry.Entry.exclude.Given as goal

-- with the rest left out too, the entry is what it will be
abbrev pub invariant-loop-weight : goal.invariant-loop-weight
invariant-loop-weight l =
    record l.self { texts = texts_without (excluded_texts l.attributes (map (λ text. (text.0, text.1.0)) (drop l.weight-index l.weight-items))) l.self.texts }
    ≡ record l.fn.self { texts = texts_without (excluded_texts l.fn.attributes (map (λ text. (text.0, text.1.0)) l.weight-items)) l.fn.self.texts }
