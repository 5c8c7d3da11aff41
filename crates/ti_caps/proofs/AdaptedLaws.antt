-- Facts on texts that are left out.
use Rattle.std.proofs.Common.{◌≡◌, ℕ, Bool, true, false, List, ◌∷◌, Option, None, map, filter, cond, slice_set, refl}
use Rattle.ti_caps.specs.Adapted.{excluded_texts, is_excluded, texts_without}

-- the first text is left out, or is not, and then the others are
by-test : (b : Bool) (text : ℕ × ℕ) (rest : List (ℕ × ℕ)) (texts : List (Option (List ℕ)))
    → texts_without (map (λ t. t.1) (cond b (text ∷ rest) rest)) texts ≡ texts_without (map (λ t. t.1) rest) (cond b (slice_set texts text.1 None) texts)
by-test true text rest texts = refl
by-test false text rest texts = refl

pub without_first : (attributes : ℕ) (text : ℕ × ℕ) (rest : List (ℕ × ℕ)) (texts : List (Option (List ℕ)))
    → texts_without (excluded_texts attributes (text ∷ rest)) texts ≡ texts_without (excluded_texts attributes rest) (cond (is_excluded attributes text.0) (slice_set texts text.1 None) texts)
without_first attributes text rest texts = by-test (is_excluded attributes text.0) text (filter (λ t. is_excluded attributes t.0) rest) texts
