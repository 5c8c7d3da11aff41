-- The names in the code are those of the table.
use Rattle.std.proofs.Common.{◌≡◌, map, refl}
use Rattle.ti_caps.specs.declared.table.TheConstants.{FLAGS, NUMBERS, TEXTS_FROM_0, TEXTS_FROM_55, TEXTS_FROM_90, TEXTS_FROM_139, TEXTS_FROM_158, TEXTS_FROM_216, TEXTS_FROM_297, TEXTS_FROM_359}
use Rattle.ti_caps.specs.Table.{flag_names, number_names, text_names_from_0, text_names_from_55, text_names_from_90, text_names_from_139, text_names_from_158, text_names_from_216, text_names_from_297, text_names_from_359}

pub flag_names-are : map (λ s. s.now) FLAGS ≡ flag_names
unfolding flag_names
flag_names-are = refl

pub number_names-are : map (λ s. s.now) NUMBERS ≡ number_names
unfolding number_names
number_names-are = refl

pub text_names_from_0-are : map (λ s. s.now) TEXTS_FROM_0 ≡ text_names_from_0
unfolding text_names_from_0
text_names_from_0-are = refl

pub text_names_from_55-are : map (λ s. s.now) TEXTS_FROM_55 ≡ text_names_from_55
unfolding text_names_from_55
text_names_from_55-are = refl

pub text_names_from_90-are : map (λ s. s.now) TEXTS_FROM_90 ≡ text_names_from_90
unfolding text_names_from_90
text_names_from_90-are = refl

pub text_names_from_139-are : map (λ s. s.now) TEXTS_FROM_139 ≡ text_names_from_139
unfolding text_names_from_139
text_names_from_139-are = refl

pub text_names_from_158-are : map (λ s. s.now) TEXTS_FROM_158 ≡ text_names_from_158
unfolding text_names_from_158
text_names_from_158-are = refl

pub text_names_from_216-are : map (λ s. s.now) TEXTS_FROM_216 ≡ text_names_from_216
unfolding text_names_from_216
text_names_from_216-are = refl

pub text_names_from_297-are : map (λ s. s.now) TEXTS_FROM_297 ≡ text_names_from_297
unfolding text_names_from_297
text_names_from_297-are = refl

pub text_names_from_359-are : map (λ s. s.now) TEXTS_FROM_359 ≡ text_names_from_359
unfolding text_names_from_359
text_names_from_359-are = refl

pub ruleset names_are = (flag_names-are, number_names-are, text_names_from_0-are, text_names_from_55-are, text_names_from_90-are, text_names_from_139-are, text_names_from_158-are, text_names_from_216-are, text_names_from_297-are, text_names_from_359-are)
