-- The profile that the bundled entry makes.
use Rattle.std.proofs.Common.{◌≡◌, sym, ◌∙◌, ap, subst, arith, ℕ, Option, None, Some}
use Rattle.scr_cells.specs.PictureViews.{IsSize}
use Rattle.scr_cells.specs.declared.charsets.Charset.{Charset}
use Rattle.scr_cells.specs.declared.sizes.Size.{Size}
use Rattle.ti_caps.specs.Bundled.{IsBundled, bundled_numbers, listed}
use Rattle.ti_caps.specs.Description.{Description, number_at}
use Rattle.ti_caps.specs.declared.slots.TheConstants.{COLS, LINES}
use Rattle.scr_term.specs.Operations.Admission.{IsAdmittedAs, IsEcma48, admitted, admitted_on, number_pair}
use Rattle.scr_term.specs.Operations.Profiles.{ProfileView}

-- its size is the one that it was made for
rows_are : (charset : Charset) (entry : Description) (rows columns : ℕ) (profile : ProfileView) → profile ≡ admitted charset entry rows columns → profile.rows ≡ rows
unfolding admitted
rows_are charset entry rows columns profile made = ap {A = ProfileView} (λ p. p.rows) made

columns_are : (charset : Charset) (entry : Description) (rows columns : ℕ) (profile : ProfileView) → profile ≡ admitted charset entry rows columns → profile.columns ≡ columns
unfolding admitted
columns_are charset entry rows columns profile made = ap {A = ProfileView} (λ p. p.columns) made

charset_is : (charset : Charset) (entry : Description) (rows columns : ℕ) (profile : ProfileView) → profile ≡ admitted charset entry rows columns → profile.charset ≡ charset
unfolding admitted
charset_is charset entry rows columns profile made = ap {A = ProfileView} (λ p. p.charset) made

made_for : (charset : Charset) (entry : Description) (rows columns : ℕ) → IsSize rows columns → IsBundled entry → (profile : ProfileView) → profile ≡ admitted charset entry rows columns → IsEcma48 profile
made_for charset entry rows columns fits bundled profile made =
    let high = sym (rows_are charset entry rows columns profile made) in
    let wide = sym (columns_are charset entry rows columns profile made) in
    record {
      size = subst (λ n. IsSize n profile.columns) high (subst (IsSize rows) wide fits);
      entry = entry;
      bundled = bundled;
      made = made ∙ ap (λ n. admitted charset entry n columns) high ∙ ap (admitted charset entry profile.rows) wide ∙ ap (λ c. admitted c entry profile.rows profile.columns) (sym (charset_is charset entry rows columns profile made));
    }

-- the size that the entry gives
own_size : (entry : Description) → IsBundled entry → number_pair (number_at entry LINES.0) (number_at entry COLS.0) ≡ Some (24, 80)
own_size entry bundled = ap (λ n. number_pair n (number_at entry COLS.0)) (bundled.numbers LINES.0) ∙ ap (number_pair (listed bundled_numbers LINES.0)) (bundled.numbers COLS.0)

pub ecma48_is : (charset : Charset) (entry : Description) → IsBundled entry → (profile : ProfileView) → (size : Option Size) → IsAdmittedAs charset entry size profile → IsEcma48 profile
ecma48_is charset entry bundled profile (Some size) is = made_for charset entry size.rows size.columns size.in_range bundled profile is.made
ecma48_is charset entry bundled profile None is = made_for charset entry 24 80 (record { some_rows = omega arith; some_columns = omega arith; few_rows = omega arith; few_columns = omega arith }) bundled profile (subst (λ s. admitted_on charset entry s profile) (own_size entry bundled) is.made)
