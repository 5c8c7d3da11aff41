-- What a profile keeps beside what contracts see of it.
use Rattle.std.specs.Prelude.{ℕ, ◌≡◌, ◌≤◌, Bool, true, false, List, Option, length, refl}
use Rattle.std.specs.Coded.{Coded, code_by, coded×, coded_ℕ, coded_bool, coded_list, coded_option}
use Rattle.scr_cells.specs.Characters.{is_utf8}
use Rattle.scr_cells.specs.declared.charsets.Charset.{Charset}
use Rattle.scr_cells.specs.declared.charsets.Charset.TheVariants.{Ascii, Utf8}
use Rattle.ti_param.specs.Tree.{Tree}
use Rattle.scr_term.specs.declared.operations.operation.Op.{Op}
use Rattle.scr_term.specs.Operations.Profiles.{ProfileView, IsProfile, has_colours, shown_set}
use Rattle.scr_term.specs.Operations.Texts.{bytes_of}

-- the attributes that are shown, whether colours are, and a number of bytes that no operation's text exceeds
pub record IsKept (profile : ProfileView) (shown : ℕ) (colours : Bool) (longest : ℕ) : Type 0 where
  pub is_profile : IsProfile profile
  pub attributes : shown ≡ shown_set profile
  pub palette : colours ≡ has_colours profile
  pub prices : (op : Op) → length (bytes_of profile op) ≤ longest
  pub few : longest ≤ 2048

-- a profile is stored as its fields, one beside another
abbrev pub charset_of : Bool → Charset
charset_of false = Ascii
charset_of true = Utf8

pub charset_back : (charset : Charset) → charset_of (is_utf8 charset) ≡ charset
charset_back Ascii = refl
charset_back Utf8 = refl

abbrev pub profile_code : Coded Tree → Coded ProfileView
profile_code tree =
    code_by (ℕ × (ℕ × (List (Option Tree) × (Bool × (Bool × Bool))))) (coded× coded_ℕ (coded× coded_ℕ (coded× (coded_list (coded_option tree)) (coded× coded_bool (coded× coded_bool coded_bool)))))
    (λ p. (p.rows, (p.columns, (p.programs, (p.msgr, (p.palette, is_utf8 p.charset))))))
    (λ t. record { rows = t.0; columns = t.1.0; programs = t.1.1.0; msgr = t.1.1.1.0; palette = t.1.1.1.1.0; charset = charset_of t.1.1.1.1.1 })
    (λ p i. record { rows = p.rows; columns = p.columns; programs = p.programs; msgr = p.msgr; palette = p.palette; charset = charset_back p.charset i })
