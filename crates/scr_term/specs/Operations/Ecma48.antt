-- The profile of the bundled entry, and what can be relied on. ECMA-48, 8.3; terminfo(5), 'Predefined Capabilities'.
use Rattle.std.specs.Prelude.{ℕ, ◌≡◌, ◌++◌, true, map, Option, option_and_then}
use Rattle.scr_cells.specs.declared.charsets.Charset.{Charset}
use Rattle.ti_caps.specs.Bundled.{bundled_texts, listed}
use Rattle.ti_param.specs.Parsed.{parsed}
use Rattle.ti_param.specs.Stripped.{stripped}
use Rattle.ti_param.specs.Tree.{Tree}
use Rattle.scr_term.specs.declared.operations.capability.Capability.{Capability}
use Rattle.scr_term.specs.Operations.Abilities.{full_abilities}
use Rattle.scr_term.specs.Operations.Admission.{IsEcma48, some_text}
use Rattle.scr_term.specs.Operations.Capabilities.{each_capability, each_spare, slot_of}
use Rattle.scr_term.specs.Operations.Profiles.{ProfileView, IsProfile, abilities}

-- The program of a capability in the bundled entry.
abbrev pub bundled_program : Capability → Option Tree
bundled_program capability =
    option_and_then parsed (option_and_then (λ text. some_text (stripped text)) (listed bundled_texts (slot_of capability).0))

-- The profile of the bundled entry, which has no spare capability, on a screen of this size.
unfoldable pub ecma48_profile : Charset → ℕ → ℕ → ProfileView
ecma48_profile charset rows columns = record {
  rows = rows;
  columns = columns;
  programs = map bundled_program each_capability ++ map bundled_program each_spare;
  msgr = true;
  palette = true;
  charset = charset;
}

-- The bundled entry makes this profile; the profile is valid, and its terminal shows every attribute and colours.
pub record Ecma48Laws : Type 0 where
  pub made : (profile : ProfileView) → IsEcma48 profile → profile ≡ ecma48_profile profile.charset profile.rows profile.columns
  pub is_profile : (profile : ProfileView) → IsEcma48 profile → IsProfile profile
  pub can_show : (charset : Charset) (rows columns : ℕ) → abilities (ecma48_profile charset rows columns) ≡ full_abilities charset rows columns
