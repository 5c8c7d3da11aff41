use Rattle.std.proofs.Common.{false, MatchBool, MatchOption, subst}
use Rattle.terminal.specs.Locales.{HasCodeset, IsUtf8Codeset, SaysUtf8}
use Rattle.terminal.proofs.LocaleLaws.{says}
use Rattle.terminal.proofs.locales.says_utf8.Goals as goal

pub returns-in-Some : goal.returns-in-Some
returns-in-Some c =
    let locale = c.args.locale.now in
    let codeset = c.codeset_of.result.now in
    let t = c.is_utf8_codeset.result in
    subst (λ r. MatchOption r (¬ SaysUtf8 locale) (λ both. HasCodeset both.1.now codeset → MatchBool t (IsUtf8Codeset codeset) (¬ IsUtf8Codeset codeset) → MatchBool t (SaysUtf8 locale) (¬ SaysUtf8 locale))) c.in-Some.is
    (says locale codeset c.split_once.result t c.split_once.ensures.cases)
    c.codeset_of.ensures
    c.is_utf8_codeset.ensures

pub returns-in-None : goal.returns-in-None
returns-in-None c =
    let locale = c.args.locale.now in
    subst (λ r. MatchOption r (¬ SaysUtf8 locale) (λ both. HasCodeset both.1.now locale → MatchBool false (IsUtf8Codeset locale) (¬ IsUtf8Codeset locale) → MatchBool false (SaysUtf8 locale) (¬ SaysUtf8 locale))) c.in-None.is
    (says locale locale c.split_once.result false c.split_once.ensures.cases)
