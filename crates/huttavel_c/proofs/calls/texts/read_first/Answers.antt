-- What was read is put behind the text.
use Rattle.std.proofs.Common.{◌∙◌, ◌++◌, ◌∷◌, [], ap, subst, sym, rules, take}
use lib.Utf8.{encode}
use Rattle.std.proofs.lemmas.Str.{IsUtf8-string_bytes}
use Rattle.std.specs.Str.{IsUtf8, IsValidUpTo, chars}
use Rattle.std.specs.String.{string_bytes}
use Rattle.huttavel_c.proofs.TextLaws.{all_read, first_broken, front_read, put_behind, replacement}
use Rattle.huttavel_c.proofs.calls.texts.read_first.Goals as goal

pub returns-in_ok-push_str-in-Ok-clause-read : goal.returns-in_ok-push_str-in-Ok-clause-read
returns-in_ok-push_str-in-Ok-clause-read c =
    let cases = c.in-Ok.ensures.cases in
    let old = string_bytes c.args.text.now in (
      chars c.args.bytes.now,
      put_behind old (string_bytes c.push_str.new.self) c.in-Ok.whole.now (IsUtf8-string_bytes c.args.text.now) c.in_ok-push_str-in-Ok.ensures.bytes
          ∙ ap (λ bs. chars old ++ chars bs) cases.0,
      all_read c.args.bytes.now cases.1,
    )

pub returns-in_ok-push-in-Err-clause-read : goal.returns-in_ok-push-in-Err-clause-read
returns-in_ok-push-in-Err-clause-read c =
    let cases = c.in-Err.ensures.cases in
    let old = string_bytes c.args.text.now in
    let none = sym c.valid_up_to.ensures ∙ c.if-valid_up_to-eq0.true in (
      0xFFFD ∷ [],
      put_behind old (string_bytes c.push.new.self) (encode 0xFFFD) (IsUtf8-string_bytes c.args.text.now) c.in_ok-push-in-Err.ensures.bytes
          ∙ ap (λ cs. chars old ++ cs) replacement,
      first_broken c.args.bytes.now (subst (λ n. IsValidUpTo c.args.bytes.now n) none cases.1),
    )

pub returns-in_ok-push_str-in-Err-2-clause-read : goal.returns-in_ok-push_str-in-Err-2-clause-read
returns-in_ok-push_str-in-Err-2-clause-read c =
    let cases = c.in-Err.ensures.cases in
    let old = string_bytes c.args.text.now in
    let bytes = c.args.bytes.now in
    let count = c.valid_up_to-count.result in
    let utf8 : IsUtf8 (take count bytes) = subst (λ n. IsUtf8 (take n bytes)) (sym c.valid_up_to-count.ensures) cases.1.front in (
      chars (take count bytes),
      put_behind old (string_bytes c.push_str-in-Err-2.new.self) (take count bytes) (IsUtf8-string_bytes c.args.text.now) (c.in_ok-push_str-in-Err-2.ensures.bytes ∙ ap (λ bs. old ++ bs) (search rules)),
      front_read bytes count utf8,
    )
