use Rattle.std.proofs.Common.{◌≡◌, ◌∙◌, [], ◌∷◌, ◌++◌, ◌+◌, refl, length, sym, ap, subst}
use Rattle.std.proofs.lemmas.List.{length-append}
use Rattle.ti_source.specs.Described.{Described}
use Rattle.ti_source.specs.Code.Kept.{AreDescribed, described_of}
use Rattle.ti_source.specs.Resolving.Named.{AreIndexed}
use Rattle.ti_source.proofs.KeptLaws.{are_described-push, described-length, described-push}
use Rattle.ti_source.proofs.NamedLaws.{indexed-push}
use Rattle.ti_source.proofs.reading.entries.Entries.with_entry.Goals as goal

pub invariant_of-result : goal.invariant_of-result
invariant_of-result c =
    let ns = c.self.inside.names in
    let ss = c.self.inside.statements in
    let us = c.self.inside.uses in
    let k = c.self.invariant.0 in
    let ds = described_of ns ss us in
    let entry : Described = c.args.entry in
    let joined : described_of (ns ++ entry.names ∷ []) (ss ++ entry.statements ∷ []) (us ++ entry.uses ∷ []) ≡ ds ++ entry ∷ [] = described-push ns ss us entry.names entry.statements entry.uses k.stated k.used in
    let names : c.in_ok-with.field-0 ≡ ns ++ entry.names ∷ [] = rw c.into_parts-own_names.ensures.names at c.in_ok-with.ensures in
    let statements : c.in_ok-with-2.field-0 ≡ ss ++ entry.statements ∷ [] = rw c.into_parts-own_names.ensures.statements at c.in_ok-with-2.ensures in
    let uses : c.in_ok-with-3.field-0 ≡ us ++ entry.uses ∷ [] = rw c.into_parts-own_names.ensures.uses at c.in_ok-with-3.ensures in
    let counted : length ns ≡ length ds = sym (described-length ns ss us k.stated k.used) in
    let found = indexed-push (λ k. k.items) c.self.inside.indices.entries c.put_names.new.indices.entries ds entry c.self.invariant.1
    (λ q. rw (c.deref.ensures.value, c.into_parts-own_names.ensures.names, c.in_ok-index_after.ensures, c.len.ensures, counted) at (c.in_ok-put_names.ensures q)) in
    rw (names, statements, uses) (
      record {
        stated = length-append ss (entry.statements ∷ []) ∙ ap (λ n. n + 1) k.stated ∙ sym (length-append ns (entry.names ∷ []));
        used = length-append us (entry.uses ∷ []) ∙ ap (λ n. n + 1) k.used ∙ sym (length-append ns (entry.names ∷ []));
        described = subst AreDescribed (sym joined) (are_described-push ds entry k.described c.into_parts-own_names.ensures.described);
      },
      subst (λ es. AreIndexed (λ k. k.items) c.put_names.new.indices.entries es) (sym joined) found,
    )

pub returns : goal.returns
returns c =
    let ns = c.self.inside.names in
    let ss = c.self.inside.statements in
    let us = c.self.inside.uses in
    let k = c.self.invariant.0 in
    let entry : Described = c.args.entry in
    let joined : described_of (ns ++ entry.names ∷ []) (ss ++ entry.statements ∷ []) (us ++ entry.uses ∷ []) ≡ described_of ns ss us ++ entry ∷ [] = described-push ns ss us entry.names entry.statements entry.uses k.stated k.used in
    let names : c.in_ok-with.field-0 ≡ ns ++ entry.names ∷ [] = rw c.into_parts-own_names.ensures.names at c.in_ok-with.ensures in
    let statements : c.in_ok-with-2.field-0 ≡ ss ++ entry.statements ∷ [] = rw c.into_parts-own_names.ensures.statements at c.in_ok-with-2.ensures in
    let uses : c.in_ok-with-3.field-0 ≡ us ++ entry.uses ∷ [] = rw c.into_parts-own_names.ensures.uses at c.in_ok-with-3.ensures in
    rw (names, statements, uses, joined, c.self.view_is) refl
