use Rattle.std.proofs.Common.{◌≡◌, ◌∙◌, ℕ, Some, [], ◌∷◌, subst, sym}
use Rattle.ti_source.specs.Described.{Described}
use Rattle.ti_source.specs.Reading.Sources.{Whole}
use Rattle.ti_source.specs.Resolving.Passing.{IsPassedOn}
use Rattle.ti_source.proofs.TaskLaws.{found-at, index-there}
use Rattle.ti_source.proofs.source.Source.passed_on.Goals as goal

pub returns-clause-passes : goal.returns-clause-passes
returns-clause-passes c =
    let entries = c.self.inside.entries in
    let entry = c.at-entry.result in
    subst (λ (s : Whole). IsPassedOn s.entries c.args.name.now c.names.result.now c.in_ok-only_use.field-0.now) c.self.view_is
    (record {
      found = (c.in_ok-i.i, entry);
      finds = found-at entries c.args.name.now c.in_ok-i.i entry (sym c.index_of.ensures ∙ c.in_ok-i.was) c.at-entry.ensures;
      names = sym c.names.ensures.value;
      none = c.in_ok-only_use.ensures.some.0;
      uses = c.in_ok-only_use.ensures.some.1;
    })

pub at-entry-requires : goal.at-entry-requires
at-entry-requires c = index-there c.self.inside.entries c.args.name.now c.in_ok-i.i (sym c.index_of.ensures ∙ c.in_ok-i.was)

pub returns-in_err-only_use-clause-others : goal.returns-in_err-only_use-clause-others
returns-in_err-only_use-clause-others c e own other passes =
    let entries = c.self.inside.entries in
    let entry = c.at-entry.result in
    let name = c.args.name.now in
    let p : IsPassedOn entries name own other = subst (λ (s : Whole). IsPassedOn s.entries name own other) (sym c.self.view_is) passes in
    let finds : Some p.found ≡ Some (c.in_ok-i.i, entry) = sym p.finds ∙ found-at entries name c.in_ok-i.i entry (sym c.index_of.ensures ∙ c.in_ok-i.was) c.at-entry.ensures in
    let same : p.found ≡ (c.in_ok-i.i, entry) = cc in
    c.only_use.ensures.none c.in_err-only_use.was other
    (subst (λ (f : ℕ × Described). f.1.statements ≡ []) same p.none)
    (subst (λ (f : ℕ × Described). f.1.uses ≡ other ∷ []) same p.uses)
