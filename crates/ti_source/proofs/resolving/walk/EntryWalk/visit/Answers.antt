use Rattle.std.proofs.Common.{◌≡◌, inr, refl, reverse, rules, slice_get, Some, None}
use Rattle.ti_source.specs.declared.resolving.marks.Mark.TheVariants.{Open, Done, Over, Kept, Faulty}
use Rattle.ti_source.proofs.WalkLaws.{cycle-at, past-at, marked-at, done-stepped}
use Rattle.ti_source.proofs.resolving.walk.EntryWalk.visit.Goals as goal

pub returns-in-Some-Open-clause-err : goal.returns-in-Some-Open-clause-err
returns-in-Some-Open-clause-err c =
    let at : slice_get c.args.self.now.marks.items c.args.i ≡ Some Open = search rules in
    inr (record {
      same = refl;
      index = Some c.args.i;
      visit = refl;
      stuck = cycle-at c.args.entries.now c.args.self.now.marks.items c.args.self.now.kept.items c.args.i (reverse c.args.self.now.tasks.items) c.requires at;
    })

pub returns-in-Some-Done-clause-ok : goal.returns-in-Some-Done-clause-ok
returns-in-Some-Done-clause-ok c =
    let at : slice_get c.args.self.now.marks.items c.args.i ≡ Some (Done c.in-Some-Done.field-0-0) = search rules in
    done-stepped c.args.entries.now c.args.self.now.marks.items c.args.self.now.kept.items c.args.i (Done c.in-Some-Done.field-0-0) (reverse c.args.self.now.tasks.items) c.requires at refl

pub returns-in-Some-Over-clause-ok : goal.returns-in-Some-Over-clause-ok
returns-in-Some-Over-clause-ok c =
    let at : slice_get c.args.self.now.marks.items c.args.i ≡ Some (Over c.in-Some-Over.field-0-0 c.in-Some-Over.field-0-1) = search rules in
    done-stepped c.args.entries.now c.args.self.now.marks.items c.args.self.now.kept.items c.args.i (Over c.in-Some-Over.field-0-0 c.in-Some-Over.field-0-1) (reverse c.args.self.now.tasks.items) c.requires at refl

pub returns-in-Some-Kept-clause-ok : goal.returns-in-Some-Kept-clause-ok
returns-in-Some-Kept-clause-ok c =
    let at : slice_get c.args.self.now.marks.items c.args.i ≡ Some (Kept c.in-Some-Kept.field-0-0) = search rules in
    done-stepped c.args.entries.now c.args.self.now.marks.items c.args.self.now.kept.items c.args.i (Kept c.in-Some-Kept.field-0-0) (reverse c.args.self.now.tasks.items) c.requires at refl

pub returns-in-Some-Faulty-clause-err : goal.returns-in-Some-Faulty-clause-err
returns-in-Some-Faulty-clause-err c =
    let at : slice_get c.args.self.now.marks.items c.args.i ≡ Some (Faulty c.in-Some-Faulty.fault) = search rules in
    inr (record {
      same = refl;
      index = Some c.args.i;
      visit = refl;
      stuck = marked-at c.args.entries.now c.args.self.now.marks.items c.args.self.now.kept.items c.args.i c.in-Some-Faulty.fault (reverse c.args.self.now.tasks.items) c.requires at;
    })

pub returns-in-None-clause-err : goal.returns-in-None-clause-err
returns-in-None-clause-err c =
    let at : slice_get c.args.self.now.marks.items c.args.i ≡ None = search rules in
    inr (record {
      same = refl;
      index = Some c.args.i;
      visit = refl;
      stuck = past-at c.args.entries.now c.args.self.now.marks.items c.args.self.now.kept.items c.args.i (reverse c.args.self.now.tasks.items) c.requires at;
    })
