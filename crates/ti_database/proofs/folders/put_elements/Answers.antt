use Rattle.std.proofs.Common.{◌++◌, ◌∷◌, [], ◌∙◌, ap, eqb, length, rules, tests}
use Rattle.std.specs.List.{slice_split}
use Rattle.std.proofs.lemmas.Iterator.Splits.{YieldsList-from_slice_split}
use Rattle.std.proofs.lemmas.Iterator.Consumers.{YieldsList-turn, YieldsList-end}
use Rattle.std.proofs.lemmas.List.{length_push}
use Rattle.ti_database.specs.Places.{element_folders, is_colon}
use Rattle.ti_database.proofs.FolderLaws.{part_put, parts_all}
use Rattle.ti_database.proofs.folders.put_elements.Goals as goal

pub loop-element-preserved : goal.loop-element-preserved
loop-element-preserved c =
    let t = YieldsList-turn (YieldsList-from_slice_split _ (λ byte. eqb byte 58) c.args.list.now (cc) (cc) (cc) (λ x b q k. search (rules, tests))) c.loop-element.yielded _ c.loop-element.yielded_by _ _ c.in-Some.element c.in-Some.is c.next.ensures.steps in
    part_put element_folders (slice_split is_colon c.args.list.now) c.in-Some.element.now (length c.loop-element.yielded) (length (c.loop-element.yielded ++ c.in-Some.element ∷ []))
    c.args.folders.now c.loop-element.folders c.put_element.new.folders t.0 t.1 (length_push c.loop-element.yielded c.in-Some.element) c.loop-element.invariant c.in_ok-put_element.ensures

pub returns : goal.returns
returns c =
    let t = YieldsList-end (YieldsList-from_slice_split _ (λ byte. eqb byte 58) c.args.list.now (cc) (cc) (cc) (λ x b q k. search (rules, tests))) c.loop-element.yielded _ c.loop-element.yielded_by _ _ c.in-None.is c.next.ensures.steps in
    c.loop-element.invariant ∙ ap (λ l. c.args.folders.now ++ l) (parts_all element_folders (slice_split is_colon c.args.list.now) (length c.loop-element.yielded) t.1)
