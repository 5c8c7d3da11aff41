use Rattle.std.proofs.Common.{◌≡◌, drop}
use Rattle.std.specs.List.{list_all}
use Rattle.ti_extended.specs.Whole.{is_whole_text}
use Rattle.ti_extended.proofs.capabilities.are_whole.Given as goal

abbrev pub invariant-loop-text : goal.invariant-loop-text
invariant-loop-text l = list_all is_whole_text (drop l.text-index l.texts) ≡ list_all is_whole_text l.texts
