use Rattle.std.proofs.Common.{◌≡◌, ◌++◌, take}
use Rattle.ti_source.proofs.resolving.fields.Fields.extend_from_slice.Given as goal

-- the first of them are put
abbrev pub invariant-loop-field : goal.invariant-loop-field
invariant-loop-field l = l.self ≡ l.fn.self ++ take l.field-index l.fields
