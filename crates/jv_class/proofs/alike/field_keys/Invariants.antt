use Rattle.std.proofs.Common.{take}
use Rattle.std.specs.List.{AllZip}
use Rattle.jv_class.specs.Inside.Reading.{IsFieldKey}
use Rattle.jv_class.proofs.alike.field_keys.Given as goal

abbrev pub invariant-loop-field : goal.invariant-loop-field
invariant-loop-field l = AllZip (IsFieldKey l.pool) (take l.field-index l.fields) l.keys.items
