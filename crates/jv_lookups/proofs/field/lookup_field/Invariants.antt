use Rattle.jv_lookups.specs.Inside.Members.{field_named_in}
use Rattle.jv_lookups.proofs.Found.{IsLeft}
use Rattle.jv_lookups.proofs.field.lookup_field.Given as goal

abbrev pub invariant-loop-class : goal.invariant-loop-class
invariant-loop-class l = IsLeft l.table (field_named_in l.name l.descriptor) l.searched l.class-index
