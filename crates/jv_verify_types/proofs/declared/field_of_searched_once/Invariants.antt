use Rattle.jv_pool.specs.Seen.{seen_member}
use Rattle.jv_lookups.specs.Inside.Members.{field_named_in}
use Rattle.jv_lookups.proofs.Found.{IsLeft}
use Rattle.jv_verify_types.specs.Inside.Answered.{AreEntries}
use Rattle.jv_verify_types.proofs.declared.field_of_searched_once.Given as goal

abbrev pub invariant-loop-class : goal.invariant-loop-class
invariant-loop-class l = record {
  left : IsLeft l.table (field_named_in (seen_member l.field).name (seen_member l.field).descriptor) l.searched l.class-index;
  answers : AreEntries l.table l.pool l.answers.items;
}
