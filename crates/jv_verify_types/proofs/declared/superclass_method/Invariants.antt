use Rattle.jv_meaning_world.specs.LookUps.{method_in}
use Rattle.jv_pool.specs.Seen.{seen_member}
use Rattle.jv_lookups.proofs.Found.{IsLeft}
use Rattle.jv_verify_types.specs.Inside.Answered.{AreEntries}
use Rattle.jv_verify_types.proofs.declared.superclass_method.Given as goal

abbrev pub invariant-loop-superclass : goal.invariant-loop-superclass
invariant-loop-superclass l = record {
  left : IsLeft l.table (method_in (seen_member l.method).name (seen_member l.method).descriptor) l.superclass-items l.superclass-index;
  answers : AreEntries l.table l.pool l.answers.items;
}
