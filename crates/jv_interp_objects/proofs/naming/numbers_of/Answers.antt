use Rattle.std.proofs.Common.{◌≡◌, Some, subst}
use Rattle.jv_link.specs.declared.target.ClassRef.{ClassRef}
use Rattle.jv_link.specs.Seen.{class_ref_at}
use Rattle.jv_interp_objects.proofs.NamedTypes.{class_resolved}
use Rattle.jv_interp_objects.proofs.naming.numbers_of.Goals as goal

pub returns-in-Class-clause-of_type : goal.returns-in-Class-clause-of_type
returns-in-Class-clause-of_type c = λ r at has.
    class_resolved c.args.table.now c.is_numbered.ensures c.in-Class.number r
    (subst (λ (x : ClassRef). class_ref_at c.args.table.now x ≡ Some r) c.in-Class.is at)
