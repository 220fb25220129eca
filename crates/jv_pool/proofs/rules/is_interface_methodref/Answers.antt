use Rattle.jv_pool.proofs.Kept.{first_holds, first_fails}
use Rattle.jv_pool.proofs.rules.is_interface_methodref.Goals as goal

pub returns-then-is_class_at : goal.returns-then-is_class_at
returns-then-is_class_at c = first_holds c.names_interface_method_at.result (c.is_class_at.ensures.0 c.if-is_class_at.true)
    c.names_interface_method_at.ensures (λ o m. record { owner = o; member = m }) (λ r. r.member)

pub returns-else-is_class_at : goal.returns-else-is_class_at
returns-else-is_class_at c = first_fails c.is_class_at.result c.if-is_class_at.false c.is_class_at.ensures (λ r. r.owner)
