use Rattle.jv_pool.proofs.Kept.{first_holds, first_fails}
use Rattle.jv_pool.proofs.rules.is_name_and_type.Goals as goal

pub returns-then-is_unqualified_at : goal.returns-then-is_unqualified_at
returns-then-is_unqualified_at c = first_holds c.is_descriptor_at.result (c.is_unqualified_at.ensures.0 c.if-is_unqualified_at.true)
    c.is_descriptor_at.ensures (λ n d. record { named = n; described = d }) (λ r. r.described)

pub returns-else-is_unqualified_at : goal.returns-else-is_unqualified_at
returns-else-is_unqualified_at c = first_fails c.is_unqualified_at.result c.if-is_unqualified_at.false c.is_unqualified_at.ensures (λ r. r.named)
