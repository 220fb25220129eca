use Rattle.jv_class.proofs.Kept.{untrue}
use Rattle.jv_beyond.proofs.supported.has_no_floating.Goals as goal

pub returns-then-is_no_floating_field : goal.returns-then-is_no_floating_field
returns-then-is_no_floating_field c = λ text h. (
  λ t. record { field = (c.is_no_floating_field.ensures text h.field).0 c.if-is_no_floating_field.true; method = (c.is_no_floating_method.ensures text h.method).0 t },
  λ n. (c.is_no_floating_method.ensures text h.method).1 n.method,
)

pub returns-else-is_no_floating_field : goal.returns-else-is_no_floating_field
returns-else-is_no_floating_field c = λ text h. (
  λ t. absurd (untrue _ c.if-is_no_floating_field.false t),
  λ n. (c.is_no_floating_field.ensures text h.field).1 n.field,
)
