use Rattle.std.proofs.Common.{Bool, ℕ, List, Option, Bor, subst}
use Rattle.jv_format.specs.Format.{Finds}
use Rattle.jv_class_structure.specs.Inside.Reading.{values_kept}
use Rattle.jv_class_structure.proofs.members.constant_value_at.Goals as goal

pub returns : goal.returns
returns c =
    subst (λ (b : Bool). Finds (values_kept c.args.pool.now b) c.args.bytes.now (λ (x : Option ℕ × Bor (List ℕ)). (x.0, x.1.now)) c.values_at.result) c.is_static.ensures c.values_at.ensures
