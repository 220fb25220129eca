use Rattle.std.proofs.Common.{◌≡◌, List, false, subst, ap, ◌∙◌}
use Rattle.std.specs.Prelude.{IfNone}
use Rattle.jv_pool.specs.Constants.{Entry, kind_at}
use Rattle.jv_class_structure.specs.Structure.{ClassStructure}
use Rattle.jv_class.specs.Value.{is_value, value_of_field}
use Rattle.jv_class.proofs.Values.{value_same}
use Rattle.jv_class.proofs.class_file.ClassFile.constant_value.Goals as goal

pub returns-clause-same : goal.returns-clause-same
returns-clause-same c =
    value_same c.self.inside.parts c.self.invariant.0.rules c.self.invariant.1 c.args.place c.in-Some.field c.in-Some-constant_value.index
    c.field_at.result c.field_at.ensures c.in-Some.is c.in-Some-constant_value.is
    c.value_at.result c.value_at.ensures.same
    (subst (λ (p : List Entry). IfNone c.value_at.result (is_value (kind_at p c.in-Some-constant_value.index) ≡ false)) c.pool.ensures c.value_at.ensures.none)
    ∙ ap (λ (k : ClassStructure). value_of_field k c.args.place) c.self.view_is
