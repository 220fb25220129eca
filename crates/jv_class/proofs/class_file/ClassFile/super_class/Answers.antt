use Rattle.std.proofs.Common.{subst, ◌∙◌, sym}
use Rattle.std.specs.Prelude.{IsSome}
use Rattle.jv_pool.specs.Constants.{class_name_at}
use Rattle.jv_class_structure.specs.Structure.{ClassStructure}
use Rattle.jv_class.proofs.Keys.{super_there}
use Rattle.jv_class.proofs.class_file.ClassFile.super_class.Goals as goal

pub returns-clause-named : goal.returns-clause-named
returns-clause-named c =
    let k : ClassStructure = c.self.inside.parts in
    let same = c.super_class-index.ensures in
    subst (λ (d : ClassStructure). IsSome (class_name_at d.constant_pool c.super_class-index.result)) c.self.view_is
    (subst (λ i. IsSome (class_name_at k.constant_pool i)) (sym same)
    (super_there k.constant_pool k.super_class (class_name_at k.constant_pool k.this_class) c.self.invariant.0.rules.itself.named (λ e. c.if-index-eq0.false (same ∙ e))))
