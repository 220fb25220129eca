use Rattle.std.proofs.Common.{subst, ap, ◌∙◌}
use Rattle.jv_class_structure.specs.Structure.{ClassStructure}
use Rattle.jv_class.specs.Rules.{SupersKeepRules}
use Rattle.jv_class.proofs.Keys.{classes_there}
use Rattle.jv_class.proofs.class_file.ClassFile.interfaces.Goals as goal

pub returns-clause-named : goal.returns-clause-named
returns-clause-named c =
    classes_there c.args.self.now c.interfaces.result.now (c.interfaces.ensures ∙ ap (λ (k : ClassStructure). k.interfaces) c.self.view_is)
    (subst SupersKeepRules c.self.view_is c.self.invariant.0.rules.itself.supers)
