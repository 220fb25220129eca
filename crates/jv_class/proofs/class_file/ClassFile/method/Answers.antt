use Rattle.std.proofs.Common.{rules}
use Rattle.std.proofs.Common.{◌∙◌, subst, ap}
use Rattle.std.specs.Prelude.{slice_get}
use Rattle.jv_class.specs.Rules.{MembersKeepRules}
use Rattle.jv_class_structure.specs.Parts.{methods_of}
use Rattle.jv_class.proofs.Keys.{method_there}
use Rattle.jv_class.proofs.class_file.ClassFile.method.Goals as goal

pub returns-clause-named : goal.returns-clause-named
returns-clause-named c =
    (method_there c.args.self.now c.args.place c.method.result (subst MembersKeepRules c.self.view_is c.self.invariant.0.rules.members)
    (c.method.ensures ∙ ap (λ class. slice_get (methods_of class) c.args.place) c.self.view_is)).0

pub returns-clause-described : goal.returns-clause-described
returns-clause-described c =
    (method_there c.args.self.now c.args.place c.method.result (subst MembersKeepRules c.self.view_is c.self.invariant.0.rules.members)
    (c.method.ensures ∙ ap (λ class. slice_get (methods_of class) c.args.place) c.self.view_is)).1

pub returns-clause-shown : goal.returns-clause-shown
returns-clause-shown c = search rules
