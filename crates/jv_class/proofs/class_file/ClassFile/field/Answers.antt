use Rattle.std.proofs.Common.{rules}
use Rattle.std.proofs.Common.{◌∙◌, subst, ap}
use Rattle.std.specs.Prelude.{slice_get}
use Rattle.jv_class.specs.Rules.{MembersKeepRules}
use Rattle.jv_class_structure.specs.Parts.{fields_of}
use Rattle.jv_class.proofs.Keys.{field_there}
use Rattle.jv_class.proofs.class_file.ClassFile.field.Goals as goal

pub returns-clause-named : goal.returns-clause-named
returns-clause-named c =
    (field_there c.args.self.now c.args.place c.field_at.result (subst MembersKeepRules c.self.view_is c.self.invariant.0.rules.members)
    (c.field_at.ensures ∙ ap (λ class. slice_get (fields_of class) c.args.place) c.self.view_is)).0

pub returns-clause-described : goal.returns-clause-described
returns-clause-described c =
    (field_there c.args.self.now c.args.place c.field_at.result (subst MembersKeepRules c.self.view_is c.self.invariant.0.rules.members)
    (c.field_at.ensures ∙ ap (λ class. slice_get (fields_of class) c.args.place) c.self.view_is)).1

pub returns-clause-shown : goal.returns-clause-shown
returns-clause-shown c = search rules
