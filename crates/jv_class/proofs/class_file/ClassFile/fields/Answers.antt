use Rattle.std.proofs.Common.{refl, subst, ap, ◌∙◌}
use Rattle.jv_class_structure.specs.declared.member.Field.{Field}
use Rattle.jv_class.specs.Rules.{MembersKeepRules}
use Rattle.jv_class_structure.specs.Parts.{fields_of}
use Rattle.jv_class.proofs.Keys.{fields_there, all_named, all_described}
use Rattle.jv_class.proofs.class_file.ClassFile.fields.Goals as goal

pub returns-clause-named : goal.returns-clause-named
returns-clause-named c =
    all_named c.args.self.now.constant_pool (λ (field : Field). field.name.0) (λ (field : Field). field.descriptor.0) c.fields.result.now
    (fields_there c.args.self.now c.args.self.now.constant_pool c.fields.result.now refl (c.fields.ensures ∙ ap fields_of c.self.view_is)
    (subst MembersKeepRules c.self.view_is c.self.invariant.0.rules.members))

pub returns-clause-described : goal.returns-clause-described
returns-clause-described c =
    all_described c.args.self.now.constant_pool (λ (field : Field). field.name.0) (λ (field : Field). field.descriptor.0) c.fields.result.now
    (fields_there c.args.self.now c.args.self.now.constant_pool c.fields.result.now refl (c.fields.ensures ∙ ap fields_of c.self.view_is)
    (subst MembersKeepRules c.self.view_is c.self.invariant.0.rules.members))
