use Rattle.std.proofs.Common.{subst}
use Rattle.std.specs.Prelude.{IsSomeAnd, string_bytes}
use Rattle.jv_class_structure.specs.Structure.{ClassStructure}
use Rattle.jv_meaning_world.specs.FileContent.{IsContent}
use Rattle.jv_meaning_world.specs.declared.content.Content.{Content}
use Rattle.jv_loader.specs.Inside.Reading.{content_of}
use Rattle.jv_explain.proofs.Refused.{held, not_held}
use Rattle.jv_explain.proofs.supers.explain_refusal.Goals as goal

pub returns-in_ok-explain_class-in-Holds : goal.returns-in_ok-explain_class-in-Holds
returns-in_ok-explain_class-in-Holds c = λ content is.
    held c.one_content.ensures c.args.classes.now.world c.args.bytes.now c.args.why content is c.in-Holds.file c.name.result.now
    (string_bytes c.in_ok-explain_class-in-Holds.field-0)
    (subst (λ (f : Content ClassStructure). IsSomeAnd (content_of f) (IsContent c.args.bytes.now)) c.in-Holds.is c.in_ok-file.ensures)
    c.name.ensures c.in_ok-explain_class-in-Holds.ensures

pub returns-in_default : goal.returns-in_default
returns-in_default c = λ content is.
    not_held c.one_content.ensures c.args.classes.now.world c.args.bytes.now c.args.why content is c.in_ok-file.field-0 c.in_default.not-Holds c.in_ok-file.ensures
    (string_bytes c.new.result) c.new.ensures.bytes
