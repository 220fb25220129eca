use Rattle.std.proofs.Common.{subst}
use Rattle.std.specs.Prelude.{IsSomeAnd}
use Rattle.jv_class_structure.specs.Structure.{ClassStructure}
use Rattle.jv_meaning_world.specs.FileContent.{IsContent}
use Rattle.jv_meaning_world.specs.declared.content.Content.{Content}
use Rattle.jv_loader.specs.Inside.Reading.{content_of}
use Rattle.jv_place.specs.declared.method.Wanted.{Wanted}
use Rattle.jv_place.specs.Inside.Found.{text_in}
use Rattle.jv_place.proofs.Places.{held, not_held}
use Rattle.jv_place.proofs.file.instruction_of.Goals as goal

pub returns-in_ok-text_in_class-in-Holds : goal.returns-in_ok-text_in_class-in-Holds
returns-in_ok-text_in_class-in-Holds c =
    let wanted : Wanted = record { name = c.args.name; descriptor = c.args.descriptor; offset = c.args.offset } in
    let read =
    subst (λ (f : Content ClassStructure). IsSomeAnd (content_of f) (IsContent c.args.bytes.now)) c.in-Holds.is c.in_ok-file.ensures in
    held c.one_content.ensures c.args.bytes.now c.args.class.now wanted c.in-Holds.file (text_in c.in_ok-text_in_class-in-Holds.field-0) read
    c.in_ok-text_in_class-in-Holds.ensures

pub returns-in_default : goal.returns-in_default
returns-in_default c =
    let wanted : Wanted = record { name = c.args.name; descriptor = c.args.descriptor; offset = c.args.offset } in
    not_held c.one_content.ensures c.args.bytes.now c.args.class.now wanted c.in_ok-file.field-0 c.in_default.not-Holds c.in_ok-file.ensures
