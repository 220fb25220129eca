use Rattle.std.proofs.Common.{◌≡◌, ◌∙◌, ◌++◌, ◌∷◌, [], None, sym, ap, subst}
use Rattle.jv_class.specs.Class.{Class}
use Rattle.jv_meaning_world.specs.World.{loaded}
use Rattle.jv_meaning_world.specs.Numbers.{number_named}
use Rattle.jv_loader.proofs.Contents.{known, must_hold, same_class}
use Rattle.jv_loader.proofs.system.add_known_file.Goals as goal

pub unreachable-requires : goal.unreachable-requires
unreachable-requires c =
    let held = known c.one_content.ensures c.args.bytes.now c.in_ok-file.field-0 c.requires.0 c.in_ok-file.ensures c.requires.1 in
    must_hold c.in_ok-file.field-0 c.requires.0 held c.in_default.not-Holds

pub add-requires : goal.add-requires
add-requires c =
    let held = known c.one_content.ensures c.args.bytes.now c.in_ok-file.field-0 c.requires.0 c.in_ok-file.ensures c.requires.1 in
    let same = same_class c.in_ok-file.field-0 c.in-Holds.file c.in_ok-class-in-Holds.class.class c.requires.0 held c.in-Holds.is c.in_ok-class-in-Holds.ensures.class in
    subst (λ (k : Class). number_named c.args.list.now k.name ≡ None) (sym same) c.requires.2

pub returns : goal.returns
returns c = λ class h.
    let held = known c.one_content.ensures c.args.bytes.now c.in_ok-file.field-0 class c.in_ok-file.ensures h in
    let same = same_class c.in_ok-file.field-0 c.in-Holds.file c.in_ok-class-in-Holds.class.class class held c.in-Holds.is c.in_ok-class-in-Holds.ensures.class in
    let made : c.in_ok-class-in-Holds.class ≡ loaded c.args.by_system class = ap
    (λ b. loaded b c.in_ok-class-in-Holds.class.class) c.in_ok-class-in-Holds.ensures.loader ∙ ap (loaded c.args.by_system) same in
    c.in_ok-add-in-Holds.ensures.ok ∙ ap (λ l. c.args.list.now ++ l ∷ []) made
