use Rattle.std.proofs.Common.{◌≡◌, Some, subst}
use Rattle.std.specs.Option.{option_map}
use Rattle.jv_text.specs.Seen.{seen_field_type}
use Rattle.jv_meaning_world.specs.World.{World}
use Rattle.jv_meaning_world.specs.Numbers.{IsNumbered}
use Rattle.jv_meaning_typing.specs.Uses.Use.{New}
use Rattle.jv_meaning_typing.specs.ClassResolution.{resolve_class}
use Rattle.jv_link.specs.declared.target.ClassRef.{ClassRef}
use Rattle.jv_link.specs.Seen.{answer, class_ref_at}
use Rattle.jv_interp_members.proofs.Linked.{error_answered}
use Rattle.jv_interp_objects.proofs.NewClasses.{new_answered, never_array}
use Rattle.jv_interp_objects.proofs.naming.class_named_new.Goals as goal

pub unreachable-requires : goal.unreachable-requires
unreachable-requires c =
    let n = c.requires.names in
    never_array c.args.classes.now.world n.s n.text (seen_field_type c.in-Ok-Array.field-0-0)
    (subst
    (λ (x : ClassRef). option_map answer (class_ref_at c.args.classes.now.world x) ≡ Some (resolve_class c.args.classes.now.world n.s (Some New) n.text))
    c.in-Ok-Array.field-0-is ((c.in-Ok-Array.ensures {u = tt}).found n.s n.text n.seen n.operand))

pub returns-in-Ok-Class-clause-found : goal.returns-in-Ok-Class-clause-found
returns-in-Ok-Class-clause-found c = λ s text seen operand.
    new_answered c.args.classes.now.world (subst (λ (w : World). IsNumbered w) c.table.ensures c.is_numbered.ensures)
    (resolve_class c.args.classes.now.world s (Some New) text) c.in-Ok-Class.class
    (subst
    (λ (x : ClassRef). option_map answer (class_ref_at c.args.classes.now.world x) ≡ Some (resolve_class c.args.classes.now.world s (Some New) text))
    c.in-Ok-Class.field-0-is ((c.in-Ok-Class.ensures {u = tt}).found s text seen operand))

pub returns-in-Err-clause-found : goal.returns-in-Err-clause-found
returns-in-Err-clause-found c = λ s text seen operand.
    error_answered c.args.classes.now.world (resolve_class c.args.classes.now.world s (Some New) text) c.in-Err.error c.number_of_error.result
    (c.in-Err.ensures.found s text seen operand) (c.number_of_error.ensures c.args.classes.now.world c.requires.guests)
