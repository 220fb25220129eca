use Rattle.std.proofs.Common.{◌≡◌, None, Some, sym, subst}
use Rattle.jv_meaning_world.specs.World.{World}
use Rattle.jv_meaning_typing.specs.ClassResolution.{ResolvedClass, resolve_class}
use Rattle.jv_meaning_machine.specs.Effects.{resolved_type}
use Rattle.jv_link.specs.Seen.{class_ref_at}
use Rattle.jv_link_cache.specs.ClassUses.{IsClassUse}
use Rattle.jv_interp_members.proofs.Linked.{error_answered}
use Rattle.jv_interp_objects.specs.Types.{IsOfType}
use Rattle.jv_interp_objects.specs.Inside.Refs.{HasElement}
use Rattle.jv_interp_objects.proofs.NamedTypes.{type_answered}
use Rattle.jv_interp_objects.proofs.naming.named.Goals as goal

pub numbers_of-requires-clause-used : goal.numbers_of-requires-clause-used
numbers_of-requires-clause-used c = subst (λ (w : World). IsClassUse w c.in-Ok.used) (sym c.table.ensures) c.in-Ok.ensures.used

pub returns-in-Ok-clause-found : goal.returns-in-Ok-clause-found
returns-in-Ok-clause-found c = λ s text seen operand.
    type_answered c.args.classes.now.world s.by text c.in-Ok.used.found c.numbers_of.result (c.in-Ok.ensures.found s text seen operand)
    (subst
    (λ (w : World). (r : ResolvedClass) → class_ref_at w c.in-Ok.used.found ≡ Some r → HasElement w r → IsOfType w (resolved_type r) c.numbers_of.result)
    c.table.ensures c.numbers_of.ensures.of_type)

pub returns-in-Err-clause-found : goal.returns-in-Err-clause-found
returns-in-Err-clause-found c = λ s text seen operand.
    error_answered c.args.classes.now.world (resolve_class c.args.classes.now.world s None text) c.in-Err.error c.number_of_error.result
    (c.in-Err.ensures.found s text seen operand) (c.number_of_error.ensures c.args.classes.now.world c.requires.guests)
