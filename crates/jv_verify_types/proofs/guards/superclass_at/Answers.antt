use Rattle.std.proofs.Common.{◌≡◌, ◌∙◌, Some, sym, ap, subst}
use Rattle.std.specs.Prelude.{slice_get}
use Rattle.jv_meaning_world.specs.World.{World}
use Rattle.jv_meaning_world.specs.Numbers.{HoldsAtNumber}
use Rattle.jv_verify_types.specs.Typed.{TypeWorld}
use Rattle.jv_verify_types.specs.Inside.Guarded.{is_proper_subclass}
use Rattle.jv_verify_types.proofs.Guarding.{no_class, stands_there}
use Rattle.jv_verify_types.proofs.guards.superclass_at.Goals as goal

pub returns-in_default-clause-none : goal.returns-in_default-clause-none
returns-in_default-clause-none c = λ cur at text l e named. absurd (no_class c.args.constants.now.types.world text (sym c.in_default.is ∙ c.class_at.ensures.number text e) l named)

pub returns-else-is_below-clause-none : goal.returns-else-is_below-clause-none
returns-else-is_below-clause-none c = λ cur at text l e named.
    let same : c.table.result.now ≡ c.args.constants.now.types.world = c.table.ensures ∙ ap (λ (t : TypeWorld). t.world) c.names.ensures in
    let there : slice_get c.args.constants.now.types.world c.in-Some.named ≡ Some l = stands_there c.args.constants.now.types.world text
    c.in-Some.named (sym c.in-Some.is ∙ c.class_at.ensures.number text e) l named in
    let below : HoldsAtNumber c.args.constants.now.types.world c.args.current (λ m. HoldsAtNumber c.args.constants.now.types.world c.in-Some.named
    (λ n. c.is_below.result ≡ is_proper_subclass c.args.constants.now.types.world m n)) =
    subst (λ (w : World). HoldsAtNumber w c.args.current (λ m. HoldsAtNumber w c.in-Some.named (λ n. c.is_below.result ≡ is_proper_subclass w m n))) same c.is_below.ensures in
    sym (below cur at l there) ∙ c.if-is_below.false
