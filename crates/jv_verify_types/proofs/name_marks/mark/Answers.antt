use Rattle.std.proofs.Common.{◌≡◌, ◌<◌, length, get_or, codes, subst}
use Rattle.jv_verify_types.specs.Typed.{TypeWorld, name_at}
use Rattle.jv_verify_types.specs.Inside.Kept.{AreDistinct}
use Rattle.jv_verify_types.proofs.Marking.{name_marked}
use Rattle.jv_verify_types.proofs.name_marks.mark.Goals as goal

pub returns-in-Some-clause-marked : goal.returns-in-Some-clause-marked
returns-in-Some-clause-marked c =
    let at = c.place.result in
    let number = c.in-Some.number in
    name_marked c.args.constants.now.types.names c.args.constants.now.pool c.args.marks.now c.args.index number at
    (subst (λ (t : TypeWorld). AreDistinct t.names) c.names-names.ensures c.are_distinct.ensures) c.requires
    (subst (λ (t : TypeWorld). at < length t.names) c.names-names.ensures c.place.ensures.within)
    (subst (λ (t : TypeWorld). get_or t.names at (codes "java/lang/Object") ≡ name_at t.names number) c.names-names.ensures c.place.ensures.same) c.in-Some.ensures.constant
