use Rattle.std.proofs.Common.{◌≡◌, Some, subst}
use Rattle.std.specs.Option.{option_map}
use Rattle.jv_pool.specs.Seen.{seen_member}
use Rattle.jv_meaning_world.specs.Numbers.{HoldsAtNumber}
use Rattle.jv_lookups.specs.Places.{field_at}
use Rattle.jv_meaning_typing.specs.LinkErrors.{◌>>=◌}
use Rattle.jv_meaning_typing.specs.FieldResolution.{found_field}
use Rattle.jv_link.specs.Seen.{answer, answer_at}
use Rattle.jv_link.specs.Inside.Steps.{accessible_field}
use Rattle.jv_link.proofs.Stepping.{goes_on}
use Rattle.jv_link.proofs.Placed.{field_placed}
use Rattle.jv_link.proofs.field.field_from.Goals as goal

pub returns-in-Ok-clause-found : goal.returns-in-Ok-clause-found
returns-in-Ok-clause-found c = λ cur at n at_n.
    let world = c.args.table.now in
    let place = c.in-Ok.place in
    let reference = seen_member c.args.reference.now in
    let found = subst (λ w. HoldsAtNumber w c.args.named (λ m. option_map answer (field_at w place) ≡ Some (found_field w m reference))) c.requires.same c.in-Ok.ensures.found in
    goes_on (field_at world place) (found_field world n reference) (λ a. a >>= accessible_field world cur n) (answer_at (field_at world) c.accessible_field.result) (found n at_n)
    (λ d at_d. c.accessible_field.ensures.found cur at n at_n d at_d (field_placed world place d at_d))
