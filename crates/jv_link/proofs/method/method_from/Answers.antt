use Rattle.std.proofs.Common.{◌≡◌, ◌∙◌, Some, subst, sym}
use Rattle.std.specs.Option.{option_map}
use Rattle.jv_pool.specs.Seen.{seen_member}
use Rattle.jv_meaning_world.specs.Numbers.{HoldsAtNumber}
use Rattle.jv_lookups.specs.Places.{method_at}
use Rattle.jv_meaning_typing.specs.LinkErrors.{◌>>=◌}
use Rattle.jv_link.specs.Seen.{answer, answer_at, method_target_at}
use Rattle.jv_link.specs.Inside.Steps.{looked_up, accessible_method}
use Rattle.jv_link.proofs.Stepping.{goes_on}
use Rattle.jv_link.proofs.Placed.{method_placed}
use Rattle.jv_link.proofs.SameSearch.{by_kind}
use Rattle.jv_link.proofs.method.method_from.Goals as goal

pub returns-in-Ok-clause-found : goal.returns-in-Ok-clause-found
returns-in-Ok-clause-found c = λ cur at n at_n.
    let world = c.args.table.now in
    let place = c.in-Ok.place in
    let reference = seen_member c.args.reference.now.member in
    let found = subst (λ w. HoldsAtNumber w c.args.named (λ m. option_map answer (method_at w place) ≡ Some (looked_up w m reference))) c.requires.same c.in-Ok.ensures.found in
    goes_on (method_at world place) (looked_up world n reference) (λ a. a >>= accessible_method world cur n) (answer_at (method_target_at world) c.accessible_method.result) (found n at_n)
    (λ d at_d. c.accessible_method.ensures.found cur at n at_n d at_d (method_placed world place d at_d))
    ∙ by_kind world cur n c.args.reference.now.of_interface reference (sym (c.names_its_kind.ensures n at_n) ∙ c.if-not-names_its_kind.false)
