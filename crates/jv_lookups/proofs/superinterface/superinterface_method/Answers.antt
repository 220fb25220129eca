use Rattle.std.proofs.Common.{◌∙◌, refl, None}
use Rattle.jv_meaning_world.specs.LookUps.{first_found}
use Rattle.jv_meaning_world.specs.Numbers.{classes_at}
use Rattle.jv_lookups.specs.Places.{method_at}
use Rattle.jv_lookups.specs.Inside.Members.{candidate_in}
use Rattle.jv_lookups.proofs.Candidates.{method_found, some_first}
use Rattle.jv_lookups.proofs.Standing.{method_stands}
use Rattle.jv_lookups.proofs.superinterface.superinterface_method.Goals as goal

pub returns-in-Some-clause-found : goal.returns-in-Some-clause-found
returns-in-Some-clause-found c = λ l at e.
    let world = c.args.table.now in
    let there = method_stands world c.in-Some.place c.in-Some.ensures.place in
    some_first (method_at world c.in-Some.place) _ there.0 there.1
    ∙ method_found world c.args.searched.now c.args.name.now c.args.descriptor.now l (method_at world c.in-Some.place)
    (first_found (candidate_in c.args.name.now c.args.descriptor.now l) (classes_at world c.args.searched.now)) e (c.in-Some.ensures.found l at)
    refl

pub returns-clause-found : goal.returns-clause-found
returns-clause-found c = λ l at e.
    method_found c.args.table.now c.args.searched.now c.args.name.now c.args.descriptor.now l None _ e (c.in_default.ensures.found l at) (c.first_candidate.ensures.found l at)
