use Rattle.std.proofs.Common.{arith, ap, ℕ, ◌<◌, ◌+◌}
use Rattle.jv_text.specs.Descriptor.{field_slots}
use Rattle.jv_text.specs.Seen.{seen_field_type}
use Rattle.jv_text.proofs.Methods.{no_room}
use Rattle.jv_text.proofs.method.parameter_at.Goals as goal

pub returns-in_default-checked_add-clause-none : goal.returns-in_default-checked_add-clause-none
returns-in_default-checked_add-clause-none c =
    let many : 255 < c.args.slots + field_slots (seen_field_type c.in-Some.t) = omega (arith, ap (λ (n : ℕ). c.args.slots + n) c.slots_of.ensures, c.in_default-checked_add.ensures) in
    no_room c.args.text.now c.in-Some.rest.now (seen_field_type c.in-Some.t) c.args.slots c.in-Some.ensures.fits c.in-Some.ensures.found many
