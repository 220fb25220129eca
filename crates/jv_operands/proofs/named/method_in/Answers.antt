use Rattle.std.proofs.Common.{Err, refl, sym, ap, ◌∙◌}
use Rattle.std.specs.Prelude.{map}
use Rattle.jv_text.specs.Seen.{seen_field_type, seen_method_type}
use Rattle.jv_text.specs.Types.{method_type_of}
use Rattle.jv_pool.specs.Seen.{seen_member}
use Rattle.jv_stackmap.specs.Seen.{seen_type}
use Rattle.jv_operands.specs.Wants.{of_types}
use Rattle.jv_operands.specs.Inside.Named.{types_of}
use Rattle.jv_operands.proofs.Naming.{found, missing, none_of}
use Rattle.jv_operands.proofs.named.method_in.Goals as goal

pub returns-in_ok-wants-in-Ok : goal.returns-in_ok-wants-in-Ok
returns-in_ok-wants-in-Ok c =
    let d = seen_method_type c.in-Ok.of in
    found (seen_member c.args.reference) (seen_type c.in-Some.owner) d _ (sym c.in-Some.ensures)
    ((c.types_agree.ensures.method c.args.reference.descriptor.now d).0 c.in-Ok.ensures.ok)
    (record { name = refl; owner = refl; wants = c.in_ok-wants-in-Ok.ensures ∙ ap (λ ps. of_types (types_of (map seen_field_type ps))) c.deref.ensures.value })

pub returns-in-Err-BadDescriptor : goal.returns-in-Err-BadDescriptor
returns-in-Err-BadDescriptor c =
    missing (seen_member c.args.reference) (seen_type c.in-Some.owner) (sym c.in-Some.ensures)
    (none_of (method_type_of c.args.reference.descriptor.now)
    (λ d e. c.method_type.ensures.bad (c.in-Err-BadDescriptor.is ∙ ap (λ f. Err f) c.in-Err-BadDescriptor.field-0-is) d
    ((c.types_agree.ensures.method c.args.reference.descriptor.now d).1 e)))
