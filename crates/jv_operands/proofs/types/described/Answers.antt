use Rattle.std.proofs.Common.{◌≡◌, List, ℕ, Option, Some, None, refl, sym}
use Rattle.jv_text.specs.declared.descriptor.FieldTypeOf.{FieldTypeOf}
use Rattle.jv_text.specs.Seen.{seen_field_type}
use Rattle.jv_text.specs.Types.{field_type_of}
use Rattle.jv_operands.proofs.types.described.Goals as goal

absent : (o : Option (FieldTypeOf (List ℕ))) → ((type : FieldTypeOf (List ℕ)) → o ≡ Some type → ⊥) → None ≡ o
absent None h = refl
absent (Some type) h = absurd (h type refl)

pub returns-in-Ok : goal.returns-in-Ok
returns-in-Ok c = sym ((c.types_agree.ensures.field c.args.text.now (seen_field_type c.in-Ok.of)).0 c.in-Ok.ensures.ok)

pub returns-in-Err : goal.returns-in-Err
returns-in-Err c =
    absent (field_type_of c.args.text.now)
    (λ type e. c.in-Err.ensures.bad type ((c.types_agree.ensures.field c.args.text.now type).1 e))
