use Rattle.std.proofs.Common.{refl}
use Rattle.jv_code.specs.declared.kinds.FieldAccess.TheVariants as access
use Rattle.jv_interp_instructions.proofs.FieldsUsed.{used_static}
use Rattle.jv_interp_instructions.proofs.fields.execute_getstatic.Goals as goal

pub returns-clause-done : goal.returns-clause-done
returns-clause-done g c = λ texts.
    used_static c.execution_keeps.ensures _ _ _ texts _ _ _ _ _ access.GetStatic _ _ _ _ refl c.getstatic.ensures.uses
