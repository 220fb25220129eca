use Rattle.std.proofs.Common.{ap}
use Rattle.jv_code.specs.declared.kinds.FieldAccess.TheVariants as access
use Rattle.jv_interp_held.specs.declared.held.Held.{Held}
use Rattle.jv_interp_instructions.proofs.FieldsUsed.{used_static}
use Rattle.jv_interp_instructions.proofs.fields.execute_putstatic.Goals as goal

pub returns-clause-done : goal.returns-clause-done
returns-clause-done g c = λ texts.
    used_static c.execution_keeps.ensures _ _ _ texts _ _ _ _ _ access.PutStatic _ _ _ _
    (ap (λ (h : Held). h.cells) c.putstatic.ensures.same) c.putstatic.ensures.uses
