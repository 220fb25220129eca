use Rattle.std.proofs.Common.{refl}
use Rattle.jv_code.specs.declared.insn.Insn.TheVariants as insns
use Rattle.jv_link.specs.declared.site.Use.TheVariants as uses
use Rattle.jv_interp_instructions.proofs.CallsMade.{called}
use Rattle.jv_interp_instructions.proofs.calls.execute_invokeinterface.Goals as goal

pub returns-clause-done : goal.returns-clause-done
returns-clause-done g c next count texts =
    called c.execution_keeps.ensures (insns.InvokeInterface c.args.index count) uses.Invokeinterface c.args.index (λ x. refl) next _ texts _ _ _ _ _
    c.call_virtual.ensures.calls
