use Rattle.std.proofs.Common.{refl}
use Rattle.jv_code.specs.declared.insn.Insn.TheVariants as insns
use Rattle.jv_code.specs.declared.kinds.Invocation.TheVariants as invocations
use Rattle.jv_link.specs.declared.site.Use.TheVariants as uses
use Rattle.jv_interp_instructions.proofs.CallsMade.{can_call, called}
use Rattle.jv_interp_held.proofs.Unmoved.{stays_unmoved}
use Rattle.jv_interp_instructions.proofs.calls.execute_invokevirtual.Goals as goal

pub call_virtual-requires-clause-can : goal.call_virtual-requires-clause-can
call_virtual-requires-clause-can g c =
    let can = c.requires.can in
    can_call c.execution_keeps.ensures (insns.Invoke invocations.Virtual c.args.index) uses.Invokevirtual c.args.index (λ x. refl) _ _ can.0 _ _ _ _ can.1.can

pub returns-clause-done : goal.returns-clause-done
returns-clause-done g c = λ texts x addresses done below h states_are.
    called c.execution_keeps.ensures (insns.Invoke invocations.Virtual c.args.index) uses.Invokevirtual c.args.index (λ x. refl) _ _ texts _ _ _ _ _
    c.call_virtual.ensures.calls x addresses done below h

pub returns-clause-unmoved : goal.returns-clause-unmoved
returns-clause-unmoved g c = stays_unmoved c.call_virtual.result _
