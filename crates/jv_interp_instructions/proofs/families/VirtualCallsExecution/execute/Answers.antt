use Rattle.std.proofs.Common.{ℕ, List, subst}
use Rattle.jv_code.specs.declared.insn.Insn.TheVariants as insns
use Rattle.jv_code.specs.declared.kinds.Invocation.{Invocation}
use Rattle.jv_interp_members.specs.Known.{known}
use Rattle.jv_interp_instructions.specs.InGuest.{CanExecuteAt}
use Rattle.jv_interp_instructions.proofs.AllInstructions.{can_at}
use Rattle.jv_interp_instructions.proofs.families.VirtualCallsExecution.execute.Goals as goal

pub execute_invokevirtual-requires-clause-can : goal.execute_invokevirtual-requires-clause-can
execute_invokevirtual-requires-clause-can g c =
    subst (λ (it : Invocation). (texts : List (List ℕ)) × CanExecuteAt c.args.states.now (insns.Invoke it c.in-Invoke.index) c.args.next
    (known c.args.classes.now.world c.args.linked.now c.args.site) texts c.args.at.now c.args.words.now c.args.held.now
    (g.S.Store.content c.args.store.now)) c.in-Virtual.is (c.args.texts.now.names, can_at _ _ _ _ _ _ _ _ _ _ c.in-Invoke.is c.requires.can)

pub returns-in-Virtual-clause-done : goal.returns-in-Virtual-clause-done
returns-in-Virtual-clause-done g c = rw c.in-Invoke.is (rw c.in-Virtual.is (c.execute_invokevirtual.ensures.done c.args.texts.now.names))
