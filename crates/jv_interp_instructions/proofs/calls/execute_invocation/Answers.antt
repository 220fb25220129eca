use Rattle.std.proofs.Common.{ℕ, List, subst}
use Rattle.jv_code.specs.declared.insn.Insn.TheVariants as insns
use Rattle.jv_code.specs.declared.kinds.Invocation.{Invocation}
use Rattle.jv_interp_members.specs.Known.{known}
use Rattle.jv_interp_instructions.specs.InGuest.{CanExecuteAt}
use Rattle.jv_interp_instructions.proofs.calls.execute_invocation.Goals as goal

pub execute_invokevirtual-requires-clause-can : goal.execute_invokevirtual-requires-clause-can
execute_invokevirtual-requires-clause-can g c =
    subst (λ (how : Invocation). (texts : List (List ℕ)) × CanExecuteAt c.args.current.states.now (insns.Invoke how c.args.index) c.args.current.next
    (known c.args.current.classes.now.world c.args.linked.now c.args.current.site) texts c.args.at.now c.args.words.now c.args.held.now
    (g.S.Store.content c.args.store.now)) c.in-Virtual.is c.requires.can

pub returns-in-Virtual-clause-done : goal.returns-in-Virtual-clause-done
returns-in-Virtual-clause-done g c = rw c.in-Virtual.is c.execute_invokevirtual.ensures.done

pub execute_invokespecial-requires-clause-can : goal.execute_invokespecial-requires-clause-can
execute_invokespecial-requires-clause-can g c =
    subst (λ (how : Invocation). (texts : List (List ℕ)) × CanExecuteAt c.args.current.states.now (insns.Invoke how c.args.index) c.args.current.next
    (known c.args.current.classes.now.world c.args.linked.now c.args.current.site) texts c.args.at.now c.args.words.now c.args.held.now
    (g.S.Store.content c.args.store.now)) c.in-Special.is c.requires.can

pub returns-in-Special-clause-done : goal.returns-in-Special-clause-done
returns-in-Special-clause-done g c = rw c.in-Special.is c.execute_invokespecial.ensures.done

pub execute_invokestatic-requires-clause-can : goal.execute_invokestatic-requires-clause-can
execute_invokestatic-requires-clause-can g c =
    subst (λ (how : Invocation). (texts : List (List ℕ)) × CanExecuteAt c.args.current.states.now (insns.Invoke how c.args.index) c.args.current.next
    (known c.args.current.classes.now.world c.args.linked.now c.args.current.site) texts c.args.at.now c.args.words.now c.args.held.now
    (g.S.Store.content c.args.store.now)) c.in-Static.is c.requires.can

pub returns-in-Static-clause-done : goal.returns-in-Static-clause-done
returns-in-Static-clause-done g c = rw c.in-Static.is c.execute_invokestatic.ensures.done
