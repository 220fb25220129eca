use Rattle.std.proofs.Common.{ℕ, List, subst}
use Rattle.jv_code.specs.declared.insn.Insn.TheVariants as insns
use Rattle.jv_code.specs.declared.kinds.FieldAccess.{FieldAccess}
use Rattle.jv_interp_members.specs.Known.{known}
use Rattle.jv_interp_instructions.specs.InGuest.{CanExecuteAt}
use Rattle.jv_interp_instructions.proofs.AllInstructions.{can_at}
use Rattle.jv_interp_instructions.proofs.families.FieldPutsExecution.execute.Goals as goal

pub execute_putstatic-requires : goal.execute_putstatic-requires
execute_putstatic-requires g c =
    subst (λ (it : FieldAccess). (texts : List (List ℕ)) × CanExecuteAt c.args.states.now (insns.Field it c.in-Field.index) c.args.next
    (known c.args.classes.now.world c.args.linked.now c.args.site) texts c.args.at.now c.args.words.now c.args.held.now
    (g.S.Store.content c.args.store.now)) c.in-PutStatic.is (c.args.texts.now.names, can_at _ _ _ _ _ _ _ _ _ _ c.in-Field.is c.requires.can)

pub returns-in-PutStatic-clause-done : goal.returns-in-PutStatic-clause-done
returns-in-PutStatic-clause-done g c = rw c.in-Field.is (rw c.in-PutStatic.is (c.execute_putstatic.ensures.done c.args.texts.now.names))

pub execute_putfield-requires : goal.execute_putfield-requires
execute_putfield-requires g c =
    subst (λ (it : FieldAccess). (texts : List (List ℕ)) × CanExecuteAt c.args.states.now (insns.Field it c.in-Field.index) c.args.next
    (known c.args.classes.now.world c.args.linked.now c.args.site) texts c.args.at.now c.args.words.now c.args.held.now
    (g.S.Store.content c.args.store.now)) c.in-PutField.is (c.args.texts.now.names, can_at _ _ _ _ _ _ _ _ _ _ c.in-Field.is c.requires.can)

pub returns-in-PutField-clause-done : goal.returns-in-PutField-clause-done
returns-in-PutField-clause-done g c = rw c.in-Field.is (rw c.in-PutField.is (c.execute_putfield.ensures.done c.args.texts.now.names))
