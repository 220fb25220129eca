use Rattle.std.proofs.Common.{ℕ, List, subst}
use Rattle.jv_code.specs.declared.insn.Insn.TheVariants as insns
use Rattle.jv_code.specs.declared.kinds.FieldAccess.{FieldAccess}
use Rattle.jv_interp_members.specs.Known.{known}
use Rattle.jv_interp_instructions.specs.InGuest.{CanExecuteAt}
use Rattle.jv_interp_instructions.proofs.AllInstructions.{can_at}
use Rattle.jv_interp_instructions.proofs.families.FieldGetsExecution.execute.Goals as goal

pub execute_getstatic-requires : goal.execute_getstatic-requires
execute_getstatic-requires g c =
    subst (λ (it : FieldAccess). (texts : List (List ℕ)) × CanExecuteAt c.args.states.now (insns.Field it c.in-Field.index) c.args.next
    (known c.args.classes.now.world c.args.linked.now c.args.site) texts c.args.at.now c.args.words.now c.args.held.now
    (g.S.Store.content c.args.store.now)) c.in-GetStatic.is (c.args.texts.now.names, can_at _ _ _ _ _ _ _ _ _ _ c.in-Field.is c.requires.can)

pub returns-in-GetStatic-clause-done : goal.returns-in-GetStatic-clause-done
returns-in-GetStatic-clause-done g c = rw c.in-Field.is (rw c.in-GetStatic.is (c.execute_getstatic.ensures.done c.args.texts.now.names))

pub execute_getfield-requires : goal.execute_getfield-requires
execute_getfield-requires g c =
    subst (λ (it : FieldAccess). (texts : List (List ℕ)) × CanExecuteAt c.args.states.now (insns.Field it c.in-Field.index) c.args.next
    (known c.args.classes.now.world c.args.linked.now c.args.site) texts c.args.at.now c.args.words.now c.args.held.now
    (g.S.Store.content c.args.store.now)) c.in-GetField.is (c.args.texts.now.names, can_at _ _ _ _ _ _ _ _ _ _ c.in-Field.is c.requires.can)

pub returns-in-GetField-clause-done : goal.returns-in-GetField-clause-done
returns-in-GetField-clause-done g c = rw c.in-Field.is (rw c.in-GetField.is (c.execute_getfield.ensures.done c.args.texts.now.names))
