use Rattle.std.proofs.Common.{◌∙◌, ℤ, ap, refl, rules, FitsSigned, w16, w32}
use Rattle.jv_code.specs.declared.insn.Insn.TheVariants as insns
use Rattle.std.proofs.lemmas.Int.{to_z-of_z}
use Rattle.jv_interp_instructions.proofs.Done.{went_done, nothing_done, increment_again, insn_again, table_again}
use Rattle.jv_interp_held.proofs.Unmoved.{stays_unmoved}
use Rattle.jv_interp_instructions.proofs.on_words.execute_on_words.Goals as goal

pub returns-in-Nop-clause-done : goal.returns-in-Nop-clause-done
returns-in-Nop-clause-done c = rw c.in-Nop.is (refl, went_done _ _ _ _ _ _ c.nop.ensures.went)

pub returns-in-NullConstant-clause-done : goal.returns-in-NullConstant-clause-done
returns-in-NullConstant-clause-done c = rw c.in-NullConstant.is (refl, went_done _ _ _ _ _ _ c.push_null.ensures.went)

pub returns-in-Compute-clause-done : goal.returns-in-Compute-clause-done
returns-in-Compute-clause-done c = rw c.in-Compute.is (refl, went_done _ _ _ _ _ _ c.compute.ensures.went)

pub returns-in-Load-clause-done : goal.returns-in-Load-clause-done
returns-in-Load-clause-done c = rw c.in-Load.is (refl, went_done _ _ _ _ _ _ c.load.ensures.went)

pub returns-in-Store-clause-done : goal.returns-in-Store-clause-done
returns-in-Store-clause-done c = rw c.in-Store.is (refl, went_done _ _ _ _ _ _ c.store.ensures.went)

pub returns-in-StoreLong-clause-done : goal.returns-in-StoreLong-clause-done
returns-in-StoreLong-clause-done c = rw c.in-StoreLong.is (refl, went_done _ _ _ _ _ _ c.store_long.ensures.went)

pub returns-in-Stack-clause-done : goal.returns-in-Stack-clause-done
returns-in-Stack-clause-done c = rw c.in-Stack.is (refl, went_done _ _ _ _ _ _ c.move_words.ensures.went)

pub returns-in-Goto-clause-done : goal.returns-in-Goto-clause-done
returns-in-Goto-clause-done c =
    let fits : FitsSigned w32 c.in-Goto.distance = search rules in
    rw c.in-Goto.is (refl, insn_again _ _ _ _ _ _ _ (ap (λ (d : ℤ). insns.Goto d c.in-Goto.form) (to_z-of_z w32 c.in-Goto.distance fits)) c.jump.ensures.went)

pub returns-in-TableSwitch-clause-done : goal.returns-in-TableSwitch-clause-done
returns-in-TableSwitch-clause-done c =
    let default : FitsSigned w32 c.in-TableSwitch.default = search rules in
    let low : FitsSigned w32 c.in-TableSwitch.low = search rules in
    let high : FitsSigned w32 c.in-TableSwitch.high = search rules in
    rw c.in-TableSwitch.is (
      refl,
      insn_again _ _ _ _ _ _ _
          (table_again _ _ _ _ _ _ _ _ (to_z-of_z w32 c.in-TableSwitch.default default) (to_z-of_z w32 c.in-TableSwitch.low low) (to_z-of_z w32 c.in-TableSwitch.high high))
          c.table_switch.ensures.went,
    )

pub returns-in-LookupSwitch-clause-done : goal.returns-in-LookupSwitch-clause-done
returns-in-LookupSwitch-clause-done c =
    let fits : FitsSigned w32 c.in-LookupSwitch.default = search rules in
    rw c.in-LookupSwitch.is (
      refl,
      insn_again _ _ _ _ _ _ _
          (ap (λ (d : ℤ). insns.LookupSwitch c.in-LookupSwitch.padding.now d c.in-LookupSwitch.pairs.now) (to_z-of_z w32 c.in-LookupSwitch.default fits))
          c.lookup_switch.ensures.went,
    )

pub returns-in-Increment-clause-done : goal.returns-in-Increment-clause-done
returns-in-Increment-clause-done c =
    let fits : FitsSigned w16 c.in-Increment.by = search rules in
    rw c.in-Increment.is (
      refl,
      increment_again _ _ _ _ _ _ _ _ _ (to_z-of_z w32 c.from.result (record { sfits = c.from.type_inv }) ∙ c.from.ensures ∙ to_z-of_z w16 c.in-Increment.by fits)
          c.increment.ensures.went,
    )

pub returns-in-Return-clause-done : goal.returns-in-Return-clause-done
returns-in-Return-clause-done c = rw c.in-Return.is (refl, nothing_done _ _ _)

pub returns-in-ReturnValue-clause-done : goal.returns-in-ReturnValue-clause-done
returns-in-ReturnValue-clause-done c = rw c.in-ReturnValue.is (refl, c.execute_return.ensures c.args.next)

pub returns-in-ReturnValue-clause-unmoved : goal.returns-in-ReturnValue-clause-unmoved
returns-in-ReturnValue-clause-unmoved c held blocks = stays_unmoved c.execute_return.result _
