use Rattle.std.proofs.Common.{◌≡◌, ℤ, ◌-◌, refl, sym, subst, Some, IsSome, arith}
use Rattle.std.proofs.lemmas.Int.{to_z-of_z}
use Rattle.std.specs.Int.{w32}
use Rattle.jv_code.specs.Insns.{Instruction}
use Rattle.jv_code.specs.Targets.{target_of}
use Rattle.jv_code.specs.declared.insn.Insn.TheVariants as insns
use Rattle.jv_meaning_typing.specs.Environment.{offset_behind}
use Rattle.jv_meaning_machine.specs.Arithmetic.{table_distance}
use Rattle.jv_interp_words.specs.declared.registers.Registers.{Registers}
use Rattle.jv_interp_words.proofs.OpcodesStand.{is_start}
use Rattle.jv_interp_words.proofs.StepsStand.{can_work, went_to}
use Rattle.jv_interp_words.proofs.SwitchesStand.{table_switch_there}
use Rattle.jv_interp_words.proofs.SwitchesWork.{table_switch_is, switch_top, switch_leads, switch_goes}
use Rattle.jv_interp_words.proofs.switch_steps.step_table_switch.Goals as goal

pub distance_in_table-distance-requires : goal.distance_in_table-distance-requires
distance_in_table-distance-requires c =
    let at = c.args.at.now in
    table_switch_there at.code.now at.pc (is_start at c.args.words.now c.requires.can) c.requires.opcode

pub top_int-number-requires-clause-some : goal.top_int-number-requires-clause-some
top_int-number-requires-clause-some c =
    let at = c.args.at.now in
    let t = table_switch_there at.code.now at.pc (is_start at c.args.words.now c.requires.can) c.requires.opcode in
    let insn : Instruction = insns.TableSwitch t.0 t.1 t.2 t.3 t.4 in
    switch_top insn (table_distance t.1 t.2 t.3 t.4) (offset_behind at.pc insn) at c.args.words.now (table_switch_is t.0 t.1 t.2 t.3 t.4)
    (can_work insn (offset_behind at.pc insn) at c.args.words.now c.requires.can t.5 refl)

pub overflow_sub-at : goal.overflow_sub-at
overflow_sub-at c =
    let at = c.args.at.now in
    let t = table_switch_there at.code.now at.pc (is_start at c.args.words.now c.requires.can) c.requires.opcode in
    let insn : Instruction = insns.TableSwitch t.0 t.1 t.2 t.3 t.4 in
    switch_top insn (table_distance t.1 t.2 t.3 t.4) (offset_behind at.pc insn) at c.args.words.now (table_switch_is t.0 t.1 t.2 t.3 t.4)
    (can_work insn (offset_behind at.pc insn) at c.args.words.now c.requires.can t.5 refl)

pub target-at-requires : goal.target-at-requires
target-at-requires c =
    let at = c.args.at.now in
    let t = table_switch_there at.code.now at.pc (is_start at c.args.words.now c.requires.can) c.requires.opcode in
    let insn : Instruction = insns.TableSwitch t.0 t.1 t.2 t.3 t.4 in
    let found = c.distance_in_table-distance in
    subst (λ (z : ℤ). IsSome (target_of at.pc z)) (sym (to_z-of_z w32 found.result (record { sfits = found.type_inv })))
    (switch_leads insn (table_distance t.1 t.2 t.3 t.4) (offset_behind at.pc insn) at c.args.words.now _ c.top_int-number.result found.result
    (table_switch_is t.0 t.1 t.2 t.3 t.4) (can_work insn (offset_behind at.pc insn) at c.args.words.now c.requires.can t.5 refl)
    c.top_int-number.ensures (found.ensures t.0 t.1 t.2 t.3 t.4 t.5))

pub returns : goal.returns
returns c =
    let at = c.args.at.now in
    let t = table_switch_there at.code.now at.pc (is_start at c.args.words.now c.requires.can) c.requires.opcode in
    let insn : Instruction = insns.TableSwitch t.0 t.1 t.2 t.3 t.4 in
    let found = c.distance_in_table-distance in
    let after : Registers = record at { pc = c.target-at.result; top = at.top - 1 } in
    went_to insn (offset_behind at.pc insn) at after c.args.words.now c.args.words.now t.5 refl
    (switch_goes insn (table_distance t.1 t.2 t.3 t.4) (offset_behind at.pc insn) at after c.args.words.now c.top_int-number.result found.result
    (table_switch_is t.0 t.1 t.2 t.3 t.4) c.top_int-number.ensures (found.ensures t.0 t.1 t.2 t.3 t.4 t.5)
    (subst (λ (z : ℤ). target_of at.pc z ≡ Some c.target-at.result) (to_z-of_z w32 found.result (record { sfits = found.type_inv }))
    c.target-at.ensures))
    (record { same = refl; top_within = omega (arith, c.requires.can.from.running.top_within) }) refl
