use Rattle.std.proofs.Common.{◌≡◌, ℤ, ◌-◌, sym, ap, subst, ◌∙◌, Some, IsSome}
use Rattle.std.proofs.lemmas.Int.{to_z-of_z}
use Rattle.std.specs.Int.{w32}
use Rattle.jv_code.specs.Targets.{target_of}
use Rattle.jv_code.specs.declared.insn.Insn.TheVariants as insns
use Rattle.jv_code.specs.declared.kinds.NumberKind.TheVariants as numbers
use Rattle.jv_meaning_machine.specs.Arithmetic.{key_distance}
use Rattle.jv_interp_words.specs.declared.registers.Registers.{Registers}
use Rattle.jv_interp_words.proofs.Computed.{again}
use Rattle.jv_interp_words.proofs.SwitchesWork.{lookup_switch_is, switch_leads, switch_goes}
use Rattle.jv_interp_words.proofs.switches.lookup_switch.Goals as goal

pub target-at-requires : goal.target-at-requires
target-at-requires c =
    let found = c.key_distance-distance in
    let is : found.result ≡ key_distance c.args.default c.args.pairs.now (again numbers.Int c.top_int-number.result) =
    found.ensures
    ∙ ap (λ (z : ℤ). key_distance z c.args.pairs.now (again numbers.Int c.top_int-number.result))
    (to_z-of_z w32 c.args.default c.ranges.default) in
    subst (λ (z : ℤ). IsSome (target_of c.args.at.now.pc z)) (sym (to_z-of_z w32 found.result (record { sfits = found.type_inv })))
    (switch_leads (insns.LookupSwitch c.args.padding.now c.args.default c.args.pairs.now) (key_distance c.args.default c.args.pairs.now)
    c.args.next c.args.at.now c.args.words.now _ c.top_int-number.result found.result
    (lookup_switch_is c.args.padding.now c.args.default c.args.pairs.now) c.requires.can c.top_int-number.ensures is)

pub returns-clause-went : goal.returns-clause-went
returns-clause-went c =
    let at = c.args.at.now in
    let after : Registers = record at { pc = c.target-at.result; top = at.top - 1 } in
    let found = c.key_distance-distance in
    let is : found.result ≡ key_distance c.args.default c.args.pairs.now (again numbers.Int c.top_int-number.result) =
    found.ensures
    ∙ ap (λ (z : ℤ). key_distance z c.args.pairs.now (again numbers.Int c.top_int-number.result))
    (to_z-of_z w32 c.args.default c.ranges.default) in
    switch_goes (insns.LookupSwitch c.args.padding.now c.args.default c.args.pairs.now) (key_distance c.args.default c.args.pairs.now)
    c.args.next at after c.args.words.now c.top_int-number.result found.result
    (lookup_switch_is c.args.padding.now c.args.default c.args.pairs.now) c.top_int-number.ensures is
    (subst (λ (z : ℤ). target_of at.pc z ≡ Some c.target-at.result) (to_z-of_z w32 found.result (record { sfits = found.type_inv }))
    c.target-at.ensures)
