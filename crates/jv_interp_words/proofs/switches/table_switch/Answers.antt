use Rattle.std.proofs.Common.{◌≡◌, ℕ, ℤ, ◌-◌, List, sym, ap, subst, ◌∙◌, Some, IsSome}
use Rattle.std.proofs.lemmas.Int.{to_z-of_z}
use Rattle.std.specs.Int.{w32}
use Rattle.jv_code.specs.Targets.{target_of}
use Rattle.jv_code.specs.declared.insn.Insn.TheVariants as insns
use Rattle.jv_code.specs.declared.kinds.NumberKind.TheVariants as numbers
use Rattle.jv_meaning_machine.specs.Arithmetic.{table_distance}
use Rattle.jv_interp_words.specs.declared.registers.Registers.{Registers}
use Rattle.jv_interp_words.proofs.Computed.{again}
use Rattle.jv_interp_words.proofs.SwitchesWork.{table_switch_is, switch_leads, switch_goes}
use Rattle.jv_interp_words.proofs.switches.table_switch.Goals as goal

same_distance :
    (default low high d l h number : ℤ) (distances : List ℕ) → d ≡ default → l ≡ low → h ≡ high
    → table_distance d l h distances number ≡ table_distance default low high distances number
same_distance default low high d l h number distances e f g =
    ap (λ (z : ℤ). table_distance z l h distances number) e ∙ ap (λ (z : ℤ). table_distance default z h distances number) f
    ∙ ap (λ (z : ℤ). table_distance default low z distances number) g

pub target-at-requires : goal.target-at-requires
target-at-requires c =
    let found = c.table_distance-distance in
    let is : found.result
    ≡ table_distance c.args.default c.args.low c.args.high c.args.distances.now (again numbers.Int c.top_int-number.result) =
    found.ensures
    ∙ same_distance c.args.default c.args.low c.args.high _ _ _ _ c.args.distances.now (to_z-of_z w32 c.args.default c.ranges.default)
    (to_z-of_z w32 c.args.low c.ranges.low) (to_z-of_z w32 c.args.high c.ranges.high) in
    subst (λ (z : ℤ). IsSome (target_of c.args.at.now.pc z)) (sym (to_z-of_z w32 found.result (record { sfits = found.type_inv })))
    (switch_leads (insns.TableSwitch c.args.padding.now c.args.default c.args.low c.args.high c.args.distances.now)
    (table_distance c.args.default c.args.low c.args.high c.args.distances.now) c.args.next c.args.at.now c.args.words.now _
    c.top_int-number.result found.result
    (table_switch_is c.args.padding.now c.args.default c.args.low c.args.high c.args.distances.now) c.requires c.top_int-number.ensures is)

pub returns-clause-went : goal.returns-clause-went
returns-clause-went c =
    let at = c.args.at.now in
    let after : Registers = record at { pc = c.target-at.result; top = at.top - 1 } in
    let found = c.table_distance-distance in
    let is : found.result
    ≡ table_distance c.args.default c.args.low c.args.high c.args.distances.now (again numbers.Int c.top_int-number.result) =
    found.ensures
    ∙ same_distance c.args.default c.args.low c.args.high _ _ _ _ c.args.distances.now (to_z-of_z w32 c.args.default c.ranges.default)
    (to_z-of_z w32 c.args.low c.ranges.low) (to_z-of_z w32 c.args.high c.ranges.high) in
    switch_goes (insns.TableSwitch c.args.padding.now c.args.default c.args.low c.args.high c.args.distances.now)
    (table_distance c.args.default c.args.low c.args.high c.args.distances.now) c.args.next at after c.args.words.now c.top_int-number.result
    found.result (table_switch_is c.args.padding.now c.args.default c.args.low c.args.high c.args.distances.now) c.top_int-number.ensures is
    (subst (λ (z : ℤ). target_of at.pc z ≡ Some c.target-at.result) (to_z-of_z w32 found.result (record { sfits = found.type_inv }))
    c.target-at.ensures)
