use Rattle.std.proofs.Common.{◌≡◌, ℤ, refl, sym, subst, Some, IsSome}
use Rattle.std.proofs.lemmas.Int.{to_z-of_z}
use Rattle.std.specs.Int.{w32}
use Rattle.jv_code.specs.Targets.{target_of}
use Rattle.jv_interp_words.specs.declared.registers.Registers.{Registers}
use Rattle.jv_interp_words.proofs.PushedOn.{goto_leads, goto_goes}
use Rattle.jv_interp_words.proofs.branches.jump.Goals as goal

pub target-at-requires : goal.target-at-requires
target-at-requires c =
    subst (λ (z : ℤ). IsSome (target_of c.args.at.now.pc z)) (sym (to_z-of_z w32 c.args.distance c.ranges.distance))
    (goto_leads c.args.distance c.args.form c.args.next c.args.at.now c.args.words.now c.requires)

pub returns-clause-went : goal.returns-clause-went
returns-clause-went c =
    let at = c.args.at.now in
    let after : Registers = record at { pc = c.target-at.result } in
    goto_goes c.args.distance c.args.form c.args.next at after c.args.words.now
    (subst (λ (z : ℤ). target_of at.pc z ≡ Some c.target-at.result) (to_z-of_z w32 c.args.distance c.ranges.distance) c.target-at.ensures) refl
