use Rattle.std.proofs.Common.{ℤ, ◌-◌, sym, subst}
use Rattle.std.proofs.lemmas.Int.{to_z-of_z}
use Rattle.std.specs.Int.{w32}
use Rattle.jv_interp_words.specs.declared.registers.Registers.{Registers}
use Rattle.jv_interp_words.specs.Inside.Branches.{LeadsOn, BranchesTo}
use Rattle.jv_interp_words.proofs.IntBranches.{if_int_leads, if_int_goes}
use Rattle.jv_interp_words.proofs.branches.if_int.Goals as goal

pub branch-at-requires : goal.branch-at-requires
branch-at-requires c =
    let at = c.args.at.now in
    subst (λ (z : ℤ). LeadsOn at.pc z c.holds-taken.result) (sym (to_z-of_z w32 c.args.distance c.ranges.distance))
    (if_int_leads c.args.condition c.args.distance c.args.next at c.args.words.now _ c.top_int-a.result c.holds-taken.result c.requires
    c.top_int-a.ensures c.holds-taken.ensures)

pub returns-clause-went : goal.returns-clause-went
returns-clause-went c =
    let at = c.args.at.now in
    let after : Registers = record at { pc = c.branch-at.result; top = at.top - 1 } in
    if_int_goes c.args.condition c.args.distance c.args.next at c.args.words.now after c.top_int-a.result c.holds-taken.result
    c.top_int-a.ensures c.holds-taken.ensures
    (subst (λ (z : ℤ). BranchesTo at.pc z c.args.next c.holds-taken.result c.branch-at.result) (to_z-of_z w32 c.args.distance c.ranges.distance)
    c.branch-at.ensures)
