use Rattle.std.proofs.Common.{ℕ, ℤ, ◌-◌, List, ◌∷◌, sym, ap, subst, ◌∙◌}
use Rattle.std.proofs.lemmas.Int.{to_z-of_z}
use Rattle.std.specs.Int.{w32}
use Rattle.jv_interp_words.specs.declared.registers.Registers.{Registers}
use Rattle.jv_interp_words.specs.Inside.Branches.{LeadsOn, BranchesTo}
use Rattle.jv_interp_words.proofs.ReferencesWork.{same_leads, same_goes}
use Rattle.jv_interp_words.proofs.references.if_same.Goals as goal

pub branch-at-requires : goal.branch-at-requires
branch-at-requires c =
    let at = c.args.at.now in
    subst (λ (z : ℤ). LeadsOn at.pc z c.meets-taken.result) (sym (to_z-of_z w32 c.args.distance c.ranges.distance))
    (same_leads c.args.equality c.args.distance c.args.next at c.args.words.now _ c.top_word-a.result c.top_word-b.result c.meets-taken.result
    c.requires (c.top_word-b.ensures ∙ ap (λ (l : List ℕ). c.top_word-b.result ∷ l) c.top_word-a.ensures) c.meets-taken.ensures)

pub returns-clause-went : goal.returns-clause-went
returns-clause-went c =
    let at = c.args.at.now in
    let after : Registers = record at { pc = c.branch-at.result; top = at.top - 1 - 1 } in
    same_goes c.args.equality c.args.distance c.args.next at after c.args.words.now c.top_word-a.result c.top_word-b.result c.meets-taken.result
    (c.top_word-b.ensures ∙ ap (λ (l : List ℕ). c.top_word-b.result ∷ l) c.top_word-a.ensures) c.meets-taken.ensures
    (subst (λ (z : ℤ). BranchesTo at.pc z c.args.next c.meets-taken.result c.branch-at.result) (to_z-of_z w32 c.args.distance c.ranges.distance)
    c.branch-at.ensures)
