use Rattle.std.proofs.Common.{ℕ, ℤ, List, refl, sym, subst}
use Rattle.std.proofs.lemmas.Int.{to_z-of_z}
use Rattle.std.specs.Int.{w32}
use Rattle.jv_meaning_machine.specs.Values.{Value}
use Rattle.jv_interp_words.specs.declared.registers.Registers.{Registers}
use Rattle.jv_interp_words.specs.FramesInWords.{in_use}
use Rattle.jv_interp_words.specs.Inside.Locals.{HasLocals, Increments, CanIncrement}
use Rattle.jv_interp_words.proofs.LocalsWork.{can_increment, increment_goes}
use Rattle.jv_interp_words.proofs.local_instructions.increment.Goals as goal

pub increment-requires-clause-can : goal.increment-requires-clause-can
increment-requires-clause-can c =
    subst (λ (z : ℤ). CanIncrement z c.args.at.now.base c.args.index (in_use c.args.words.now c.args.at.now.top))
    (sym (to_z-of_z w32 c.args.by c.ranges.by))
    (can_increment c.args.by c.args.index c.args.form c.args.next c.args.at.now c.args.words.now c.requires)

pub returns-clause-went : goal.returns-clause-went
returns-clause-went c =
    let at = c.args.at.now in
    let after : Registers = record at { pc = c.args.next } in
    increment_goes c.args.by c.args.index c.args.form c.args.next at after c.args.words.now c.increment.new.words refl
    (subst
    (λ (z : ℤ).
    (addresses : List ℕ) (locals : List Value) (above below : List ℕ)
    → Increments z at.base c.args.index (in_use c.args.words.now at.top) addresses locals above below
    → HasLocals addresses locals above (in_use c.increment.new.words at.top) below)
    (to_z-of_z w32 c.args.by c.ranges.by) c.increment.ensures)
