use Rattle.std.proofs.Common.{◌≡◌, ◌+◌, ◌||◌, ℕ, Bool, true, false, nat_eq, ap, sym, subst, refl, ◌∙◌, arith, rules}
use Rattle.std.proofs.lemmas.Bool.{eqb-true}
use Rattle.jv_interp_words.specs.Opcodes.{pushes_constant, loads_local, stores_local, computes_alone, branches_alone, works_alone}
use Rattle.jv_interp_words.proofs.OpcodesStand.{is_start}
use Rattle.jv_interp_words.proofs.dispatch.step_in_words.Goals as goal

one_more : (n : ℕ) → nat_eq (n + 1) 0 ≡ false
one_more n = no (nat_eq (n + 1) 0) refl
  where
    no : (b : Bool) → nat_eq (n + 1) 0 ≡ b → nat_eq (n + 1) 0 ≡ false
    no true e = absurd (omega (arith, eqb-true (n + 1) 0 e))
    no false e = e

not_alone :
    (opcode n : ℕ) → pushes_constant opcode ≡ false → loads_local opcode ≡ false → stores_local opcode ≡ false
    → computes_alone opcode ≡ false → branches_alone opcode ≡ false → nat_eq (n + 1) 0 ≡ works_alone opcode
not_alone opcode n pushes loads stores computes branches =
    one_more n
    ∙ sym (ap (λ (b : Bool). b || (loads_local opcode || (stores_local opcode || (computes_alone opcode || branches_alone opcode)))) pushes
    ∙ ap (λ (b : Bool). b || (stores_local opcode || (computes_alone opcode || branches_alone opcode))) loads
    ∙ ap (λ (b : Bool). b || (computes_alone opcode || branches_alone opcode)) stores
    ∙ ap (λ (b : Bool). b || branches_alone opcode) computes
    ∙ branches)

pub opcode_at-opcode-requires : goal.opcode_at-opcode-requires
opcode_at-opcode-requires c = is_start c.args.at.now c.args.words.now c.requires

pub returns-in_default-clause-when : goal.returns-in_default-clause-when
returns-in_default-clause-when c =
    let opcode = c.opcode_at-opcode.result in
    subst (λ (o : ℕ). nat_eq (c.from.result + 1) 0 ≡ works_alone o) c.opcode_at-opcode.ensures.is
    (not_alone opcode c.from.result (search rules) (search rules) (search rules) (search rules) (search rules))
