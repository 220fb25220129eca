-- What is read where an instruction is known to stand is what is read there.
use Rattle.std.proofs.Common.{◌≡◌, ℕ, ◌*◌, Bool, true, false, cond, eqb, List, [], ◌∷◌, Some, None, refl, ap, subst, ◌∙◌}
use Rattle.std.proofs.lemmas.Bool.{eqb-true}
use Rattle.jv_format.specs.Format.{Format, ◌>>=◌, quad}
use Rattle.jv_format.specs.Readers.{both, after, such_that, bytes_of, passed, then_read, found_as}
use Rattle.jv_format.proofs.Laws.{is_some, bind_some}
use Rattle.jv_code.specs.Numbers.{signed32}
use Rattle.jv_code.specs.Switches.{pairs_keep_rules}
use Rattle.jv_code.specs.Inside.SwitchReading.{padding, pair_count, pairs_of, pairs, lookup_switch, known_pairs_of, known_pairs, known_lookup_switch}
use Rattle.jv_code.specs.Insns.{Instruction}
use Rattle.jv_code.specs.Inside.Reading.{lookup_switch_of, lookup_switch_read, insn_read, known_lookup_switch_read, known_insn_read}

-- one format reads what another does, and may read more
abbrev Covers : {A : Type 0} → Format A → Format A → Type 0
Covers {A = A} f g = (bytes : List ℕ) (x : A × List ℕ) → f.read bytes ≡ Some x → g.read bytes ≡ Some x

passed_same : {A : Type 0} (b : Bool) (x y : A × List ℕ) → cond b (Some x) None ≡ Some y → x ≡ y
passed_same true x y e = is_some x y e
passed_same false x y e = absurd cc

such_covered : {A : Type 0} (test : A → Bool) (f : Format A) → Covers (such_that test f) f
such_covered test f bytes x e =
    let a = bind_some (f.read bytes) (passed test) x e in
    a.1 ∙ ap Some (passed_same (test a.0.0) a.0 x a.2)

after_covers : {A B : Type 0} (h : Format B) (key : A → B) (f g : B → Format A) → ((b : B) → Covers (f b) (g b)) → Covers (after h key f) (after h key g)
after_covers h key f g more bytes x e =
    let b = bind_some (h.read bytes) (then_read f) x e in
    ap (λ o. o >>= then_read g) b.1 ∙ more b.0.0 b.0.1 x b.2

both_covers : {A B : Type 0} (h : Format A) (f g : Format B) → Covers f g → Covers (both h f) (both h g)
both_covers {A = A} {B = B} h f g more bytes x e =
    let a = bind_some (h.read bytes) _ x e in
    let b = bind_some (f.read a.0.1) _ x a.2 in
    ap (λ o. o >>= λ (y : A × List ℕ). g.read y.1 >>= λ (z : B × List ℕ). Some ((y.0, z.0), z.1)) a.1
    ∙ ap (λ o. o >>= λ (z : B × List ℕ). Some ((a.0.0, z.0), z.1)) (more a.0.1 b.0 b.1) ∙ b.2

pairs_covered : Covers pairs known_pairs
pairs_covered = after_covers quad pair_count pairs_of known_pairs_of (λ n. such_covered (pairs_keep_rules n) (bytes_of (8 * n)))

lookup_covered : (at : ℕ) → Covers (lookup_switch at) (known_lookup_switch at)
lookup_covered at = both_covers (padding at) (both signed32 pairs) (both signed32 known_pairs) (both_covers signed32 pairs known_pairs pairs_covered)

lookup_known : (at : ℕ) (rest : List ℕ) (x : Instruction × List ℕ) → lookup_switch_read at rest ≡ Some x → known_lookup_switch_read at rest ≡ Some x
lookup_known at rest x e =
    let a = bind_some ((lookup_switch at).read rest) (found_as lookup_switch_of) x e in
    ap (λ o. o >>= found_as lookup_switch_of) (lookup_covered at rest a.0 a.1) ∙ a.2

by_opcode : (at opcode : ℕ) (rest : List ℕ) (x : Instruction × List ℕ) (b : Bool) → eqb opcode 171 ≡ b → insn_read at (opcode ∷ rest) ≡ Some x
    → cond b (known_lookup_switch_read at rest) (insn_read at (opcode ∷ rest)) ≡ Some x
by_opcode at opcode rest x true is e =
    let same : opcode ≡ 171 = eqb-true opcode 171 is in
    lookup_known at rest x (subst (λ (o : ℕ). insn_read at (o ∷ rest) ≡ Some x) same e)
by_opcode at opcode rest x false is e = e

pub insn_known : (at : ℕ) (bytes : List ℕ) (x : Instruction × List ℕ) → insn_read at bytes ≡ Some x → known_insn_read at bytes ≡ Some x
insn_known at [] x e = absurd cc
insn_known at (opcode ∷ rest) x e = by_opcode at opcode rest x (eqb opcode 171) refl e
