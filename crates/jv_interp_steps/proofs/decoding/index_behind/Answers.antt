use Rattle.std.proofs.Common.{◌≡◌, ℕ, ◌+◌, ◌*◌, ◌<◌, get_or, subst, ap, ◌∙◌, arith}
use Rattle.jv_interp_words.proofs.OpcodesStand.{half_spelled}
use Rattle.jv_interp_steps.proofs.decoding.index_behind.Goals as goal

pub returns-clause-stands : goal.returns-clause-stands
returns-clause-stands c =
    let code = c.args.code.now in
    let pc = c.args.pc in
    let behind : pc + 2 ≡ pc + 1 + 1 = omega arith in
    let small : get_or code (pc + 2) 0 < 256 = omega (arith, c.type_inv.code (pc + 2)) in
    half_spelled code (pc + 1) c.from_be_bytes.result (omega (arith, c.requires)) (subst (λ (n : ℕ). get_or code n 0 < 256) behind small)
    (c.from_be_bytes.ensures ∙ ap (λ (n : ℕ). get_or code (pc + 1) 0 * 256 + get_or code n 0) behind)
