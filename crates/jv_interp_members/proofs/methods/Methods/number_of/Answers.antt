use Rattle.std.proofs.Common.{◌<◌, refl, arith, length}
use Rattle.std.proofs.lemmas.Option.{slice_get_read}
use Rattle.jv_interp_members.proofs.Numbered.{numbered, no_first}
use Rattle.jv_interp_members.proofs.methods.Methods.number_of.Goals as goal

pub returns-then-place-len : goal.returns-then-place-len
returns-then-place-len c world d h at =
    let rows = c.len-then-place-len.ensures in
    let less = c.if-place-len.true in
    let firsts = c.len.ensures in
    numbered world _ _ d _ _ h at
    (slice_get_read _ _ _ _ refl
    (let g : c.args.place.class < length c.args.self.now.firsts.items = omega (arith, less, firsts, c.args.self.now.firsts.ok.0) in g)
    c.index.ensures)
    (λ within few. c.number_within.ensures (omega (arith, within, rows, c.args.self.now.rows.ok.0)) (omega (arith, few, rows, c.args.self.now.rows.ok.0)))

pub returns-else-place-len : goal.returns-else-place-len
returns-else-place-len c world d h at =
    let less = no_first world _ _ d h at in
    let not = c.if-place-len.false in
    let firsts = c.len.ensures in absurd (omega (arith, less, not, firsts, c.args.self.now.firsts.ok.0))
