use Rattle.std.proofs.Common.{◌-◌, ◌%◌, [], ◌∷◌, length, refl, ap, arith, get_or, length-append}
use Rattle.jv_interp_held.specs.Executing.{place}
use Rattle.jv_interp_held.proofs.HostWork.{writes}
use Rattle.jv_interp_held.proofs.host.write.Goals as goal

pub push_reserved-requires : goal.push_reserved-requires
push_reserved-requires c =
    let room = c.requires.writes.executes.memory.output_room in
    let some = c.if-held-eq0.false in
    let count = c.args.held.now.output.ok.0 in
    omega (arith, room, some, count)

pub returns-clause-writes : goal.returns-clause-writes
returns-clause-writes c = λ blocks texts x number rest addresses done below h.
    let room = c.requires.writes.executes.memory.output_room in
    let some = c.if-held-eq0.false in
    let longer = ap (λ items. length items) c.push_reserved.ensures.items in
    let capacity = c.push_reserved.ensures.capacity in
    writes c.args.next (place c.args.at.now c.args.words.now c.args.held.now blocks) texts x number rest addresses done below h _ _ _
    c.if-held-eq0.false refl refl refl refl (omega (arith, c.type_inv.words (c.args.at.now.top - 1))) c.push_reserved.ensures.items
    (omega (arith, room, some, longer, capacity, length-append c.args.held.now.output.items ((get_or c.args.words.now (c.args.at.now.top - 1) 0 % 256) ∷ [])))
