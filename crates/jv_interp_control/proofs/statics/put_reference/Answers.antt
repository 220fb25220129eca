use Rattle.std.proofs.Common.{refl, arith, rules}
use Rattle.jv_meaning_machine.specs.Values.Value.{Reference}
use Rattle.jv_interp_control.proofs.ConstantStored.{statics_length, reference_stored}
use Rattle.jv_interp_control.proofs.statics.put_reference.Goals as goal

pub index_mut-requires : goal.index_mut-requires
index_mut-requires c =
    let r = c.requires in
    let p = r.putting in
    let size = statics_length r.world r.texts r.memory r.addresses c.args.held.now r.blocks r.d r.type c.args.word r.value p.stands p.typed p.begins p.kind in
    let all = c.args.held.now.statics.ok.0 in
    let width = r.width_is in
    omega (arith, size, all, width)

pub returns-clause-puts : goal.returns-clause-puts
returns-clause-puts c = λ world texts memory addresses blocks d type object p at.
    reference_stored world texts memory addresses c.args.held.now blocks d type c.args.word (Reference object) p.stands p.typed p.begins p.kind _ object c.args.address
    refl at (search rules)
