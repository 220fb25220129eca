use Rattle.jv_classes.proofs.OfFile.{place_within, name_of}
use Rattle.jv_classes.proofs.reading.interface_in.Goals as goal

pub bounds-interfaces-place : goal.bounds-interfaces-place
bounds-interfaces-place c =
    place_within c.args.file.now c.pool.result.now c.interfaces-interfaces.result.now c.pool.ensures c.interfaces-interfaces.ensures.same c.args.place c.requires

pub returns : goal.returns
returns c = λ class e.
    let file = c.args.file.now in
    let indices = c.interfaces-interfaces.result.now in
    let within = place_within file c.pool.result.now indices c.pool.ensures c.interfaces-interfaces.ensures.same c.args.place c.requires in
    name_of file c.pool.result.now indices c.pool.ensures c.interfaces-interfaces.ensures.same class c.args.place _ c.class_name.result.now e within c.class_name.ensures
