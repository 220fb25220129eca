use Rattle.std.proofs.Common.{◌<◌, ◌≤◌, length, rules, ap, sym, ◌∙◌}
use Rattle.std.proofs.lemmas.List.{take_all}
use Rattle.jv_class.specs.Class.{all_found}
use Rattle.jv_class_structure.specs.Parts.{methods_of}
use Rattle.jv_classes.specs.Inside.Found.{method_at}
use Rattle.jv_classes.proofs.AllFound.{next_joined}
use Rattle.jv_classes.proofs.reading.methods_in.Goals as goal

pub loop-place-preserved : goal.loop-place-preserved
loop-place-preserved c =
    let within : c.loop-place.place < length (methods_of c.args.file.now) = search rules in
    let found = next_joined (method_at c.args.file.now.constant_pool) (methods_of c.args.file.now) c.loop-place.place within
    c.loop-place.gathered.members _ c.loop-place.invariant.0 c.in_ok-add_method.ensures.joins in
    (found, c.in_ok-add_method.ensures.places)

pub returns : goal.returns
returns c =
    let past : length (methods_of c.args.file.now) ≤ c.loop-place.place = search rules in
    rw c.members.ensures (ap (all_found (method_at c.args.file.now.constant_pool)) (sym (take_all c.loop-place.place (methods_of c.args.file.now) past)) ∙ c.loop-place.invariant.0)
