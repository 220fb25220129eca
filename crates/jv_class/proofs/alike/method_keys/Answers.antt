use Rattle.std.proofs.Common.{◌<◌, ◌≤◌, length, rules, subst}
use Rattle.std.specs.List.{AllZip}
use Rattle.std.proofs.lemmas.List.{take_all}
use Rattle.jv_class_structure.specs.Parts.{methods_of}
use Rattle.jv_class.specs.Inside.Reading.{IsMethodKey}
use Rattle.jv_class.proofs.Keys.{zipped_place}
use Rattle.jv_class.proofs.alike.method_keys.Goals as goal

pub loop-place-preserved : goal.loop-place-preserved
loop-place-preserved c =
    let within : c.loop-place.place < length (methods_of c.args.parts.now) = search rules in
    zipped_place (IsMethodKey c.args.parts.now.constant_pool) (methods_of c.args.parts.now) c.loop-place.place within c.loop-place.keys.items c.push.new.self.items _
    c.in_ok-push.ensures.items c.loop-place.invariant c.method_key.ensures

pub returns-clause-ok : goal.returns-clause-ok
returns-clause-ok c =
    let past : length (methods_of c.args.parts.now) ≤ c.loop-place.place = search rules in
    subst (λ methods. AllZip (IsMethodKey c.args.parts.now.constant_pool) methods c.loop-place.keys.items) (take_all c.loop-place.place (methods_of c.args.parts.now) past) c.loop-place.invariant
