use Rattle.std.proofs.Common.{◌≡◌, ◌++◌, ◌∷◌, []}
use Rattle.std.specs.Prelude.{map}
use Rattle.std.proofs.lemmas.List.{map_push}
use Rattle.jv_format.specs.Format.{half}
use Rattle.jv_format.proofs.Laws.{goes_on, ends}
use Rattle.jv_class_structure.specs.Seen.{seen_index}
use Rattle.jv_class_structure.proofs.body.interfaces_listed.Goals as goal

pub returns-in_default : goal.returns-in_default
returns-in_default c =
    ends half (map seen_index c.loop.interfaces.items) c.args.count c.loop.counter c.loop.rest.now _ c.loop-test.true c.in_default.ensures c.loop.invariant

pub loop-preserved : goal.loop-preserved
loop-preserved c =
    let e : map seen_index c.push.new.self.items ≡ map seen_index c.loop.interfaces.items ++ c.in-Some.index ∷ [] =
    rw c.in_ok-push.ensures.items (map_push _ c.loop.interfaces.items (record { 0 = c.in-Some.index })) in
    rw e (goes_on half (map seen_index c.loop.interfaces.items) c.args.count c.loop.counter c.loop.rest.now c.in-Some.index c.in-Some.after.now _ c.loop-test.true c.in-Some.ensures c.loop.invariant)
