use Rattle.std.proofs.Common.{◌≡◌, ◌++◌, ◌∷◌, []}
use Rattle.std.specs.Prelude.{map}
use Rattle.std.proofs.lemmas.List.{map_push}
use Rattle.jv_class_structure.specs.Inside.Reading.{field_kept}
use Rattle.jv_format.proofs.Laws.{goes_on, ends}
use Rattle.jv_class_structure.specs.Seen.{seen_field}
use Rattle.jv_class_structure.proofs.body.fields_listed.Goals as goal

pub returns-in_default : goal.returns-in_default
returns-in_default c =
    ends (field_kept c.args.pool.now) (map seen_field c.loop.fields.items) c.args.count c.loop.counter c.loop.rest.now _ c.loop-test.true c.in_default.ensures c.loop.invariant

pub loop-preserved : goal.loop-preserved
loop-preserved c =
    let e : map seen_field c.push.new.self.items ≡ map seen_field c.loop.fields.items ++ (seen_field c.in-Some.field) ∷ [] =
    rw c.in_ok-push.ensures.items (map_push _ c.loop.fields.items c.in-Some.field) in
    rw e (goes_on (field_kept c.args.pool.now) (map seen_field c.loop.fields.items) c.args.count c.loop.counter c.loop.rest.now
    (seen_field c.in-Some.field) c.in-Some.after.now _ c.loop-test.true c.in-Some.ensures c.loop.invariant)
