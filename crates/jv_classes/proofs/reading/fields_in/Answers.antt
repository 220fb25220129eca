use Rattle.jv_classes.specs.Inside.Found.{field_at}
use Rattle.jv_classes.proofs.AllFound.{joined_by, next_found}
use Rattle.jv_classes.proofs.reading.fields_in.Goals as goal

pub loop-field-preserved : goal.loop-field-preserved
loop-field-preserved c =
    let joined = joined_by _ c.loop-field.gathered.members _ c.in_ok-add_member.ensures.joins in
    let found = next_found (field_at c.args.pool.now) c.args.fields.now c.loop-field.field-index _ c.loop-field-test.true
    c.loop-field.gathered.members _ joined.0 joined.2 c.loop-field.invariant.0 joined.1 in
    (found, c.in_ok-add_member.ensures.places)
