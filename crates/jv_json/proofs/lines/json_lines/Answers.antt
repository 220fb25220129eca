use Rattle.std.proofs.Common.{map}
use Rattle.serde_json.specs.View.{view}
use Rattle.jv_program_base.proofs.Places.{found_in_map, item_at}
use Rattle.jv_json.proofs.Plain.{one_plain}
use Rattle.jv_json.proofs.lines.json_lines.Goals as goal

pub push_line-requires : goal.push_line-requires
push_line-requires c =
    let values = c.args.values.now in
    let k = c.loop-value.value-index in
    one_plain (map view values) k (view c.value-item.result)
    (found_in_map view values k c.value-item.result (item_at values k c.value-item.result c.loop-value-test.true c.value-item.is)) c.requires
