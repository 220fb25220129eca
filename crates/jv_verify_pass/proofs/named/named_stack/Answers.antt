use Rattle.std.proofs.Common.{◌≤◌, length, map, sym, ap, ◌∙◌, arith}
use Rattle.jv_verify_types.specs.Typed.{typed}
use Rattle.jv_stackmap.specs.Seen.{seen_type}
use Rattle.jv_verify_pass.proofs.NamedTypes.{one_more, all_named}
use Rattle.jv_verify_pass.proofs.named.named_stack.Goals as goal

pub loop-depth-preserved : goal.loop-depth-preserved
loop-depth-preserved c =
    ap (map seen_type) c.in_ok-push.ensures.items
    ∙ one_more seen_type (typed c.args.names.now.names) c.loop-depth.types.items c.args.frame.now.stack c.loop-depth.depth c.named_type.result c.in-Some.item
    (sym c.item.ensures ∙ c.in-Some.is) c.named_type.ensures c.loop-depth.invariant

pub returns : goal.returns
returns c =
    let past : length c.args.frame.now.stack ≤ c.loop-depth.depth = let many = c.height-height.ensures in let end = c.loop-depth-test.false in omega (arith, many, end) in
    all_named (typed c.args.names.now.names) c.args.frame.now.stack _ c.loop-depth.depth past c.loop-depth.invariant
