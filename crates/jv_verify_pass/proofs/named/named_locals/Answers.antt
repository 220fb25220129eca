use Rattle.std.proofs.Common.{◌≤◌, length, map, sym, ap, ◌∙◌, arith}
use Rattle.jv_verify_types.specs.Typed.{typed}
use Rattle.jv_stackmap.specs.Seen.{seen_type}
use Rattle.jv_verify_pass.proofs.NamedTypes.{one_more, all_named}
use Rattle.jv_verify_pass.proofs.named.named_locals.Goals as goal

pub loop-index-preserved : goal.loop-index-preserved
loop-index-preserved c =
    ap (map seen_type) c.in_ok-push.ensures.items
    ∙ one_more seen_type (typed c.args.names.now.names) c.loop-index.types.items c.args.frame.now.locals c.loop-index.index c.named_type.result c.in-Some.item
    (sym c.local.ensures ∙ c.in-Some.is) c.named_type.ensures c.loop-index.invariant

pub returns : goal.returns
returns c =
    let past : length c.args.frame.now.locals ≤ c.loop-index.index = let many = c.requires in let end = c.loop-index-test.false in omega (arith, many, end) in
    all_named (typed c.args.names.now.names) c.args.frame.now.locals _ c.loop-index.index past c.loop-index.invariant
