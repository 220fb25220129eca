use Rattle.jv_code.proofs.Skipped.{left_behind}
use Rattle.jv_code.proofs.skipping.skip_insn.Goals as goal

pub split_at-requires : goal.split_at-requires
split_at-requires c = (c.told_size-size.ensures c.if-size-eq0.false c.args.at).0

pub returns : goal.returns
returns c = left_behind c.args.at _ c.args.bytes.now _ (c.told_size-size.ensures c.if-size-eq0.false c.args.at) c.split_at.ensures.back
