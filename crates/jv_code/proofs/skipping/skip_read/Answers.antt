use Rattle.jv_code.proofs.Skipped.{left_behind}
use Rattle.jv_code.proofs.skipping.skip_read.Goals as goal

pub split_at-requires : goal.split_at-requires
split_at-requires c = (c.read_size-size.ensures.some c.if-size-eq0.false).0

pub returns : goal.returns
returns c = left_behind c.args.at _ c.args.bytes.now _ (c.read_size-size.ensures.some c.if-size-eq0.false) c.split_at.ensures.back
