use Rattle.std.proofs.Common.{sym}
use Rattle.jv_pool.specs.Constants.{at_index}
use Rattle.jv_verify_types.proofs.Answering.{method_texts}
use Rattle.jv_verify_types.proofs.hashed.called_indices.Goals as goal

pub returns-in-Some : goal.returns-in-Some
returns-in-Some c = λ m is. method_texts c.args.pool.now (at_index c.args.pool.now c.args.index) c.in-Some.indices m (sym c.in-Some.ensures) is
