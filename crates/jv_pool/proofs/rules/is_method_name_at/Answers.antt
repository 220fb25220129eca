use Rattle.std.specs.Prelude.{IsTrue}
use Rattle.jv_text.specs.Name.{is_method_name}
use Rattle.jv_pool.specs.Constants.{utf8_at}
use Rattle.jv_pool.proofs.Kept.{if_known, if_unknown, same_test}
use Rattle.jv_pool.proofs.rules.is_method_name_at.Goals as goal

pub returns-in-Some : goal.returns-in-Some
returns-in-Some c = if_known (λ n. IsTrue (is_method_name n)) (utf8_at c.args.known.now c.args.name) c.in-Some.facts _ c.in-Some.ensures (λ t known. same_test _ _ known.method_name)

pub returns-in-None : goal.returns-in-None
returns-in-None c = if_unknown (λ n. IsTrue (is_method_name n)) (utf8_at c.args.known.now c.args.name) c.in-None.ensures
