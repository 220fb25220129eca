use Rattle.std.proofs.Common.{rules}
use Rattle.std.proofs.lemmas.List.Sorted.{IsNonDecreasingBy-from_sort_by_key}
use Rattle.jv_verify_pass.specs.Inside.Opening.{start_of}
use Rattle.jv_verify_pass.proofs.opening.put_in_order.Goals as goal

pub returns-clause-order : goal.returns-clause-order
returns-clause-order c = IsNonDecreasingBy-from_sort_by_key start_of _ c.in_ok-sort_by_key.ensures.sorted (λ a r q k. search rules)
