use Rattle.std.proofs.Common.{rules, ℕ, ◌+◌, sym, subst, Result}
use Rattle.std.proofs.lemmas.List.Sorted.{answers_always}
use Rattle.jv_stackmap.proofs.Packing.{IsBelow, below_found}
use Rattle.jv_stackmap.proofs.nodes.below_in.Goals as goal

pub returns-in-Ok : goal.returns-in-Ok
returns-in-Ok c =
    let facts = c.binary_search_by_key.ensures in
    let by_key = facts.position (λ node. node.number) (answers_always _ _ _ (λ f a r g called. search rules)) in
    let all : IsBelow c.args.far.now c.args.number c.binary_search_by_key.result = below_found (c.requires.0 + 1) c.args.far.now c.args.number
    c.requires.1 c.binary_search_by_key.result facts.bound by_key in
    let here = subst (λ (r : Result ℕ ℕ). IsBelow c.args.far.now c.args.number r) c.in-Ok.is all in
    sym (here.found (record { number = 0; below = 0 }))

pub returns-in-Err : goal.returns-in-Err
returns-in-Err c =
    let facts = c.binary_search_by_key.ensures in
    let by_key = facts.position (λ node. node.number) (answers_always _ _ _ (λ f a r g called. search rules)) in
    let all : IsBelow c.args.far.now c.args.number c.binary_search_by_key.result = below_found (c.requires.0 + 1) c.args.far.now c.args.number
    c.requires.1 c.binary_search_by_key.result facts.bound by_key in
    let here = subst (λ (r : Result ℕ ℕ). IsBelow c.args.far.now c.args.number r) c.in-Err.is all in
    sym here.found
