use Rattle.std.proofs.Common.{ℕ, List, refl, sym, subst, arith, rules}
use Rattle.jv_format.specs.Format.{IsBytes}
use Rattle.jv_format.proofs.Laws.{IsBytes-rest}
use Rattle.jv_pool.specs.Constants.{pool_bytes}
use Rattle.jv_pool.specs.Rules.{IsPool}
use Rattle.jv_class_structure.specs.Structure.{body_bytes}
use Rattle.jv_class_structure.specs.Parts.{IsBehindVersion}
use Rattle.jv_class_structure.specs.Inside.Kept.{seen_body}
use Rattle.jv_class_structure.specs.Inside.Reading.{structure_in, body_kept}
use Rattle.jv_class_structure.proofs.Whole.{AreBody-from, behind_kept, no_body, no_whole}
use Rattle.jv_class_structure.proofs.parts.read_parts.Goals as goal

pub returns-in-Err-BadPool-clause-format : goal.returns-in-Err-BadPool-clause-format
returns-in-Err-BadPool-clause-format c = λ e d b.
    (rw c.in-Err-BadPool.field-0-is at c.in-Err-BadPool.ensures.bad) refl d.constant_pool (pool_bytes d.constant_pool) (body_bytes d) b.spelled b.pool

pub invariant_of-result : goal.invariant_of-result
invariant_of-result c =
    let front : List ℕ = c.split_at.result.0.now in
    let rest : List ℕ = c.split_at.result.1.now in
    let small : IsBytes rest = IsBytes-rest front rest c.args.bytes.now c.split_at.ensures.by_index.0 (λ i. omega (arith, c.type_inv.bytes i)) in
    AreBody-from c.in-Ok.found.0 rest (seen_body c.in-Ok-whole_body.body) small c.in-Ok-whole_body.ensures

pub returns-in-Ok-whole_body-clause-ok : goal.returns-in-Ok-whole_body-clause-ok
returns-in-Ok-whole_body-clause-ok c =
    let front : List ℕ = c.split_at.result.0.now in
    let rest : List ℕ = c.split_at.result.1.now in
    let small : IsBytes rest = IsBytes-rest front rest c.args.bytes.now c.split_at.ensures.by_index.0 (λ i. omega (arith, c.type_inv.bytes i)) in
    let pool : IsPool front c.in-Ok.found.0 = subst (λ (x : List ℕ). IsPool x c.in-Ok.found.0) (sym c.split_at.ensures.front) c.in-Ok.ensures.ok in
    subst (λ (x : List ℕ). IsBehindVersion c.args.major x (structure_in c.args.major c.in-Ok.found.0 rest)) (sym c.split_at.ensures.by_index.0)
    (behind_kept c.args.major front rest c.in-Ok.found.0 (seen_body c.in-Ok-whole_body.body) small pool c.in-Ok-whole_body.ensures)

pub returns-clause-format : goal.returns-clause-format
returns-clause-format c = λ e d b.
    let front : List ℕ = c.split_at.result.0.now in
    let rest : List ℕ = c.split_at.result.1.now in
    let small : IsBytes rest = IsBytes-rest front rest c.args.bytes.now c.split_at.ensures.by_index.0 (λ i. omega (arith, c.type_inv.bytes i)) in
    let pool : IsPool front c.in-Ok.found.0 = subst (λ (x : List ℕ). IsPool x c.in-Ok.found.0) (sym c.split_at.ensures.front) c.in-Ok.ensures.ok in
    no_body c.one_pool.ensures c.args.major front rest c.in-Ok.found.0 small pool (no_whole _ ((body_kept c.in-Ok.found.0).read rest) c.in-Err.fault e c.in-Err.ensures) d
    (subst (λ (x : List ℕ). IsBehindVersion c.args.major x d) c.split_at.ensures.by_index.0 b)

pub returns-in-Err-OutOfMemory-clause-format : goal.returns-in-Err-OutOfMemory-clause-format
returns-in-Err-OutOfMemory-clause-format c = search rules
