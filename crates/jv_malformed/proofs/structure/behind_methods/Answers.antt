use Rattle.std.proofs.Common.{arith}
use Rattle.jv_class_structure.specs.Structure.{method_bytes}
use Rattle.jv_class_structure.specs.Parts.{method_shown}
use Rattle.jv_class_structure.specs.Seen.{seen_method}
use Rattle.jv_class_structure.specs.Inside.Reading.{method, method_kept}
use Rattle.jv_class_structure.proofs.MemberLaws.{method_is, method_keeps}
use Rattle.jv_malformed.specs.Part.{method_stands}
use Rattle.jv_malformed.proofs.Passing.{pass_start, pass_on, pass_missing, pass_all, cut_count}
use Rattle.jv_malformed.proofs.structure.behind_methods.Goals as goal

pub returns-in_default : goal.returns-in_default
returns-in_default c = cut_count c.args.bytes.now c.in_default.ensures

pub loop-place-init : goal.loop-place-init
loop-place-init c =
    pass_start method_bytes (method_stands c.args.pool.now) c.args.bytes.now c.in-Some.behind.now c.in-Some.count (λ i. omega (arith, c.type_inv.bytes i)) c.in-Some.ensures

pub loop-place-preserved : goal.loop-place-preserved
loop-place-preserved c =
    pass_on (method_kept c.args.pool.now) (method_shown c.args.pool.now) (method c.args.pool.now) (method_is c.args.pool.now) (method_keeps c.args.pool.now) c.in-Some.count
    c.loop-place.place c.loop-place.rest.now c.in-Some-method_at.after.now c.args.bytes.now (seen_method c.in-Some-method_at._method) (λ i. omega (arith, c.type_inv.bytes i))
    c.in-Some-method_at.ensures c.loop-place.invariant

pub returns-in_default-method_at : goal.returns-in_default-method_at
returns-in_default-method_at c =
    pass_missing (method_kept c.args.pool.now) (method_shown c.args.pool.now) (method c.args.pool.now) (method_is c.args.pool.now) (method_keeps c.args.pool.now) c.in-Some.count
    c.loop-place.place c.loop-place.rest.now c.args.bytes.now (λ i. omega (arith, c.type_inv.bytes i)) c.loop-place-test.true c.in_default-method_at.ensures
    c.loop-place.invariant

pub returns : goal.returns
returns c =
    pass_all method_bytes (method_stands c.args.pool.now) c.in-Some.count c.loop-place.place c.loop-place.rest.now c.args.bytes.now
    (omega (arith, c.loop-place-test.false, c.loop-place.auto.place-end)) c.loop-place.invariant
