use Rattle.std.proofs.Common.{ℕ, arith}
use Rattle.std.specs.Prelude.{IfSome, slice_get}
use Rattle.jv_pool.proofs.Kept.{untrue, below_or_here}
use Rattle.jv_class_structure.specs.Seen.{seen_field}
use Rattle.jv_class_structure.specs.Parts.{field_shown, fields_of}
use Rattle.jv_class.specs.Inside.Shown.{KeepsFieldShown}
use Rattle.jv_malformed.proofs.Items.{first_breach}
use Rattle.jv_malformed.proofs.Breaking.{all_below, same_length}
use Rattle.jv_malformed.proofs.rules.first_field.Goals as goal

pub returns-then-not-field_keeps_rules : goal.returns-then-not-field_keeps_rules
returns-then-not-field_keeps_rules c =
    first_breach (KeepsFieldShown c.args.parts.now.constant_pool c.args.parts.now.access_flags) (slice_get (fields_of c.args.parts.now)) c.loop-place.place
    c.loop-place.invariant (λ keeps. untrue c.field_keeps_rules.result c.if-not-field_keeps_rules.true (c.field_keeps_rules.ensures.1 keeps))

pub loop-place-preserved : goal.loop-place-preserved
loop-place-preserved c =
    let P : ℕ → Type 0 = λ k. IfSome (slice_get (fields_of c.args.parts.now) k) (KeepsFieldShown c.args.parts.now.constant_pool c.args.parts.now.access_flags) in
    below_or_here P c.loop-place.place c.loop-place.invariant (c.field_keeps_rules.ensures.0 c.if-not-field_keeps_rules.false)

pub returns : goal.returns
returns c =
    let count = same_length seen_field (field_shown c.args.parts.now.constant_pool) c.fields-place-end.result.now c.args.parts.now.fields c.fields-place-end.ensures in
    all_below (KeepsFieldShown c.args.parts.now.constant_pool c.args.parts.now.access_flags) (fields_of c.args.parts.now) c.loop-place.place
    (omega (arith, count, c.loop-place-test.false)) c.loop-place.invariant
