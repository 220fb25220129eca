use Rattle.std.proofs.Common.{ℕ, arith}
use Rattle.std.specs.Prelude.{IfSome, slice_get}
use Rattle.jv_pool.proofs.Kept.{untrue, below_or_here}
use Rattle.jv_class_structure.specs.Parts.{methods_of}
use Rattle.jv_class.specs.Inside.Shown.{KeepsMethodShown}
use Rattle.jv_malformed.proofs.Items.{first_breach}
use Rattle.jv_malformed.proofs.Breaking.{all_below}
use Rattle.jv_malformed.proofs.rules.first_method.Goals as goal

pub returns-then-not-keeps_rules_at : goal.returns-then-not-keeps_rules_at
returns-then-not-keeps_rules_at c =
    first_breach (KeepsMethodShown c.args.parts.now.constant_pool c.args.parts.now.major_version c.args.parts.now.access_flags)
    (slice_get (methods_of c.args.parts.now)) c.loop-place.place c.loop-place.invariant
    (λ keeps. untrue c.keeps_rules_at.result c.if-not-keeps_rules_at.true (c.keeps_rules_at.ensures.1 keeps))

pub loop-place-preserved : goal.loop-place-preserved
loop-place-preserved c =
    let P : ℕ → Type 0 = λ k.
    IfSome (slice_get (methods_of c.args.parts.now) k) (KeepsMethodShown c.args.parts.now.constant_pool c.args.parts.now.major_version c.args.parts.now.access_flags) in
    below_or_here P c.loop-place.place c.loop-place.invariant (c.keeps_rules_at.ensures.0 c.if-not-keeps_rules_at.false)

pub returns : goal.returns
returns c =
    all_below (KeepsMethodShown c.args.parts.now.constant_pool c.args.parts.now.major_version c.args.parts.now.access_flags) (methods_of c.args.parts.now)
    c.loop-place.place (omega (arith, c.method_count-place-end.ensures, c.loop-place-test.false)) c.loop-place.invariant
