use Rattle.std.proofs.Common.{◌+◌, List, ◌++◌, length, ap, subst, arith, ◌∙◌, length-append}
use Rattle.std.proofs.lemmas.List.{length-map}
use Rattle.jv_meaning_world.specs.World.{Loaded}
use Rattle.jv_meaning_world.specs.Overriding.{Declared}
use Rattle.jv_meaning_world.specs.Verdicts.{declared_by}
use Rattle.jv_interp_members.specs.Inside.Counted.{own_methods}
use Rattle.jv_interp_members.specs.Methods.{AreRows}
use Rattle.jv_interp_members.proofs.Numbered.{own_joins}
use Rattle.jv_interp_members.proofs.OfClasses.{all_taken}
use Rattle.jv_interp_members.proofs.methods.add_methods.Goals as goal
use Rattle.std.proofs.Common.{refl}

pub loop-member-preserved : goal.loop-member-preserved
loop-member-preserved c =
    rw c.in_ok-push.ensures.items (
      λ l at methods h.
          let count = ap (λ (m : Loaded). length m.class.methods) (c.class_at-loaded.ensures l at) in
          own_joins c.args.table.now methods c.loop-member.rows.items l c.args.class c.loop-member.member _ at
          (omega (arith, count, c.loop-member-test.true, c.method_count-member-end.ensures)) (c.loop-member.invariant.0 l at methods h) refl
          (λ d here. c.body_at-body.ensures d here) c.code_in.ensures,
      length-append c.loop-member.rows.items _ ∙ (let many = c.loop-member.invariant.1 in omega (arith, many)),
    )

pub returns-clause-added : goal.returns-clause-added
returns-clause-added c l at methods h =
    let count = ap (λ (m : Loaded). length m.class.methods) (c.class_at-loaded.ensures l at) in
    let own = length-map l.class.methods (declared_by l) in
    let all = all_taken (own_methods l) c.loop-member.member (omega (arith, count, own, c.loop-member-test.false, c.method_count-member-end.ensures)) in
    subst (λ (ds : List Declared). AreRows c.args.table.now (methods ++ ds) c.loop-member.rows.items) all (c.loop-member.invariant.0 l at methods h)
