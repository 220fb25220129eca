use Rattle.std.proofs.Common.{refl, arith, subst, sym, get_or, take}
use Rattle.std.specs.Prelude.{nat_eq}
use Rattle.std.specs.List.{IsDistinct}
use Rattle.std.proofs.lemmas.Grind.{common_steps}
use Rattle.std.proofs.lemmas.Cmp.{nat_eq_equiv}
use Rattle.std.proofs.lemmas.List.{take_more}
use Rattle.std.proofs.lemmas.List.Folds.{list_any-append}
use Rattle.std.proofs.lemmas.Map.Keys.{IsDistinct-push}
use Rattle.jv_class.proofs.Kept.{untrue}
use Rattle.jv_class.proofs.Keys.{not_twice, none_distinct}
use Rattle.jv_class.proofs.alike.all_differ.Goals as goal

pub loop-key-init : goal.loop-key-init
loop-key-init c = (λ q. grind (arith, common_steps), none_distinct)

pub returns-then-not-branch-clause-ok : goal.returns-then-not-branch-clause-ok
returns-then-not-branch-clause-ok c = (
  λ no. absurd (untrue _ refl no),
  λ h.
      let none = not_twice c.args.keys.now c.loop-key.key-index 0 c.loop-key-test.true h in
      let there = c.loop-key.invariant.0 (get_or c.args.keys.now c.loop-key.key-index 0) in
      grind (arith, common_steps),
)

pub loop-key-preserved : goal.loop-key-preserved
loop-key-preserved c = (
  λ q. grind (arith, common_steps, list_any-append, c.loop-key.invariant.0 q),
  let none = c.loop-key.invariant.0 (get_or c.args.keys.now c.loop-key.key-index 0) in
      subst (IsDistinct nat_eq) (sym (take_more c.args.keys.now c.loop-key.key-index 0 c.loop-key-test.true))
      (IsDistinct-push nat_eq_equiv (take c.loop-key.key-index c.args.keys.now) (get_or c.args.keys.now c.loop-key.key-index 0) c.loop-key.invariant.1 (grind (arith, common_steps))),
)

pub returns-clause-ok : goal.returns-clause-ok
returns-clause-ok c = grind (arith, common_steps)
