use Rattle.std.proofs.Common.{ℕ, Option, Some, ap, subst, ◌∙◌}
use Rattle.jv_link.specs.declared.target.MethodTarget.{MethodTarget}
use Rattle.jv_link_cache.specs.Inside.Selections.{IsFound}
use Rattle.jv_link_cache.proofs.selections.known.Goals as goal

pub returns : goal.returns
returns c = λ world how are.
    let e = c.in-Some-entry.entry in
    let here : IsFound world how e.class e.target e.object e.found = are _ _ (Some e) (c.in-Some.ensures {u = tt} ∙ ap Some c.in-Some-entry.is) in
    subst (λ (x : ℕ). IsFound world how x c.args.target.now c.args.object e.found) c.if-entry-class.true
    (subst (λ (x : MethodTarget). IsFound world how e.class x c.args.object e.found) (c.is_same_target.ensures c.if-is_same_target.true)
    (subst (λ (x : Option ℕ). IsFound world how e.class e.target x e.found) (c.is_same_object.ensures c.if-is_same_object.true) here))
