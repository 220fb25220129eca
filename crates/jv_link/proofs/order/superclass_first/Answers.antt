use Rattle.std.proofs.Common.{◌∙◌, ◌++◌, ◌∷◌, [], ap, sym, subst, length}
use Rattle.jv_classes.specs.Ways.{IsBelowSize}
use Rattle.jv_classes.proofs.Told.{superclass_below}
use Rattle.jv_classes.proofs.Followed.{some_class}
use Rattle.jv_meaning_world.specs.Numbers.{classes_at, AreNumbers}
use Rattle.jv_link.proofs.Defaulting.{no_superclass, one_superclass, one_number}
use Rattle.jv_link.proofs.order.superclass_first.Goals as goal

pub returns-in_default-clause-those : goal.returns-in_default-clause-those
returns-in_default-clause-those c = λ l at.
    ap (classes_at c.args.table.now) c.new-order.ensures.items ∙ no_superclass c.args.table.now l (sym (c.super_of.ensures l at) ∙ c.in_default.is)

pub returns-clause-those : goal.returns-clause-those
returns-clause-those c = λ l at.
    ap (classes_at c.args.table.now) (c.in_ok-push.ensures.items ∙ ap (λ xs. xs ++ c.in-Some.superclass ∷ []) c.new-order.ensures.items)
    ∙ one_superclass c.args.table.now l c.in-Some.superclass (sym (c.super_of.ensures l at) ∙ c.in-Some.is)

pub returns-clause-numbers : goal.returns-clause-numbers
returns-clause-numbers c =
    let class = some_class c.args.table.now c.args.class c.requires in
    subst (AreNumbers c.args.table.now) (sym (c.in_ok-push.ensures.items ∙ ap (λ xs. xs ++ c.in-Some.superclass ∷ []) c.new-order.ensures.items))
    (one_number (length c.args.table.now) c.in-Some.superclass
    (subst (IsBelowSize (length c.args.table.now)) (sym (c.super_of.ensures class.0 class.1) ∙ c.in-Some.is)
    (superclass_below c.args.table.now class.0.class.super_class)))
