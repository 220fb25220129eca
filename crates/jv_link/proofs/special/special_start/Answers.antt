use Rattle.std.proofs.Common.{◌∙◌, Some, ap, subst, sym, length}
use Rattle.std.specs.Prelude.{slice_get, if◌then◌else◌}
use Rattle.std.specs.Option.{unwrap_or}
use Rattle.jv_format.specs.Format.{◌>>=◌}
use Rattle.jv_classes.specs.Ways.{IsBelowSize}
use Rattle.jv_meaning_world.specs.Above.{superclass_in}
use Rattle.jv_classes.proofs.Told.{superclass_below}
use Rattle.jv_classes.proofs.Followed.{at_superclass, some_class}
use Rattle.jv_link.proofs.special.special_start.Goals as goal

pub returns-in-Some-clause-start : goal.returns-in-Some-clause-start
returns-in-Some-clause-start c = λ l at n at_n.
    let world = c.args.table.now in
    let number = sym (c.super_of.ensures l at) ∙ c.in-Some.is in
    let superclass = some_class world c.in-Some.superclass (subst (IsBelowSize (length world)) number (superclass_below world l.class.super_class)) in
    let there = sym (at_superclass world l.class) ∙ (ap (λ o. o >>= slice_get world) number ∙ superclass.1) in
    superclass.1 ∙ (ap (λ o. Some (unwrap_or o n)) (sym there)
    ∙ ap (λ b. Some (if b then unwrap_or (superclass_in world l.class) n else n)) (sym (sym (c.begins_above.ensures l at n at_n) ∙ c.if-not-begins_above.false)))

pub returns-in-Some-clause-within : goal.returns-in-Some-clause-within
returns-in-Some-clause-within c =
    let world = c.args.table.now in
    let class = some_class world c.args.current c.requires.current in
    subst (IsBelowSize (length world)) (sym (c.super_of.ensures class.0 class.1) ∙ c.in-Some.is) (superclass_below world class.0.class.super_class)

pub returns-in-None-clause-start : goal.returns-in-None-clause-start
returns-in-None-clause-start c = λ l at n at_n.
    let world = c.args.table.now in
    let number = sym (c.super_of.ensures l at) ∙ c.in-None.is in
    let there = sym (at_superclass world l.class) ∙ ap (λ o. o >>= slice_get world) number in
    at_n ∙ (ap (λ o. Some (unwrap_or o n)) (sym there)
    ∙ ap (λ b. Some (if b then unwrap_or (superclass_in world l.class) n else n)) (sym (sym (c.begins_above.ensures l at n at_n) ∙ c.if-not-begins_above.false)))
