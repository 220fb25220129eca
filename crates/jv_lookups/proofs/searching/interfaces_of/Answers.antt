use Rattle.std.proofs.Common.{◌∙◌, sym, ap}
use Rattle.jv_meaning_world.specs.World.{Loaded}
use Rattle.jv_classes.proofs.Tests.{nothing, something}
use Rattle.jv_lookups.proofs.Classes.{same_class, no_superclass, behind_superclass, not_empty}
use Rattle.jv_lookups.proofs.searching.interfaces_of.Goals as goal

pub returns-in-empty : goal.returns-in-empty
returns-in-empty c = λ l at.
    let world = c.args.table.now in
    let same = same_class world c.classes.result.now c.args.number c.index-classes-number.result l c.classes.ensures c.index-classes-number.is at in
    let name = something c.super_name.result l.class.super_class (sym c.is_some.ensures ∙ c.if-is_some.true) (c.super_name.ensures ∙ ap (λ (m : Loaded). m.class.super_class) same) in
    absurd (not_empty world l.class c.supers-supers.result.now name.0 (c.supers-supers.ensures l at) name.1 c.in-empty.len_below)

pub returns-in-len1-up : goal.returns-in-len1-up
returns-in-len1-up c = λ l at.
    let world = c.args.table.now in
    let same = same_class world c.classes.result.now c.args.number c.index-classes-number.result l c.classes.ensures c.index-classes-number.is at in
    let name = something c.super_name.result l.class.super_class (sym c.is_some.ensures ∙ c.if-is_some.true) (c.super_name.ensures ∙ ap (λ (m : Loaded). m.class.super_class) same) in
    behind_superclass world l.class c.supers-supers.result.now name.0 (c.supers-supers.ensures l at) name.1

pub returns-else-is_some : goal.returns-else-is_some
returns-else-is_some c = λ l at.
    let world = c.args.table.now in
    let same = same_class world c.classes.result.now c.args.number c.index-classes-number.result l c.classes.ensures c.index-classes-number.is at in
    no_superclass world l.class c.supers-supers.result.now (c.supers-supers.ensures l at)
    (nothing c.super_name.result l.class.super_class (sym c.is_some.ensures ∙ c.if-is_some.false) (c.super_name.ensures ∙ ap (λ (m : Loaded). m.class.super_class) same))
