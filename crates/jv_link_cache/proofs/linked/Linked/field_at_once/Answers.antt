use Rattle.std.proofs.Common.{sym, subst}
use Rattle.jv_link_cache.specs.Inside.Fields.{IsEntry}
use Rattle.jv_link_cache.specs.Inside.Rows.{AreRows}
use Rattle.jv_link_cache.proofs.AtOnce.{found_at_once, use_at_once}
use Rattle.jv_link_cache.proofs.linked.Linked.field_at_once.Goals as goal

pub returns-clause-found : goal.returns-clause-found
returns-clause-found c = λ world is.
    found_at_once world c.args.site c.args.how c.args.index c.usable_at_once.result
    (c.usable_at_once.ensures world (subst (AreRows (IsEntry world)) (sym c.deref.ensures.value) is.fields))

pub returns-clause-used : goal.returns-clause-used
returns-clause-used c = λ world is.
    use_at_once world c.args.site.class c.args.how c.args.index c.usable_at_once.result
    (c.usable_at_once.ensures world (subst (AreRows (IsEntry world)) (sym c.deref.ensures.value) is.fields))
