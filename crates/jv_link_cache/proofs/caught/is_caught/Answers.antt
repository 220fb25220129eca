use Rattle.std.proofs.Common.{subst, ap, ◌∙◌, slice_get}
use Rattle.jv_link_cache.specs.declared.caught.Caught.{Caught}
use Rattle.jv_link_cache.specs.Inside.Caught.{IsCaught}
use Rattle.jv_link_cache.proofs.CatchTypes.{any_catches, class_catches, nothing_catches}
use Rattle.jv_link_cache.proofs.caught.is_caught.Goals as goal

pub returns-in-Any : goal.returns-in-Any
returns-in-Any c = λ pool handler is thrown at.
    any_catches c.args.table.now pool thrown handler (subst (λ (x : Caught). IsCaught c.args.table.now pool handler x) c.in-Any.is is)

pub returns-then-other-count : goal.returns-then-other-count
returns-then-other-count c = λ pool handler is thrown at.
    let to = class_catches c.args.table.now pool c.args.class thrown handler c.in-Class.other (subst (λ (x : Caught). IsCaught c.args.table.now pool handler x) c.in-Class.is is) in
    c.is_of.ensures thrown at to.0 (ap (slice_get c.args.table.now) c.from-other.ensures ∙ to.1) ∙ to.2

pub returns-in-Nothing : goal.returns-in-Nothing
returns-in-Nothing c = λ pool handler is thrown at.
    nothing_catches c.args.table.now pool c.args.class thrown handler c.is_numbered.ensures at (subst (λ (x : Caught). IsCaught c.args.table.now pool handler x) c.in-Nothing.is is)
