use Rattle.std.proofs.Common.{subst}
use Rattle.jv_link_cache.specs.declared.caught.Caught.{Caught}
use Rattle.jv_link_cache.specs.Inside.Caught.{IsCaught}
use Rattle.jv_link_cache.specs.Inside.Ranks.{IsSpan}
use Rattle.jv_link_cache.proofs.Reaching.{any_span, class_span, nothing_span, weaker_some}
use Rattle.jv_link_cache.proofs.reaches.caught_span.Goals as goal

pub returns-in-Any : goal.returns-in-Any
returns-in-Any c = λ world ranks pool handler stand is.
    any_span world ranks pool handler (subst (λ (x : Caught). IsCaught world pool handler x) c.in-Any.is is)

pub returns-in-Class : goal.returns-in-Class
returns-in-Class c = λ world ranks pool handler stand is.
    weaker_some c.span_at.result (IsSpan world ranks c.from.result) _
    (λ span spans. class_span world ranks pool handler c.in-Class.class span (subst (λ (x : Caught). IsCaught world pool handler x) c.in-Class.is is)
    (subst (λ k. IsSpan world ranks k span) c.from.ensures spans))
    (c.span_at.ensures world ranks stand)

pub returns-in-Nothing : goal.returns-in-Nothing
returns-in-Nothing c = λ world ranks pool handler stand is.
    nothing_span world ranks pool handler stand.numbered (subst (λ (x : Caught). IsCaught world pool handler x) c.in-Nothing.is is)
