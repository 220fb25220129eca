use Rattle.std.proofs.Common.{List, Option, length, sym, subst}
use Rattle.jv_link_cache.specs.declared.ranks.Span.{Span}
use Rattle.jv_link_cache.specs.Inside.Ranks.{AreSpans}
use Rattle.jv_link_cache.proofs.handlers.all_known.Goals as goal

pub returns : goal.returns
returns c =
    let world = c.args.table.now in
    let ranks = c.in_ok-known.known.ranks.items in
    c.in_ok-rows.ensures ranks
    (subst (λ (spans : List (Option Span)). AreSpans world ranks (length world) spans) (sym c.deref.ensures.value) c.in_ok-spans.ensures)
