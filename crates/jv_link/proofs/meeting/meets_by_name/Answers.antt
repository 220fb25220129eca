use Rattle.std.proofs.Common.{◌∙◌, ap, subst, sym}
use Rattle.std.specs.Prelude.{if◌then◌else◌}
use Rattle.jv_lookups.proofs.Standing.{method_stands}
use Rattle.jv_meaning_typing.specs.Access.{same_class}
use Rattle.jv_link.proofs.Placed.{method_placed}
use Rattle.jv_link.specs.Inside.Climbing.{met_below, met_in, IsMet}
use Rattle.jv_link.specs.Inside.Climbing.Meeting.{Nothing, Sure}
use Rattle.jv_link.proofs.meeting.meets_by_name.Goals as goal

pub returns-then-is_above-clause-met : goal.returns-then-is_above-clause-met
returns-then-is_above-clause-met c = λ l at e at_e.
    let world = c.args.table.now in
    let there = method_stands world c.in-Some.place c.in-Some.ensures.place in
    let by = method_placed world c.args.called e at_e in
    subst (IsMet world c.met_below.result)
    (sym (ap (met_in world e l) (sym (c.in-Some.ensures.found l at e at_e) ∙ there.1)
    ∙ ap (λ b. if b then met_below e there.0 else if same_class e.by l then Sure there.0 else Nothing) (sym (c.is_above.ensures l at e.by by) ∙ c.if-is_above.true)))
    (c.met_below.ensures.met e there.0 at_e there.1)

pub returns-then-same_class-clause-met : goal.returns-then-same_class-clause-met
returns-then-same_class-clause-met c = λ l at e at_e.
    let world = c.args.table.now in
    let there = method_stands world c.in-Some.place c.in-Some.ensures.place in
    let by = method_placed world c.args.called e at_e in (
      there.0,
      there.1,
      ap (met_in world e l) (sym (c.in-Some.ensures.found l at e at_e) ∙ there.1)
          ∙ (ap (λ b. if b then met_below e there.0 else if same_class e.by l then Sure there.0 else Nothing) (sym (c.is_above.ensures l at e.by by) ∙ c.if-is_above.false)
          ∙ ap (λ b. if b then Sure there.0 else Nothing) (sym (c.same_class.ensures e.by by l at) ∙ c.if-same_class.true)),
    )
