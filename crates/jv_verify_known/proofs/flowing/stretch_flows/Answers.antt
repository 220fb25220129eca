use Rattle.std.proofs.Common.{◌-◌, ap, sym, ◌∙◌, arith}
use Rattle.jv_meaning_world.specs.Flow.{flows}
use Rattle.jv_verify_types.specs.Typed.{typed}
use Rattle.jv_verify_types.specs.Mapped.{names_of_types, type_of_entry, world_of_types}
use Rattle.jv_verify_known.proofs.Comparing.{stretch_more, stretch_not}
use Rattle.jv_verify_known.proofs.flowing.stretch_flows.Goals as goal

pub returns-then-not-entry_flows-clause-one : goal.returns-then-not-entry_flows-clause-one
returns-then-not-entry_flows-clause-one c = λ e.
    let types = c.args.types.now in
    stretch_not types c.args.frame.now.locals c.args.stretch.now (c.loop-at.at - 1) c.args.to c.in-Some.local c.entry_flows.result c.args.from
    (omega (arith, c.loop-at-test.true)) (omega (arith, c.loop-at-test.true, c.loop-at.invariant.within)) (sym c.local.ensures ∙ c.in-Some.is)
    (c.entry_flows.ensures ∙ ap (λ entry. flows (world_of_types types) (typed (names_of_types types) c.in-Some.local) (type_of_entry types entry)) c.entry_at.ensures)
    c.if-not-entry_flows.true

pub loop-at-preserved : goal.loop-at-preserved
loop-at-preserved c =
    let types = c.args.types.now in
    record {
      least = omega (arith, c.loop-at-test.true);
      within = omega (arith, c.loop-at.invariant.within);
      all =
          stretch_more types c.args.frame.now.locals c.args.stretch.now (c.loop-at.at - 1) c.loop-at.at c.args.to c.in-Some.local c.entry_flows.result
          (omega (arith, c.loop-at-test.true)) (sym c.local.ensures ∙ c.in-Some.is)
          (c.entry_flows.ensures ∙ ap (λ entry. flows (world_of_types types) (typed (names_of_types types) c.in-Some.local) (type_of_entry types entry)) c.entry_at.ensures)
          c.if-not-entry_flows.false c.loop-at.invariant.all;
    }
