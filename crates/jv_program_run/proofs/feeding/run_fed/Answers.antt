use Rattle.std.proofs.Common.{◌<◌, ◌^◌, suc, arith, rules, ap, subst, sym}
use Rattle.jv_host.specs.Calls.{SomeRuns}
use Rattle.jv_program_run.specs.Inside.Turns.{IsFeedFailure}
use Rattle.jv_program_run.proofs.FedRounds.{FedSoFar, fed_joined, fed_next, fed_none, fed_over, fed_round, fed_runs, not_fed}
use Rattle.jv_program_base.proofs.Places.{passed_on}
use Rattle.jv_program_run.proofs.Turns.{few_steps}
use Rattle.jv_program_run.proofs.feeding.run_fed.Goals as goal
use Rattle.jv_program_run.proofs.feeding.run_fed.Goals.{then-more+in_ok-more, else-more}

pub loop-round-preserved : goal.loop-round-preserved
loop-round-preserved g c =
    let n = c.args.settings.quantum in
    let id = c.args.id.0 in
    let r = c.loop-round.round in
    let old = c.args.host.now in
    let b0 = g.I.Read.remaining c.args.input.now in
    let quantum : n < 2 ^ 32 = search rules in
    let rounds : c.args.settings.rounds < 2 ^ 32 = search rules in
    let less = c.loop-round-test.true in
    let fed : FedSoFar n r (suc r) id old c.if-more.host b0 (g.I.Read.remaining c.if-more.input) c.if-more.more = elim c.if-more.branch [
      | then-more+in_ok-more w ↦
          fed_joined n r (suc r) id old w.feed_next.new.host c.if-more.host b0 (g.I.Read.remaining w.feed_next.new.input) (g.I.Read.remaining c.if-more.input)
          w.in_ok-more.more c.if-more.more w.host-is (ap g.I.Read.remaining w.input-is) w.more-is
          (fed_next c.feed_shows_later.ensures n r id old c.loop-round.host w.feed_next.new.host b0 (g.I.Read.remaining c.loop-round.input)
          (g.I.Read.remaining w.feed_next.new.input) c.loop-round.more w.in_ok-more.more w.if-more.true c.loop-round.invariant (w.in_ok-more.ensures {u = tt}).ok)
      | else-more w ↦
          fed_joined n r (suc r) id old c.loop-round.host c.if-more.host b0 (g.I.Read.remaining c.loop-round.input) (g.I.Read.remaining c.if-more.input)
          c.loop-round.more c.if-more.more w.host-is (ap g.I.Read.remaining w.input-is) w.more-is
          (fed_none n r id old c.loop-round.host b0 (g.I.Read.remaining c.loop-round.input) c.loop-round.more w.if-more.false c.loop-round.invariant)
    ] in
    let runs : SomeRuns c.if-more.host = elim c.if-more.branch [
      | then-more+in_ok-more w ↦
          subst SomeRuns (sym w.host-is)
          (fed_runs c.feed_shows_later.ensures id c.loop-round.host w.feed_next.new.host (g.I.Read.remaining c.loop-round.input)
          (g.I.Read.remaining w.feed_next.new.input) w.in_ok-more.more (w.in_ok-more.ensures {u = tt}).ok (c.any_runs.ensures.some (search rules)))
      | else-more w ↦ subst SomeRuns (sym w.host-is) (c.any_runs.ensures.some (search rules))
    ] in
    fed_round c.shows_one_thing.ensures n r c.run_round.ensures.0 id old c.if-more.host c.run_round.new.host b0 (g.I.Read.remaining c.if-more.input) c.if-more.more
    (few_steps n c.args.settings.rounds (suc r) quantum rounds (omega (arith, less))) runs fed c.run_round.ensures.1

pub returns-in_err-more-clause-err : goal.returns-in_err-more-clause-err
returns-in_err-more-clause-err g c =
    let n = c.args.settings.quantum in
    let most = c.args.settings.rounds in
    let id = c.args.id.0 in
    let r = c.loop-round.round in
    let b0 = g.I.Read.remaining c.args.input.now in
    let b2 = g.I.Read.remaining c.feed_next.new.input in
    passed_on c.from_residual.result c.in_err-more.field-0.0 (IsFeedFailure n most id c.args.host.now b0 b2) c.from_residual.ensures.1
    (not_fed n most r id c.args.host.now c.loop-round.host b0 (g.I.Read.remaining c.loop-round.input) b2 c.loop-round.more c.if-more.true c.loop-round-test.true
    (c.any_runs.ensures.some (search rules)) c.loop-round.invariant c.in_err-more.field-0.0 (c.in_err-more.ensures {u = tt}).err)

pub returns-then-not-any_runs-clause-ok : goal.returns-then-not-any_runs-clause-ok
returns-then-not-any_runs-clause-ok g c =
    fed_over c.args.settings.quantum c.args.settings.rounds c.loop-round.round c.args.id.0 c.args.host.now c.loop-round.host (g.I.Read.remaining c.args.input.now)
    (g.I.Read.remaining c.loop-round.input) c.loop-round.more c.loop-round-test.true c.loop-round.invariant (c.any_runs.ensures.none (search rules))
