use Rattle.std.proofs.Common.{◌≡◌, ℕ, Err, refl, ap, subst, ◌∙◌, arith}
use Rattle.jv_limits.specs.declared.fault.TurnFault.{TurnFault}
use Rattle.jv_limits.specs.declared.fault.TurnFault.TheVariants.{HostMemory}
use Rattle.jv_host.specs.Calls.{Rounds}
use Rattle.jv_host.proofs.Rounding.{one_more_round}
use Rattle.jv_host.proofs.host.Host.run_watched.Goals as goal

pub loop-round-init : goal.loop-round-init
loop-round-init g c = refl

pub loop-round-preserved : goal.loop-round-preserved
loop-round-preserved g c =
    one_more_round c.args.quantum c.loop-round.round c.args.self.now c.loop-round.self c.round.new.self c.loop-round.invariant
    (c.any_runs.ensures.some c.if-not-any_runs.false) c.in_default.ensures.ok

pub returns-then-not-any_runs-clause-ok : goal.returns-then-not-any_runs-clause-ok
returns-then-not-any_runs-clause-ok g c =
    let less = c.loop-round-test.true in
    record {
      most = omega (arith, less);
      went = c.loop-round.invariant;
      full = λ fewer. c.any_runs.ensures.none c.if-not-any_runs.true;
    }

pub returns-clause-ok : goal.returns-clause-ok
returns-clause-ok g c =
    let over = c.loop-round-test.false in
    let same : c.loop-round.round ≡ c.args.rounds = omega (arith, over) in
    record {
      most = omega arith;
      went = subst (λ (m : ℕ). Rounds c.args.quantum m c.args.self.now c.loop-round.self) same c.loop-round.invariant;
      full = λ fewer. absurd (omega (arith, fewer));
    }

pub returns-in-Err-clause-memory : goal.returns-in-Err-clause-memory
returns-in-Err-clause-memory g c = λ k e.
    let same : c.in-Err.fault ≡ HostMemory k = cc in
    record {
      whole = c.loop-round.round;
      early = c.loop-round-test.true;
      before = c.loop-round.self;
      went = c.loop-round.invariant;
      running = c.any_runs.ensures.some c.if-not-any_runs.false;
      cut = c.round.ensures.memory k (c.in-Err.is ∙ ap (λ (f : TurnFault). Err f) same);
    }
