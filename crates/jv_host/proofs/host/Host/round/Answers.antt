use Rattle.std.proofs.Common.{◌≡◌, ℕ, Err, IsErr, length, refl, sym, ap, subst, ◌∙◌, arith}
use Rattle.jv_limits.specs.declared.fault.TurnFault.{TurnFault}
use Rattle.jv_limits.specs.declared.fault.TurnFault.TheVariants.{NoGuest, HostMemory}
use Rattle.jv_host.specs.Calls.{HadTurns}
use Rattle.jv_host.proofs.Rounding.{no_turns, one_more_turn, is_there}
use Rattle.jv_host.proofs.host.Host.round.Goals as goal

pub loop-id-init : goal.loop-id-init
loop-id-init g c = no_turns c.args.quantum c.args.self.now

pub loop-id-preserved : goal.loop-id-preserved
loop-id-preserved g c =
    one_more_turn c.args.quantum c.loop-id.id c.in_default.field-0 c.args.self.now c.loop-id.self c.turn.new.self c.loop-id.invariant
    c.in_default.ensures.ok

pub returns-clause-ok : goal.returns-clause-ok
returns-clause-ok g c =
    let over = c.loop-id-test.false in
    let count = c.count-id-end.ensures in
    let same : c.loop-id.id ≡ length c.args.self.now = omega (arith, over, count) in
    subst (λ (m : ℕ). HadTurns c.args.quantum m c.args.self.now c.loop-id.self) same c.loop-id.invariant

pub returns-in-Err-clause-memory : goal.returns-in-Err-clause-memory
returns-in-Err-clause-memory g c = λ k e.
    let same : c.in-Err.fault ≡ HostMemory k = cc in
    record {
      id = c.loop-id.id;
      before = c.loop-id.self;
      turns = c.loop-id.invariant;
      cut = c.turn.ensures.memory k (c.in-Err.is ∙ ap (λ (f : TurnFault). Err f) same);
    }

pub returns-in-Err-clause-known : goal.returns-in-Err-clause-known
returns-in-Err-clause-known g c = λ e.
    let same : c.in-Err.fault ≡ NoGuest = cc in
    let less = c.loop-id-test.true in
    let count = c.count-id-end.ensures in
    let held = c.loop-id.invariant.same_count in
    is_there c.loop-id.self c.loop-id.id (omega (arith, less, count, held))
    (c.turn.ensures.no_guest.0 (c.in-Err.is ∙ ap (λ (f : TurnFault). Err f) same))

pub returns-in-Err-clause-sure : goal.returns-in-Err-clause-sure
returns-in-Err-clause-sure g c = λ sure.
    let less = c.loop-id-test.true in
    let count = c.count-id-end.ensures in
    let held = c.loop-id.invariant.same_count in
    absurd
    (is_there c.loop-id.self c.loop-id.id (omega (arith, less, count, held))
    (c.turn.ensures.no_guest.0 (c.turn.ensures.sure sure (subst IsErr (sym c.in-Err.is) refl))))
