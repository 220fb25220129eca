use Rattle.std.proofs.Common.{◌≡◌, Bool, true, false, IsTrue, ◌-◌, refl, subst, arith}
use Rattle.jv_interp.specs.Showing.{IsAnswered}
use Rattle.jv_host.proofs.Turning.{had_turn, had_cut_turn, goes, admission_now, ended_now}
use Rattle.jv_host.proofs.admission.Admitted.turn.Goals as goal

pub returns-clause-goes : goal.returns-clause-goes
returns-clause-goes g c =
    goes c.one_judged.ensures c.ended_guest_stays.ensures c.args.self.now c.turn-turn.new.self (c.min-most.result - c.turn-turn.result.left) _ _ c.turn-turn.ensures.went

pub returns-clause-after : goal.returns-clause-after
returns-clause-after g c =
    admission_now c.one_judged.ensures c.ended_guest_stays.ensures c.args.self.now c.turn-turn.new.self (c.min-most.result - c.turn-turn.result.left) _ _ c.turn-turn.ensures.went
    c.requires.held.0 c.requires.held.1

pub returns-clause-had : goal.returns-clause-had
returns-clause-had g c = λ whole.
    let most = c.turn-turn.ensures.most in
    let least = c.min-most.ensures in
    let same = c.from.ensures in
    let steps = c.steps.ensures in
    let few = c.ranges.n.fits in
    had_turn c.one_judged.ensures c.ended_guest_stays.ensures c.args.self.now c.turn-turn.new.self (c.min-most.result - c.turn-turn.result.left) _ _ c.turn-turn.ensures.went
    c.requires.held.0 c.requires.held.1 c.args.n c.turn-turn.result.left c.turn-turn.ensures.running
    (λ some. subst (λ (b : Bool). IsAnswered c.turn-turn.new.self b) (c.is_cut.ensures.over whole some) c.is_running.ensures)
    (omega (arith, most, least, same)) (λ none less. omega (arith, none, less, most, least, same, steps)) (omega (arith, most, least, same, steps))

pub returns-clause-cut : goal.returns-clause-cut
returns-clause-cut g c = λ cut.
    let most = c.turn-turn.ensures.most in
    let least = c.min-most.ensures in
    let same = c.from.ensures in
    let steps = c.steps.ensures in
    let left = c.is_cut.ensures.left cut in
    had_cut_turn c.one_judged.ensures c.ended_guest_stays.ensures c.args.self.now c.turn-turn.new.self (c.min-most.result - c.turn-turn.result.left) _ _ c.turn-turn.ensures.went
    c.requires.held.0 c.requires.held.1 c.args.n
    (subst (λ (b : Bool). IsAnswered c.turn-turn.new.self b) (c.is_cut.ensures.running cut) c.is_running.ensures)
    (omega (arith, most, least, same, left)) (omega (arith, most, least, same, steps, left))

pub returns-clause-sure : goal.returns-clause-sure
returns-clause-sure g c = λ sure. by_result c.is_cut.result refl sure
  where
    by_result : (r : Bool) → c.is_cut.result ≡ r → IsTrue g.S.Store.SURE → c.is_cut.result ≡ false
    by_result false is sure = is
    by_result true is sure =
        let cut : IsTrue c.is_cut.result = is in
        let runs = c.is_cut.ensures.running cut in
        let stops =
        ended_now c.one_judged.ensures c.ended_guest_stays.ensures c.args.self.now c.turn-turn.new.self (c.min-most.result - c.turn-turn.result.left) _ _ c.turn-turn.ensures.went
        c.requires.held.0 c.requires.held.1 c.is_running.result c.is_running.ensures
        (c.turn-turn.ensures.ended (c.is_cut.ensures.left cut) (c.turn-turn.ensures.sure sure)) in
        absurd cc
