use Rattle.jv_interp.proofs.OneStep.{took_one, took_none}
use Rattle.jv_interp.proofs.guest.Guest.step.Goals as goal

pub returns-then-turn-clause-refused : goal.returns-then-turn-clause-refused
returns-then-turn-clause-refused g c =
    took_none _ _ _ _ c.turn-turn.result.left c.turn-turn.ensures.most (c.turn-turn.ensures.some_left c.if-turn.true) c.turn-turn.ensures.went

pub returns-clause-stepped : goal.returns-clause-stepped
returns-clause-stepped g c =
    took_one c.shows_one_thing.ensures _ _ _ _ c.requires.can c.requires.running c.turn-turn.result.left c.turn-turn.ensures.most c.turn-turn.ensures.went
    (λ some. c.turn-turn.ensures.ended some c.if-turn.false)
