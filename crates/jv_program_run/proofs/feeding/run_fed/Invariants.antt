use Rattle.jv_program_run.proofs.FedRounds.{FedSoFar}
use Rattle.jv_program_run.proofs.feeding.run_fed.Given as goal

abbrev pub invariant-loop-round : goal.invariant-loop-round
invariant-loop-round g l =
    FedSoFar l.settings.quantum l.round l.round l.id.0 l.fn.host l.host (g.I.Read.remaining l.fn.input) (g.I.Read.remaining l.input) l.more
