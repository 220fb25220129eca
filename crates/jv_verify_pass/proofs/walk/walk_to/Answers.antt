use Rattle.jv_verify_pass.proofs.walk.walk_to.Goals as goal

pub returns-clause-found : goal.returns-clause-found
returns-clause-found c = λ env is. c.walk.ensures.found env is (c.in_ok-seen.ensures.begun env is)

pub walk-requires-clause-seen : goal.walk-requires-clause-seen
walk-requires-clause-seen c = c.in_ok-seen.ensures.seen
