use Rattle.jv_verify.proofs.verified.verify.Goals as goal

pub invariant_of-result : goal.invariant_of-result
invariant_of-result c =
    let are = c.requires.2 in
    (are.given, are.contents, record { world = are.world; host = are.host_is; verdicts = c.in_ok-verdicts.ensures c.requires.0 c.requires.1 are })

pub returns : goal.returns
returns c = λ library files are. record { world = are.world; host = are.host_is; verdicts = c.in_ok-verdicts.ensures library files are }
