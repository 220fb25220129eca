use Rattle.jv_library.proofs.known.KnownLibrary.judge.Goals as goal

pub invariant_of-self : goal.invariant_of-self
invariant_of-self c =
    (c.requires.0, c.args.verified.now, c.requires.1, (c.in_ok-stands.ensures.stands c.args.system.now c.requires.0 c.requires.1).0 c.if-stands.true)

pub returns-then-stands : goal.returns-then-stands
returns-then-stands c = λ files are. c.in_ok-stands.ensures.stands c.args.system.now files are

pub returns-else-stands : goal.returns-else-stands
returns-else-stands c = λ files are. c.in_ok-stands.ensures.stands c.args.system.now files are
