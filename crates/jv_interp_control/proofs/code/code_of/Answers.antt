use Rattle.jv_interp_control.proofs.BodyStands.{number_within, body_code}
use Rattle.jv_interp_control.proofs.code.code_of.Goals as goal

pub method-requires : goal.method-requires
method-requires c = number_within c.args.methods.now c.args.number c.requires.program c.requires.d c.requires.code c.requires.is

pub returns : goal.returns
returns c = λ program d code h.
    body_code d code c.method.result.body c.in-Some.body c.in-Some.is (c.method.ensures program.world d h.are h.at).body h.has_code
