use Rattle.jv_interp_control.proofs.BodyStands.{number_within}
use Rattle.jv_interp_control.proofs.code.place_of.Goals as goal

pub method-requires : goal.method-requires
method-requires c = number_within c.args.methods.now c.args.number c.requires.program c.requires.d c.requires.code c.requires.is

pub returns : goal.returns
returns c = λ program d code h. (c.method.ensures program.world d h.are h.at).place
