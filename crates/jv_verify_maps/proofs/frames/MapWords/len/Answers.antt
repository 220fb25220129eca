use Rattle.std.proofs.Common.{arith}
use Rattle.jv_verify_maps.proofs.Views.{len_is}
use Rattle.jv_verify_maps.proofs.frames.MapWords.len.Goals as goal

pub returns : goal.returns
returns c = omega (arith, c.len.ensures, len_is c.self.inside.words.items c.self.inside.frames.items c.args.self.now c.self.invariant.fit c.self.view_is)
