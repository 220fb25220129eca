use Rattle.std.proofs.Common.{arith}
use Rattle.jv_stackmap.proofs.Packing.{count_is}
use Rattle.jv_stackmap.proofs.nodes.Nodes.next_number.Goals as goal

pub returns : goal.returns
returns c =
    omega (arith, c.len-count.ensures, c.self.inside.nodes.ok.0, count_is c.self.inside.far.items c.self.inside.nodes.items c.args.self.now c.self.view_is)
