use Rattle.std.proofs.Common.{length}
use Rattle.jv_asm.proofs.Sizes.{few_pairs}
use Rattle.jv_asm.proofs.code.put_item.Goals as goal

pub put_lookupswitch-requires : goal.put_lookupswitch-requires
put_lookupswitch-requires c = few_pairs (length c.args.out.now.items) c.args.item.now c.in-Lookupswitch.default c.in-Lookupswitch.pairs c.in-Lookupswitch.is c.requires
