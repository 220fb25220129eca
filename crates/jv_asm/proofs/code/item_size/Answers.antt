use Rattle.std.proofs.Common.{rules}
use Rattle.jv_asm.proofs.Sizes.{table_item, lookup_item}
use Rattle.jv_asm.proofs.code.item_size.Goals as goal

pub returns-in-Tableswitch-clause-size : goal.returns-in-Tableswitch-clause-size
returns-in-Tableswitch-clause-size c =
    table_item c.args.at c.args.item.now c.in-Tableswitch.field-0 c.in-Tableswitch.field-1 c.in-Tableswitch.field-2 c.in-Tableswitch.offsets _ c.in-Tableswitch.is c.tableswitch_size.ensures.size

pub returns-in-Lookupswitch-clause-size : goal.returns-in-Lookupswitch-clause-size
returns-in-Lookupswitch-clause-size c =
    lookup_item c.args.at c.args.item.now c.in-Lookupswitch.field-0 c.in-Lookupswitch.pairs _ c.in-Lookupswitch.is c.lookupswitch_size.ensures.size

pub returns-in-Wide-clause-size : goal.returns-in-Wide-clause-size
returns-in-Wide-clause-size c = search rules
