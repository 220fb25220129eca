use Rattle.std.proofs.Common.{length, sym, ap, ◌∙◌, Ok}
use Rattle.std.specs.Int.{w32, cast_signed, cast_unsigned}
use Rattle.jv_asm_builder.specs.Assembly.{distance_in}
use Rattle.jv_asm_builder.proofs.Steps.{table_short}
use Rattle.jv_asm_builder.proofs.targets.put_tableswitch.Goals as goal

pub put_item-requires : goal.put_item-requires
put_item-requires c =
    table_short (length c.args.out.now.items) (cast_signed w32 (cast_unsigned w32 c.in_ok-default.default))
    (cast_signed w32 (cast_unsigned w32 c.args.bounds.0)) (cast_signed w32 (cast_unsigned w32 c.args.bounds.1)) c.deref.result.now
    (distance_in c.args.places.now c.len-at.result) c.args.targets.now
    ((c.in_ok-distances.ensures {u = tt}) ∙ ap (λ v. Ok v) (sym c.deref.ensures.value)) c.requires
