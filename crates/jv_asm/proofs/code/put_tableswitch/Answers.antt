use Rattle.std.proofs.Common.{◌≡◌, ℤ, ◌∷◌, length, ◌++◌, subst}
use Rattle.std.specs.Int.{w32, cast_signed, cast_unsigned}
use Rattle.std.specs.List.{flat_map}
use Rattle.std.proofs.lemmas.Int.{to_z-of_z}
use Rattle.jv_code.specs.Numbers.{signed32}
use Rattle.jv_asm.specs.Items.{zeros}
use Rattle.jv_asm.proofs.Sizes.{switch_written}
use Rattle.jv_asm.proofs.code.put_tableswitch.Goals as goal

-- an argument is passed by its bits
pub returns : goal.returns
returns c =
    let start = c.args.out.now.items in
    let first = c.put_switch.new.out.items in
    let head = subst (λ (z : ℤ). first ≡ start ++ (170 ∷ (zeros (length start) ++ signed32.spelling z))) (to_z-of_z w32 c.args.default c.ranges.default) c.in_ok-put_switch.ensures in
    let low = subst (λ (z : ℤ). c.put_bounds.new.out.items ≡ first ++ (signed32.spelling z ++ signed32.spelling (cast_signed w32 (cast_unsigned w32 c.args.high))))
    (to_z-of_z w32 c.args.low c.ranges.low) c.in_ok-put_bounds.ensures in
    let both = subst (λ (z : ℤ). c.put_bounds.new.out.items ≡ first ++ (signed32.spelling c.args.low ++ signed32.spelling z)) (to_z-of_z w32 c.args.high c.ranges.high) low in
    switch_written c.put_distances.result c.put_distances.new.out.items c.put_bounds.new.out.items first start
    (zeros (length start)) (signed32.spelling c.args.default) (signed32.spelling c.args.low ++ signed32.spelling c.args.high)
    (flat_map signed32.spelling c.args.offsets.now) head both c.put_distances.ensures
