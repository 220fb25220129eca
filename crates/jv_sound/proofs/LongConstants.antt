-- ldc2_w, and arraylength.
use Rattle.std.proofs.Common.{ℕ, ◌∷◌, Option, Some, refl}
use Rattle.std.specs.Int.{w64, cast_signed}
use Rattle.std.specs.Option.{option_map}
use Rattle.jv_stackmap.specs.declared.verification.VerificationTypeOf.TheVariants as types
use Rattle.jv_code.specs.declared.insn.Insn.TheVariants as insns
use Rattle.jv_pool.specs.declared.constant.Constant.TheVariants as constants
use Rattle.jv_pool.specs.Constants.{Entry, at_index, long_in}
use Rattle.jv_meaning_typing.specs.Environment.{current_class}
use Rattle.jv_meaning_typing.specs.Named.{long_constant_type_of}
use Rattle.jv_meaning_typing.specs.ValueRules.{pushed}
use Rattle.jv_meaning_machine.specs.Faults.{found, ◌>>=◌}
use Rattle.jv_meaning_machine.specs.Faults.Fault.{OffsetFault}
use Rattle.jv_meaning_machine.specs.Values.Value.{Long}
use Rattle.jv_meaning_machine.specs.Effects.{goes_on}
use Rattle.jv_sound.proofs.Pure.{agrees_from}
use Rattle.jv_sound.proofs.Ways.{Setting, IsSet, context_of, By, Sound, goes_ok}

module _ (x : Setting) (h : IsSet x) where
  pub pool_long_ok : (index : ℕ) → Sound x (insns.PoolLongConstant index)
  pool_long_ok index = by_entry (at_index (current_class x.frame.method).constant_pool index)
    where
      by_entry : (o : Option Entry)
          → By x (insns.PoolLongConstant index) (option_map (pushed x.given) (long_constant_type_of o))
          (found OffsetFault (long_in o) >>= λ bits. goes_on (context_of x (insns.PoolLongConstant index))
          (Long (cast_signed w64 bits) ∷ x.frame.stack))
      by_entry (Some (constants.Long high low)) =
          agrees_from (goes_ok x h (insns.PoolLongConstant index) (types.Long ∷ x.given.stack) _ refl
          (record { fits = tt; width = refl }, h.holding.stack))
      by_entry _ = record { by = tt }
