-- Objects that are not initialized, by the `new` that made them.
use Rattle.std.specs.Prelude.{ℕ, Bool, false, ◌==◌}
use Rattle.jv_stackmap.specs.declared.verification.VerificationTypeOf.TheVariants as types
use Rattle.jv_verify_types.specs.Numbered.{Item}

-- what the `new` at an offset made
abbrev pub is_object_of : Item → ℕ → Bool
is_object_of (types.Uninitialized o) offset = o == offset
is_object_of _ offset = false
