-- Objects that are not initialized, by where the `new` stands that made them.
use Rattle.std.specs.Prelude.{ℕ, ⊤, Bool, false, ◌<◌, nat_le}
use Rattle.jv_stackmap.specs.declared.verification.VerificationTypeOf.TheVariants as types
use Rattle.jv_verify_types.specs.Numbered.{Item}

-- no object of a `new` at this offset or behind it
abbrev pub IsBefore : ℕ → Item → Type 0
IsBefore end (types.Uninitialized offset) = offset < end
IsBefore end _ = ⊤

-- the object of such a `new`
abbrev pub is_past : ℕ → Item → Bool
is_past end (types.Uninitialized offset) = nat_le end offset
is_past end _ = false
