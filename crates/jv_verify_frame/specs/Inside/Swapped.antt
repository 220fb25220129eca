-- Objects that are not initialized, among types by number.
use Rattle.std.specs.Prelude.{Bool, true, false, ◌==◌, if◌then◌else◌}
use Rattle.jv_stackmap.specs.declared.verification.VerificationTypeOf.TheVariants as types
use Rattle.jv_verify_types.specs.Numbered.{Item}

abbrev pub same_object : Item → Item → Bool
same_object types.UninitializedThis types.UninitializedThis = true
same_object (types.Uninitialized o) (types.Uninitialized p) = o == p
same_object _ _ = false

-- a type, or another in the place of an object's
abbrev pub swapped : Item → Item → Item → Item
swapped object by item = if same_object object item then by else item
