-- The classes that constants name.
use Rattle.std.specs.Prelude.{ℕ, List, Option, Some, None, ◌≡◌}
use Rattle.jv_format.specs.Format.{◌>>=◌}
use Rattle.jv_pool.specs.Constants.{Entry}
use Rattle.jv_stackmap.specs.declared.verification.VerificationTypeOf.TheVariants as types
use Rattle.jv_stackmap.specs.Types.{FrameType}
use Rattle.jv_verify_types.specs.PoolTypes.{class_type_at}
use Rattle.std.specs.Option.{option_map}
use Rattle.jv_verify_types.specs.Typed.{name_at}

-- the class that a type is an object of
abbrev pub class_of_type : Option FrameType → Option (List ℕ)
class_of_type (Some (types.Class name)) = Some name
class_of_type _ = None

-- the class, and no array, that the Class constant at an index names (4.4.1)
abbrev pub class_of_constant : List Entry → ℕ → Option (List ℕ)
class_of_constant pool index = class_of_type (class_type_at pool index)

-- the same of an index that may be none
abbrev pub class_of_constant_at : List Entry → Option ℕ → Option (List ℕ)
class_of_constant_at pool index = index >>= class_of_constant pool

-- a number stands for the name, if there is one
abbrev pub IsNameOf : List (List ℕ) → Option ℕ → Option (List ℕ) → Type 0
IsNameOf names number name = option_map (name_at names) number ≡ name
