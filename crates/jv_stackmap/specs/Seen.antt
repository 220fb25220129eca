-- What types of the code stand for: the same, with lists of bytes in place of slices.
use Rattle.std.specs.Prelude.{ℕ, List}
use Rattle.std.specs.Borrow.{Bor}
use Rattle.jv_text.specs.Seen.{seen_field_type}
use Rattle.jv_stackmap.specs.declared.verification.VerificationTypeOf.{VerificationTypeOf}
use Rattle.jv_stackmap.specs.declared.verification.VerificationTypeOf.TheVariants as types
use Rattle.jv_stackmap.specs.Types.{FrameType}

abbrev pub seen_type : VerificationTypeOf (Bor (List ℕ)) → FrameType
seen_type types.Top = types.Top
seen_type types.Int = types.Int
seen_type types.Long = types.Long
seen_type types.Null = types.Null
seen_type types.UninitializedThis = types.UninitializedThis
seen_type (types.Class name) = types.Class name.now
seen_type (types.Array components) = types.Array (seen_field_type components)
seen_type (types.Uninitialized offset) = types.Uninitialized offset
