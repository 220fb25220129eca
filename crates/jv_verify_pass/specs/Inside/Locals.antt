-- Local variables and items of a stack that are set, and those that are left.
use Rattle.std.specs.Prelude.{◌≡◌, ℕ, Bool, true, false, List, ◌++◌, replicate, reverse}
use Rattle.std.specs.List.{flat_map}
use Rattle.jv_stackmap.specs.declared.verification.VerificationTypeOf.TheVariants as types
use Rattle.jv_stackmap.specs.Frames.{type_by_words}
use Rattle.jv_stackmap.specs.Types.{FrameType, words}
use Rattle.jv_verify_types.specs.Numbered.{Item}

-- Local variables that take the types of entries, the first first, some of which are left, from the last on.
pub record SetBehind (now whole left : List FrameType) (at : ℕ) : Type 0 where
  pub rest : List FrameType
  pub set : now ≡ replicate at types.Top ++ rest
  pub all : whole ≡ flat_map type_by_words left ++ rest
  pub counted : words left ≡ at

-- Items that were put on a stack, the top first, and those that are left.
abbrev pub PushedSoFar : List FrameType → List FrameType → List FrameType → Type 0
PushedSoFar stack left whole = whole ≡ reverse stack ++ left

abbrev pub is_this : Item → Bool
is_this types.UninitializedThis = true
is_this _ = false
