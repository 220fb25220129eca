-- The parts of a class file that are beyond this host's profile, and which of them is named (own).
use Rattle.std.specs.Prelude.{◌≡◌, ℕ, ◌+◌, ◌*◌, Bool, false, ◌&&◌, ◌||◌, ◌==◌, nat_lt, List, Some, slice_get}
use Rattle.jv_class_structure.specs.Parts.{CodeSeen, FieldSeen, MethodSeen, fields_of, methods_of}
use Rattle.jv_class_structure.specs.Structure.{ClassStructure}
use Rattle.jv_class.specs.ClassFile.{IsClassFile}
use Rattle.jv_class.specs.Supported.{AreSupportedFlags, IsSupportedType}
use Rattle.jv_code.specs.Unsupported.{IsUnsupportedAt}
use Rattle.jv_meaning_world.specs.FileContent.{IsContent}
use Rattle.jv_meaning_world.specs.declared.content.Content.TheVariants.{MoreThanProfile}
use Rattle.jv_beyond.specs.Uses.{IsConstantBeyond, IsUse}
use Rattle.jv_beyond.specs.declared.beyond.Beyond.{Beyond}
use Rattle.jv_beyond.specs.declared.beyond.Beyond.TheVariants.{Instruction, Use, Field, MethodFlags, MethodType, Constant}

-- ---- each part

-- an item stands at a place, and P does not hold of it
abbrev pub FailsAt : {A : Type 0} → (A → Type 0) → List A → (place : ℕ) → Type 0
FailsAt {A} P items place = (item : A) × (slice_get items place ≡ Some item) × (¬ P item)

-- the code of a method has instructions of the profile, and then, at the offset, one that it leaves out (6.5)
pub record IsCodeBeyond (m : MethodSeen) (offset : ℕ) : Type 0 where
  pub body : CodeSeen
  pub has_code : m.code ≡ Some body
  pub at : IsUnsupportedAt body.code offset

-- fields and methods by their places in the file, the first at 0 (4.5, 4.6), and constants by their indices (4.4)
abbrev pub IsBeyond : ClassStructure → Beyond → Type 0
IsBeyond c (Instruction method offset) =
    (m : MethodSeen) × (slice_get (methods_of c) method ≡ Some m) × IsCodeBeyond m offset
IsBeyond c (Use method offset) =
    (m : MethodSeen) × (slice_get (methods_of c) method ≡ Some m) × IsUse c.constant_pool m offset
IsBeyond c (Field place) = FailsAt (λ (f : FieldSeen). IsSupportedType c.constant_pool f.descriptor_index) (fields_of c) place
IsBeyond c (MethodFlags place) =
    FailsAt (λ (m : MethodSeen). AreSupportedFlags c.constant_pool m.name_index m.access_flags) (methods_of c) place
IsBeyond c (MethodType place) =
    FailsAt (λ (m : MethodSeen). IsSupportedType c.constant_pool m.descriptor_index) (methods_of c) place
IsBeyond c (Constant index) = IsConstantBeyond c.constant_pool index

-- ---- the one that is named

-- instructions first, since they have lines of source; then fields, methods, and constants, of which source shows least
abbrev pub rank : Beyond → ℕ
rank (Instruction method offset) = 0
rank (Use method offset) = 1
rank (Field place) = 2
rank (MethodFlags place) = 3
rank (MethodType place) = 4
rank (Constant index) = 5

-- of instructions the method's place; of a use the offset behind it, which is below 65,536 (4.7.3)
abbrev pub place_of : Beyond → ℕ
place_of (Instruction method offset) = method
place_of (Use method offset) = method * 65536 + offset
place_of (Field place) = place
place_of (MethodFlags place) = place
place_of (MethodType place) = place
place_of (Constant index) = index

abbrev pub comes_before : Beyond → Beyond → Bool
comes_before a b = nat_lt (rank a) (rank b) || (rank a == rank b && nat_lt (place_of a) (place_of b))

-- a part that is beyond the profile, before which comes no other
pub record IsFirstBeyond (c : ClassStructure) (part : Beyond) : Type 0 where
  pub is : IsBeyond c part
  pub first : (other : Beyond) → IsBeyond c other → comes_before other part ≡ false

-- A law: a class file with more than the profile has such a part.
abbrev pub SomeIsBeyond : Type 0
SomeIsBeyond =
    (bytes : List ℕ) (c : ClassStructure) → IsClassFile bytes c → IsContent bytes MoreThanProfile
    → ((part : Beyond) → IsBeyond c part → ⊥) → ⊥
