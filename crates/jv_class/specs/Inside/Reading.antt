-- What the functions that read and test a class say of its parts.
use Rattle.std.specs.Prelude.{◌≡◌, ◌≢◌, ℕ, ◌+◌, ◌*◌, ◌<◌, List, Some, Result, Ok, Err, ◌==◌}
use Rattle.jv_format.specs.Format.{Format, half, quad}
use Rattle.jv_format.specs.Readers.{both, such_that}
use Rattle.jv_pool.specs.Constants.{Entry, at_index, utf8_at}
use Rattle.jv_class_structure.specs.Structure.{ClassStructure}
use Rattle.jv_class_structure.specs.Parts.{IsBehindVersion, MethodSeen}
use Rattle.jv_class_structure.specs.Seen.{seen_field}
use Rattle.jv_class_structure.specs.declared.member.Field.{Field}
use Rattle.jv_class.specs.Rules.{KeepsClassRules}
use Rattle.jv_class.specs.Supported.{IsSupportedConstant}
use Rattle.jv_class.specs.declared.fault.ClassFault.{ClassFault}
use Rattle.jv_class.specs.declared.fault.ClassFault.TheVariants.{OutOfMemory}

abbrev pub Three : Type 0
Three = ℕ × (ℕ × ℕ)

-- CAFEBABE in hexadecimal
abbrev pub magic_number : Format ℕ
magic_number = such_that (λ k. k == 3405691582) quad

-- the magic number, the minor and the major version
abbrev pub header : Format Three
header = both magic_number (both half half)

-- the bytes behind the version of a well-formed class, which is this major version and 0
pub record IsWholeBehind (major : ℕ) (bytes : List ℕ) (c : ClassStructure) : Type 0 where
  pub behind : IsBehindVersion major bytes c
  pub rules : KeepsClassRules c

-- the constant at an index, if there is one, is supported
abbrev pub IsSupportedAt : List Entry → ℕ → Type 0
IsSupportedAt pool index = (c : Entry) → at_index pool index ≡ Some c → IsSupportedConstant pool c

-- ---- numbers of pairs of texts

-- the first index with the text of an index
pub record IsFirst (pool : List Entry) (index first : ℕ) : Type 0 where
  pub same : utf8_at pool first ≡ utf8_at pool index
  pub least : (i : ℕ) → i < first → utf8_at pool i ≢ utf8_at pool index

pub record IsKeyOf (pool : List Entry) (name descriptor key : ℕ) : Type 0 where
  pub first_name : ℕ
  pub first_descriptor : ℕ
  pub small : first_descriptor < 65536
  pub is : key ≡ first_name * 65536 + first_descriptor
  pub name_first : IsFirst pool name first_name
  pub descriptor_first : IsFirst pool descriptor first_descriptor

abbrev pub IsFieldKey : List Entry → Field → ℕ → Type 0
IsFieldKey pool f key = IsKeyOf pool (seen_field f).name_index (seen_field f).descriptor_index key

abbrev pub IsMethodKey : List Entry → MethodSeen → ℕ → Type 0
IsMethodKey pool m key = IsKeyOf pool m.name_index m.descriptor_index key

-- a refusal is for want of memory
abbrev pub FailsForMemory : {A : Type 0} → Result A ClassFault → Type 0
FailsForMemory (Ok x) = Unit {0}
FailsForMemory (Err e) = e ≡ OutOfMemory
