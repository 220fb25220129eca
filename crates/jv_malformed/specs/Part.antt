-- The part of bytes at which they stop being a class file (JVMS 4.1).
use Rattle.std.specs.Prelude.{◌≡◌, ◌⊎◌, ℕ, ◌+◌, ◌<◌, Bool, ◌&&◌, List, [], ◌++◌, Some, IsTrue, length, slice_get}
use Rattle.std.specs.List.{All}
use Rattle.jv_format.specs.Format.{half}
use Rattle.jv_pool.specs.Constants.{Entry, constant_bytes, constant_fits, pool_count, at_index, kind_at}
use Rattle.jv_pool.specs.Rules.{KeepsRules, IsPool}
use Rattle.jv_class_structure.specs.Attributes.{has_utf8_name, field_attributes_keep_rules, method_attributes_keep_rules}
use Rattle.jv_class_structure.specs.Parts.{IsBehindVersion}
use Rattle.jv_class_structure.specs.Structure.{AttributeInfo, FieldInfo, MethodInfo, ClassStructure, attribute_bytes, field_bytes, method_bytes, attribute_fits, field_fits, method_fits, magic}
use Rattle.jv_class.specs.Rules.{KeepsFieldRules, KeepsMethodRules, ItselfKeepsRules, MembersKeepRules, AreMembersUnlike}
use Rattle.jv_malformed.specs.First.{IsFirstBreach, BeginsWithItems, IsFirstMissing}
use Rattle.jv_malformed.specs.declared.pool.FaultyPool.{FaultyPool}
use Rattle.jv_malformed.specs.declared.pool.FaultyPool.TheVariants.{Count, Missing, Broken}
use Rattle.jv_malformed.specs.declared.structure.FaultyStructure.{FaultyStructure}
use Rattle.jv_malformed.specs.declared.structure.FaultyStructure.TheVariants as structures
use Rattle.jv_malformed.specs.declared.rules.FaultyRules.{FaultyRules}
use Rattle.jv_malformed.specs.declared.rules.FaultyRules.TheVariants.{Class, Field, Method, Alike}
use Rattle.jv_malformed.specs.declared.part.FaultyPart.{FaultyPart}
use Rattle.jv_malformed.specs.declared.part.FaultyPart.TheVariants.{Start, Constants, Structure, Rules}

-- the bytes begin with the magic number and a version, and these are the ones behind
pub record BeginsBefore (rest bytes : List ℕ) : Type 0 where
  pub minor : ℕ
  pub major : ℕ
  pub minor_fits : minor < 65536
  pub major_fits : major < 65536
  pub begins : bytes ≡ magic ++ half.spelling minor ++ half.spelling major ++ rest

-- ---- the constant pool (4.4)

-- bytes begin with a constant pool
pub record BeginsWithPool (bytes : List ℕ) : Type 0 where
  pub pool : List Entry
  pub front : List ℕ
  pub rest : List ℕ
  pub begins : bytes ≡ front ++ rest
  pub is_pool : IsPool front pool

-- they begin with a count and with these constants, which may break their rules (4.1)
abbrev pub BeginsWithConstants : (count : ℕ) → List Entry → (rest bytes : List ℕ) → Type 0
BeginsWithConstants count constants rest bytes = BeginsWithItems constant_bytes constant_fits count constants rest bytes

-- The count is cut off, or one less than the constants that stand there need: it is 0 (4.1), or the second index of a Long or a Double
-- is beyond it (4.4.5). Or the constant at an index isn't spelled: behind those before it none is. Or all are, and the one at an index,
-- of this kind, is the first that breaks the rule of its kind.
abbrev pub IsFaultyPool : List ℕ → FaultyPool → Type 0
IsFaultyPool bytes Count =
    (length bytes < 2) ⊎ ((count : ℕ) × (constants : List Entry) × (rest : List ℕ) × BeginsWithConstants count constants rest bytes
    × (pool_count constants ≡ count + 1))
IsFaultyPool bytes (Missing index) = IsFirstMissing constant_bytes constant_fits pool_count index bytes
IsFaultyPool bytes (Broken index kind) =
    (pool : List Entry) × (rest : List ℕ) × BeginsWithConstants (pool_count pool) pool rest bytes
    × (kind_at pool index ≡ Some kind) × IsFirstBreach (KeepsRules pool) (at_index pool) index

-- ---- what stands behind the pool (4.1)

-- numbers of fields, methods and attributes fit, and the attributes are those that may stand there (4.5 to 4.7)
abbrev pub field_stands : List Entry → FieldInfo → Bool
field_stands pool f = field_fits f && field_attributes_keep_rules pool f

abbrev pub method_stands : List Entry → MethodInfo → Bool
method_stands pool m = method_fits m && method_attributes_keep_rules pool m

abbrev pub attribute_stands : List Entry → AttributeInfo → Bool
attribute_stands pool a = attribute_fits a && has_utf8_name pool a

-- bytes begin with as many items as their count says
abbrev pub BeginsWithTable : {A : Type 0} → (A → List ℕ) → (A → Bool) → (rest bytes : List ℕ) → Type 0
BeginsWithTable {A} spelling may_stand rest bytes =
    (items : List A) × BeginsWithItems spelling may_stand (length items) items rest bytes

-- with the access flags, the indices of the class and of its superclass, and the interfaces
pub record BeginsWithHead (rest bytes : List ℕ) : Type 0 where
  pub access_flags : ℕ
  pub this_class : ℕ
  pub super_class : ℕ
  pub behind : List ℕ
  pub fit : IsTrue (half.fits access_flags && half.fits this_class && half.fits super_class)
  pub begins : bytes ≡ half.spelling access_flags ++ half.spelling this_class ++ half.spelling super_class ++ behind
  pub interfaces : BeginsWithTable half.spelling half.fits rest behind

-- with these and the fields, and with the methods too
abbrev pub BeginsWithFields : List Entry → (rest bytes : List ℕ) → Type 0
BeginsWithFields pool rest bytes =
    (fields : List ℕ) × BeginsWithHead fields bytes × BeginsWithTable field_bytes (field_stands pool) rest fields

abbrev pub BeginsWithMethods : List Entry → (rest bytes : List ℕ) → Type 0
BeginsWithMethods pool rest bytes =
    (methods : List ℕ) × BeginsWithFields pool methods bytes × BeginsWithTable method_bytes (method_stands pool) rest methods

-- the first that is at fault of these; at the end it is the attributes of the class, or that something follows them
abbrev pub IsFaultyStructure : List Entry → List ℕ → FaultyStructure → Type 0
IsFaultyStructure pool bytes structures.Head = (rest : List ℕ) → BeginsWithHead rest bytes → ⊥
IsFaultyStructure pool bytes structures.FieldCount = (rest : List ℕ) × BeginsWithHead rest bytes × (length rest < 2)
IsFaultyStructure pool bytes (structures.Field place) =
    (rest : List ℕ) × BeginsWithHead rest bytes × IsFirstMissing field_bytes (field_stands pool) length place rest
IsFaultyStructure pool bytes structures.MethodCount = (rest : List ℕ) × BeginsWithFields pool rest bytes × (length rest < 2)
IsFaultyStructure pool bytes (structures.Method place) =
    (rest : List ℕ) × BeginsWithFields pool rest bytes × IsFirstMissing method_bytes (method_stands pool) length place rest
IsFaultyStructure pool bytes structures.End =
    (rest : List ℕ) × BeginsWithMethods pool rest bytes × (¬ BeginsWithTable attribute_bytes (attribute_stands pool) [] rest)

abbrev pub IsFaultyBehindPool : List ℕ → FaultyStructure → Type 0
IsFaultyBehindPool bytes fault = (b : BeginsWithPool bytes) × IsFaultyStructure b.pool b.rest fault

-- ---- names, types and flags, where a structure stands (4.1, 4.5, 4.6)

-- the rules of the class itself come first, then those of each field, those of each method, and that no two of these are alike
abbrev pub IsFaultyRules : ClassStructure → FaultyRules → Type 0
IsFaultyRules c Class = ¬ ItselfKeepsRules c
IsFaultyRules c (Field place) =
    ItselfKeepsRules c × IsFirstBreach (KeepsFieldRules c.constant_pool c.access_flags) (slice_get c.fields) place
IsFaultyRules c (Method place) =
    ItselfKeepsRules c × All (KeepsFieldRules c.constant_pool c.access_flags) c.fields
    × IsFirstBreach (KeepsMethodRules c.constant_pool c.major_version c.access_flags) (slice_get c.methods) place
IsFaultyRules c Alike = ItselfKeepsRules c × MembersKeepRules c × (¬ AreMembersUnlike c)

-- ---- all parts

-- the first that is at fault of the parts behind a version: the pool, what stands behind it, or the rules of what stands there
abbrev pub IsFaultyBehind : (major : ℕ) → List ℕ → FaultyPart → Type 0
IsFaultyBehind major rest Start = ⊥
IsFaultyBehind major rest (Constants fault) = IsFaultyPool rest fault
IsFaultyBehind major rest (Structure fault) = IsFaultyBehindPool rest fault
IsFaultyBehind major rest (Rules fault) = (c : ClassStructure) × IsBehindVersion major rest c × IsFaultyRules c fault

-- of all parts: the start is at fault where no version is there
abbrev pub IsFaultyPart : List ℕ → FaultyPart → Type 0
IsFaultyPart bytes Start = (rest : List ℕ) → BeginsBefore rest bytes → ⊥
IsFaultyPart bytes part = (rest : List ℕ) × (b : BeginsBefore rest bytes) × IsFaultyBehind b.major rest part
