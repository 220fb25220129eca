-- A class in the making (JVMS 4.1, 4.5, 4.6): the structure so far, and what each call adds to it.
use Rattle.std.specs.Prelude.{◌≡◌, ◌⊎◌, ℕ, ◌/◌, ◌%◌, ℤ, List, [], ◌∷◌, ◌++◌, Option, Some, None, Ok, Err, IsTrue, codes}
use Rattle.std.specs.Int.{w64, cast_unsigned, w32}
use Rattle.jv_pool.specs.declared.constant.Constant.TheVariants.{Utf8, Long, Class, Integer}
use Rattle.jv_pool.specs.Constants.{Entry, pool_fits}
use Rattle.jv_class_structure.specs.Structure.{AttributeInfo, Code, FieldInfo, MethodInfo, ClassStructure}
use Rattle.jv_asm_builder.specs.declared.class_builder.MethodBuilder.{MethodBuilder}
use Rattle.jv_asm_builder.specs.declared.fault.BuilderFault.{BuilderFault}
use Rattle.jv_asm_builder.specs.declared.fault.BuilderFault.TheVariants.{TooLarge, OutOfMemory}
use Rattle.jv_asm_builder.specs.Assembly.{no_steps, AssembledCode, assembled_code}
use Rattle.jv_asm_builder.specs.Added.{IsAdded, IsNamedAdded, AreClassesAdded, AreTextsAdded, IsGrownPool, IsMemberNamed, IsMemberAdded, HasRoom, HasRoomForTwo}

-- ---- structures with one part changed

abbrev pub with_pool : ClassStructure → List Entry → ClassStructure
with_pool c pool = record c { constant_pool = pool }

abbrev pub with_major : ClassStructure → ℕ → ClassStructure
with_major c major = record c { major_version = major }

abbrev pub with_interface : ClassStructure → ℕ → ClassStructure
with_interface c index = record c { interfaces = c.interfaces ++ index ∷ [] }

abbrev pub with_field : ClassStructure → FieldInfo → ClassStructure
with_field c field = record c { fields = c.fields ++ field ∷ [] }

abbrev pub with_method : ClassStructure → MethodInfo → ClassStructure
with_method c method = record c { methods = c.methods ++ method ∷ [] }

abbrev pub with_attribute : ClassStructure → AttributeInfo → ClassStructure
with_attribute c attribute = record c { attributes = c.attributes ++ attribute ∷ [] }

-- the constant of a long, the high four bytes first (4.4.5)
abbrev pub long_constant : ℤ → Entry
long_constant z = Long (cast_unsigned w64 z / 4294967296) (cast_unsigned w64 z % 4294967296)

-- only constants joined
pub record IsGrown (old new : ClassStructure) : Type 0 where
  pub rest : new ≡ with_pool old new.constant_pool
  pub pool : IsGrownPool old.constant_pool new.constant_pool

-- ---- what each call adds

-- a class of version 52.0 without members
abbrev pub empty_class : List Entry → ℕ → ℕ → ℕ → ClassStructure
empty_class pool access_flags this_class super_class = record {
  minor_version = 0;
  major_version = 52;
  constant_pool = pool;
  access_flags = access_flags;
  this_class = this_class;
  super_class = super_class;
  interfaces = [];
  fields = [];
  methods = [];
  attributes = [];
}

-- with no superclass
pub record IsNewRoot (access_flags : ℕ) (name : List ℕ) (new : ClassStructure) : Type 0 where
  pub named : IsNamedAdded Class [] name new.constant_pool new.this_class
  pub is : new ≡ empty_class new.constant_pool access_flags new.this_class 0

-- with one
pub record IsNewClass (access_flags : ℕ) (name super_name : List ℕ) (new : ClassStructure) : Type 0 where
  pub named : AreClassesAdded [] name super_name new.constant_pool new.this_class new.super_class
  pub is : new ≡ empty_class new.constant_pool access_flags new.this_class new.super_class

pub record IsInterfaceAdded (old : ClassStructure) (name : List ℕ) (new : ClassStructure) : Type 0 where
  pub index : ℕ
  pub named : IsNamedAdded Class old.constant_pool name new.constant_pool index
  pub is : new ≡ with_interface (with_pool old new.constant_pool) index

pub record IsFieldAdded (old : ClassStructure) (access_flags : ℕ) (name descriptor : List ℕ) (attributes : List AttributeInfo)
    (new : ClassStructure) : Type 0 where
  pub name_index : ℕ
  pub descriptor_index : ℕ
  pub named : AreTextsAdded old.constant_pool name descriptor new.constant_pool name_index descriptor_index
  pub is : new ≡ with_field (with_pool old new.constant_pool)
      (record { access_flags = access_flags; name_index = name_index; descriptor_index = descriptor_index; attributes = attributes })

pub record IsAttributeAdded (old : ClassStructure) (name info : List ℕ) (new : ClassStructure) : Type 0 where
  pub index : ℕ
  pub named : IsAdded old.constant_pool (Utf8 name) new.constant_pool index
  pub is : new ≡ with_attribute (with_pool old new.constant_pool) (record { attribute_name_index = index; info = info })

-- a method without code
pub record IsBodilessAdded (old : ClassStructure) (access_flags : ℕ) (name descriptor : List ℕ) (new : ClassStructure) : Type 0 where
  pub name_index : ℕ
  pub descriptor_index : ℕ
  pub named : AreTextsAdded old.constant_pool name descriptor new.constant_pool name_index descriptor_index
  pub is : new ≡ with_method (with_pool old new.constant_pool)
      (record { access_flags = access_flags; name_index = name_index; descriptor_index = descriptor_index; attributes = [] })

-- the texts of a method with code: its name, its descriptor and `Code`
pub record AreMethodTextsAdded (old : List Entry) (name descriptor : List ℕ) (new : List Entry)
    (name_index descriptor_index code_name_index : ℕ) : Type 0 where
  pub between : List Entry
  pub named : AreTextsAdded old name descriptor between name_index descriptor_index
  pub code_named : IsAdded between (Utf8 (codes "Code")) new code_name_index

-- a method is begun: its names are in the pool, its code is empty
pub record IsBegun (old : List Entry) (access_flags : ℕ) (name descriptor : List ℕ) (new : List Entry) (method : MethodBuilder)
    : Type 0 where
  pub named : AreMethodTextsAdded old name descriptor new method.name_index method.descriptor_index method.code_name_index
  pub flags : method.access_flags ≡ access_flags
  pub empty : method.code ≡ no_steps

-- There is a pool with these texts, and it fits.
abbrev pub HasMethodRoom : List Entry → List ℕ → List ℕ → Type 0
HasMethodRoom old name descriptor =
    (new : List Entry) × (name_index : ℕ) × (descriptor_index : ℕ) × (code_name_index : ℕ)
    × AreMethodTextsAdded old name descriptor new name_index descriptor_index code_name_index × IsTrue (pool_fits new)

-- a StackMapTable with these contents, where there are some (4.7.4)
abbrev pub IsStackMapAdded : List Entry → Option (List ℕ) → List Entry → List AttributeInfo → Type 0
IsStackMapAdded old None new attributes = (new ≡ old) × (attributes ≡ [])
IsStackMapAdded old (Some contents) new attributes =
    (index : ℕ) × IsAdded old (Utf8 (codes "StackMapTable")) new index
    × (attributes ≡ record { attribute_name_index = index; info = contents } ∷ [])

abbrev pub HasStackMapRoom : List Entry → Option (List ℕ) → Type 0
HasStackMapRoom old contents =
    (new : List Entry) × (attributes : List AttributeInfo) × IsStackMapAdded old contents new attributes × IsTrue (pool_fits new)

-- the method that was begun, with its code
abbrev pub coded_method : MethodBuilder → ℕ → ℕ → AssembledCode → List AttributeInfo → MethodInfo
coded_method m max_stack max_locals parts attributes = record {
  access_flags = m.access_flags;
  name_index = m.name_index;
  descriptor_index = m.descriptor_index;
  attributes = Code m.code_name_index (record {
    max_stack = max_stack;
    max_locals = max_locals;
    code = parts.code;
    exception_table = parts.exception_table;
    attributes = attributes;
  }) ∷ [];
}

pub record IsEnded (old : ClassStructure) (method : MethodBuilder) (max_stack max_locals : ℕ) (new : ClassStructure) : Type 0 where
  pub parts : AssembledCode
  pub attributes : List AttributeInfo
  pub assembled : assembled_code method.code ≡ Ok parts
  pub named : IsStackMapAdded old.constant_pool parts.stack_map_table new.constant_pool attributes
  pub is : new ≡ with_method (with_pool old new.constant_pool) (coded_method method max_stack max_locals parts attributes)

-- there is no room for the name of the StackMapTable
pub record HasNoMapRoom (old : ClassStructure) (method : MethodBuilder) : Type 0 where
  pub parts : AssembledCode
  pub assembled : assembled_code method.code ≡ Ok parts
  pub none : ¬ HasStackMapRoom old.constant_pool parts.stack_map_table

-- why a method is not ended: the host's memory was refused, its code has a fault, or there is no room for the StackMapTable
abbrev pub IsEndFault : ClassStructure → MethodBuilder → BuilderFault → Type 0
IsEndFault old method fault =
    (fault ≡ OutOfMemory) ⊎ ((assembled_code method.code ≡ Err fault) ⊎ ((fault ≡ TooLarge) × HasNoMapRoom old method))

-- ---- what calls add to the pool of a class

abbrev pub AddsInteger : ClassStructure → ℤ → ClassStructure → ℕ → Type 0
AddsInteger old value new index = IsAdded old.constant_pool (Integer (cast_unsigned w32 value)) new.constant_pool index

abbrev pub HasIntegerRoom : ClassStructure → ℤ → Type 0
HasIntegerRoom c value = HasRoom (IsAdded c.constant_pool (Integer (cast_unsigned w32 value)))

abbrev pub AddsTexts : ClassStructure → List ℕ → List ℕ → ClassStructure → ℕ × ℕ → Type 0
AddsTexts old first second new indices = AreTextsAdded old.constant_pool first second new.constant_pool indices.0 indices.1

abbrev pub NamesMember : ClassStructure → List ℕ → List ℕ → List ℕ → ClassStructure → ℕ × ℕ → Type 0
NamesMember old class name descriptor new indices =
    IsMemberNamed old.constant_pool class name descriptor new.constant_pool indices.0 indices.1

abbrev pub HasNameRoom : ClassStructure → List ℕ → List ℕ → List ℕ → Type 0
HasNameRoom c class name descriptor = HasRoomForTwo (IsMemberNamed c.constant_pool class name descriptor)

abbrev pub AddsMember : (ℕ → ℕ → Entry) → ClassStructure → List ℕ → List ℕ → List ℕ → ClassStructure → ℕ → Type 0
AddsMember constant old class name descriptor new index =
    IsMemberAdded constant old.constant_pool class name descriptor new.constant_pool index

abbrev pub MemberFits : (ℕ → ℕ → Entry) → ClassStructure → List ℕ → List ℕ → List ℕ → Type 0
MemberFits constant c class name descriptor = HasRoom (IsMemberAdded constant c.constant_pool class name descriptor)

abbrev pub BeginsMethod : ClassStructure → ℕ → List ℕ → List ℕ → ClassStructure → MethodBuilder → Type 0
BeginsMethod old access_flags name descriptor new method = IsBegun old.constant_pool access_flags name descriptor new.constant_pool method
